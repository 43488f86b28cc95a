-- What can't be deleted of a cell: the `length` of an array, the `prototype` of a function (ECMA-262 3rd ed. 15.4.5.2, 15.3.5.2).
use Rattle.std.specs.Prelude.{Bool, false}
use Rattle.turk_base.specs.Cells.{length_key}
use Rattle.turk_base.specs.Steps.{prototype_key}
use Rattle.value_cells.specs.declared.CellKind.{CellKind}
use Rattle.value_cells.specs.declared.CellKind.TheVariants.{Frame, Plain, Array, Function, BuiltIn}
use Rattle.value_cells.specs.Held.{Key, key_eq}

abbrev pub stays_in : CellKind → Key → Bool
stays_in (Frame p) key = false
stays_in (Plain p) key = false
stays_in Array key = key_eq length_key key
stays_in (Function n f) key = key_eq prototype_key key
stays_in (BuiltIn w) key = key_eq prototype_key key
