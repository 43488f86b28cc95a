-- The listing of keys: of one cell, and one key.
use Rattle.std.specs.Prelude.{List, [], ◌∷◌, ◌++◌, Bool, false, if◌then◌else◌}
use Rattle.turk_base.specs.Names.{Name}
use Rattle.turk_base.specs.Cells.{list, length_key}
use Rattle.turk_base.specs.State.{known_at}
use Rattle.turk_base.specs.Steps.{Small, give, step, edit, has_key, add_keys, without_length}
use Rattle.value_cells.specs.declared.CellKind.{CellKind}
use Rattle.value_cells.specs.declared.CellKind.TheVariants.{Frame, Plain, Array, Function, BuiltIn}
use Rattle.value_cells.specs.Held.{Key, key_eq}

-- a cell's shape is touched, and those of its keys that are listed and not in had come after them
abbrev pub one_listed : List Key → Name → Small (List Key)
one_listed had c = step (known_at c) (λ k. edit c list (λ ks. give (add_keys had (without_length k.kind ks))))

-- a key after the others, if it is not one of them
abbrev pub add_one : Key → List Key → List Key
add_one key had = if has_key key had then had else had ++ (key ∷ [])

-- the `length` of an array is not listed
abbrev pub hidden : CellKind → Key → Bool
hidden (Frame p) key = false
hidden (Plain p) key = false
hidden Array key = key_eq length_key key
hidden (Function n f) key = false
hidden (BuiltIn w) key = false
