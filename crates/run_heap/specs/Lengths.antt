-- What a length is set to, what kind is an array, and the keys that a shorter length deletes.
use Rattle.std.specs.Prelude.{◌≡◌, ◌≤◌, ℕ, ℤ, Bool, true, false, List, [], ◌∷◌, Result, Ok, Err}
use Rattle.turk_base.specs.Values as model
use Rattle.turk_base.specs.Values.{Refusal, Val}
use Rattle.turk_base.specs.Names.{Name}
use Rattle.turk_base.specs.Cells.{KeyClass, index, class_of}
use Rattle.turk_base.specs.Cells as meaning
use Rattle.convert_rules.specs.declared.kinds.Prim.{Prim}
use Rattle.convert_rules.specs.Prims.{val_of}
use Rattle.std.specs.Prelude.{Option, Some, None, pos, negsuc, not, nat_lt, if◌then◌else◌}
use Rattle.value_cells.specs.declared.Value.{Value}
use Rattle.value_cells.specs.declared.Value.TheVariants.{Number}
use Rattle.value_cells.specs.declared.OpStop.{OpStop}
use Rattle.value_cells.specs.declared.OpStop.TheVariants.{NotWhole, NoPrimitive, TooLong, Spent, Memory}
use Rattle.value_cells.specs.declared.CellKind.{CellKind}
use Rattle.value_cells.specs.declared.CellKind.TheVariants.{Frame, Plain, Array, Function, BuiltIn}
use Rattle.value_cells.specs.Held.{Key}
use Rattle.run_heap.specs.declared.classes.KeyClass.{KeyClass as CodeClass}
use Rattle.run_heap.specs.declared.classes.KeyClass.TheVariants as code

-- the number that a value is, or why it is none
abbrev pub NumberIs : Result ℤ OpStop → Result ℤ Refusal → Type 0
NumberIs (Ok z) r = r ≡ Ok z
NumberIs (Err NotWhole) r = r ≡ Err model.NotWhole
NumberIs (Err NoPrimitive) r = r ≡ Err model.NoPrimitive
NumberIs (Err TooLong) r = ⊥
NumberIs (Err Spent) r = ⊥
NumberIs (Err Memory) r = Unit {0}

-- the primitive that a value is, none for an object
abbrev pub PrimitiveIs : Option Prim → Val → Type 0
PrimitiveIs (Some p) v = val_of p ≡ v
PrimitiveIs None v = (c : Name) × (v ≡ model.Object c)

abbrev pub is_array : CellKind → Bool
is_array (Frame p) = false
is_array (Plain p) = false
is_array Array = true
is_array (Function n f) = false
is_array (BuiltIn w) = false

-- what a key is for an array
abbrev pub class_in : CodeClass → KeyClass
class_in (code.Index i) = index i
class_in code.Past = meaning.past
class_in code.Named = meaning.named

-- each key is an element, of index m at least
abbrev pub AllFrom : ℕ → List Key → Type 0
AllFrom m [] = Unit {0}
AllFrom m (k ∷ ks) = ((i : ℕ) × (class_of k ≡ index i) × (m ≤ i)) × AllFrom m ks

-- the length that is found is at most i
abbrev pub grows_in : ℕ → Option Value → Bool
grows_in i (Some (Number (pos n))) = not (nat_lt i n)
grows_in i _ = false

-- the length that a number is, at most 1,000,000
abbrev pub length_or_none : ℤ → Option ℕ
length_or_none (pos n) = if nat_lt 1000000 n then None else Some n
length_or_none (negsuc n) = None
