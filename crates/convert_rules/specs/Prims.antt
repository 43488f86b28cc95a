-- The values that a primitive, a reading and an answer of the code stand for.
use Rattle.std.specs.Prelude.{Bool, Option, Some, None, Result, Ok, Err}
use Rattle.turk_base.specs.Values.{Val, Undefined, Null, Truth, Number, Text, Refusal, NotWhole}
use Rattle.turk_base.specs.Conversions.{Is, Nan, Outside}
use Rattle.turk_base.specs.Conversions as spec
use Rattle.turk_base.specs.Operators.{Pair, Unordered, less}
use Rattle.convert_rules.specs.declared.kinds.Prim.{Prim}
use Rattle.convert_rules.specs.declared.kinds.Prim.TheVariants as prim
use Rattle.convert_rules.specs.declared.kinds.Reading.{Reading}
use Rattle.convert_rules.specs.declared.kinds.Reading.TheVariants as code

abbrev pub val_of : Prim → Val
val_of prim.Undefined = Undefined
val_of prim.Null = Null
val_of (prim.Truth b) = Truth b
val_of (prim.Number n) = Number n
val_of (prim.Text t) = Text t

abbrev pub reading_of : Reading → spec.Reading
reading_of (code.Whole n) = Is n
reading_of code.Nan = Nan
reading_of code.Outside = Outside

-- an answer of `loose`: None stands for the refusal NotWhole
abbrev pub equal_of : Option Bool → Result Bool Refusal
equal_of (Some b) = Ok b
equal_of None = Err NotWhole

-- what `less` answers for what is compared: Some(None) where a reading is Nan
abbrev pub order_of : Pair → Option Bool
order_of Unordered = None
order_of p = Some (less p)

-- None where the comparison is refused
abbrev pub less_of : Result Pair Refusal → Option (Option Bool)
less_of (Ok p) = Some (order_of p)
less_of (Err why) = None
