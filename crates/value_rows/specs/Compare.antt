-- What is compared of two values that are not both texts, as the code holds it.
use Rattle.std.specs.Prelude.{Option, Some, None}
use Rattle.turk_base.specs.Operators.{Pair, Numbers, Unordered}
use Rattle.value_rows.specs.declared.comparisons.Sides.{Sides}

abbrev pub numbers_in : Option Sides → Pair
numbers_in (Some s) = Numbers s.left s.right
numbers_in None = Unordered
