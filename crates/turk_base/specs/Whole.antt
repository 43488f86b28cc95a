-- Which integers are numbers of the language (own rule: whole, from -2^53 to 2^53).
use Rattle.std.specs.Prelude.{ℕ, ◌^◌, ◌-◌, ℤ, pos, negsuc, nat_abs, nat_le, ◌≤ℤ◌, Bool, Option, Some, None, if◌then◌else◌}

-- the greatest number
abbrev pub greatest : ℕ
greatest = 2 ^ 53

-- an integer is a number of the language
pub record IsWhole (z : ℤ) : Type 0 where
  pub low : negsuc (2 ^ 53 - 1) ≤ℤ z
  pub high : z ≤ℤ pos (2 ^ 53)

-- the same as a test
abbrev pub in_range : ℤ → Bool
in_range z = nat_le (nat_abs z) (2 ^ 53)

-- the number, where it is one of the language
abbrev pub whole_or_none : ℤ → Option ℤ
whole_or_none z = if in_range z then Some z else None
