-- Words for parts of a literal.
use Rattle.std.specs.Prelude.{ℕ, suc, ◌^◌, ◌<◌, ◌≡◌, length, take, drop, nat_le, Bool, Option, Some, None, if◌then◌else◌, ◌==◌}
use Rattle.turk_base.specs.Names.{Units}
use Rattle.turk_base.specs.Conversions.{before, after, point_fits}

-- a number up to 2^53
abbrev pub value_or_none : ℕ → Option ℕ
value_or_none n = if nat_le n (2 ^ 53) then Some n else None

-- digits, with a point or without one
abbrev pub pointed : Units → Bool
pointed t = point_fits (before (◌== 46) t) (after (◌== 46) t)

-- the place of the first unit with the test, none where there is none
abbrev pub CutsAt : (ℕ → Bool) → Units → Option ℕ → Type 0
CutsAt test t None = (before test t ≡ t) × (after test t ≡ None)
CutsAt test t (Some i) = (i < length t) × ((before test t ≡ take i t) × (after test t ≡ Some (drop (suc i) t)))
