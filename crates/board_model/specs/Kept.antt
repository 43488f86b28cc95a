-- What a board in memory is seen as (own rules).
use Rattle.std.specs.Prelude.{◌+◌, ◌-◌, ◌^◌, min, ℕ, List}
pub use Rattle.board_model.specs.Tokens.{Tasks, HasDistinctTokens}
use Rattle.board_model.specs.Tokens.{Tasks}

-- its tasks, the numbers of the posts at which it fails, how many posts it had, and how many of them failed
pub record Kept : Type 0 where
  pub tasks : Tasks
  pub fails : List ℕ
  pub calls : ℕ
  pub faults : ℕ

-- a count after one more, which stands still at the end of its type
abbrev pub one_more : ℕ → ℕ
one_more count = min (count + 1) (2 ^ 64 - 1)
