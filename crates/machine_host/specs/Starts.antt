-- A run begins.
use Rattle.std.specs.Prelude.{◌≡◌, ℕ, false, List, []}
use Rattle.turk_base.specs.Names.{Units, root}
use Rattle.turk_base.specs.Start.{start}
use Rattle.turk_base.specs.Asks.{Rec}
use Rattle.value_cells.specs.Seen.{Naming, Fits}
use Rattle.run_host.specs.Moment.{alone, Moment}

-- A run stands at its beginning: the script's scope, so much fuel, and nothing done.
pub record Begins (session : Units) (trace : List Rec) (pairs : List (Units × Units)) (fuel : ℕ) (words : ℕ → ℕ) (m : Moment alone) : Type 0 where
  pub first : (nu : Naming) → Fits nu m.heap.names → m.heap.first nu ≡ start
  pub path : m.heap.scope.path ≡ root
  pub branch : m.heap.scope.branch ≡ root
  pub body : m.heap.scope.body ≡ false
  pub left : m.heap.left ≡ fuel
  pub forks : m.forks ≡ 0
  pub waits : m.waits ≡ []
  pub session_is : m.session ≡ session
  pub trace_is : m.trace ≡ trace
  pub pairs_are : m.pairs ≡ pairs
  pub made : m.made ≡ []
  pub words_are : m.words ≡ words
