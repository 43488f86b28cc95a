-- The replay law and the order law of what is told of whole runs of a script: end, output, verdict and records made.
use Rattle.std.specs.Prelude.{ℕ, ◌≤◌, List, ◌≡◌}
use Rattle.std.proofs.Common.{[], ◌++◌}
use Rattle.turk_base.specs.Asks.{Rec}
use Rattle.turk_base.specs.Names.{Units}
use Rattle.turk_base.specs.State.{independent}
use Rattle.js_tree.specs.declared.Script.{Script}
use Rattle.js_tree.specs.Eval.{Eval, PlainRun, meaning, world, Grown, Budget}
use Rattle.js_tree.specs.Report.{EndOfRun, Finished, Uncaught, Refused, Waiting, Spent, Undrawn, Diverged, Missing}
use Rattle.js_tree.specs.World.{World}

-- the run ended: it finished, left a value uncaught or was refused
abbrev pub Ended : EndOfRun → Type 0
Ended Finished = Unit {0}
Ended (Uncaught t) = Unit {0}
Ended (Refused y) = Unit {0}
Ended Waiting = ⊥
Ended Spent = ⊥
Ended Undrawn = ⊥
Ended (Diverged d) = ⊥
Ended Missing = ⊥

-- A run that ended: over its trace with what it made, with no replies and no draws, the same end, output and verdict come, and nothing is made.
abbrev pub ReplayReports : Type 0
ReplayReports = (S : Script) (E : World) (T : List Rec) (n : ℕ) → Ended (Eval S E T n).end →
    ((Eval S (world E.session [] []) (T ++ (Eval S E T n).made) n).end ≡ (Eval S E T n).end) ×
    ((Eval S (world E.session [] []) (T ++ (Eval S E T n).made) n).output ≡ (Eval S E T n).output) ×
    ((Eval S (world E.session [] []) (T ++ (Eval S E T n).made) n).verdict ≡ (Eval S E T n).verdict) ×
    ((Eval S (world E.session [] []) (T ++ (Eval S E T n).made) n).made ≡ [])

-- A run from a grown trace that ended, is independent and leaves T2: the plain run with the same replies and the draws of T2
-- has the same end and output, with any fuel of at least the budget.
abbrev pub OrderReports : Type 0
OrderReports = (name : Units) (S : Script) (n : ℕ) (T : List Rec) (R : List (Units × Units)) → Grown name (meaning S) n T R →
    (T2 : List Rec) → T2 ≡ T ++ (Eval S (world name R T2) T n).made →
    Ended (Eval S (world name R T2) T n).end → (Eval S (world name R T2) T n).verdict ≡ independent →
    (m : ℕ) → Budget T2 n ≤ m →
    ((PlainRun S (world name R T2) m).end ≡ (Eval S (world name R T2) T n).end) ×
    ((PlainRun S (world name R T2) m).output ≡ (Eval S (world name R T2) T n).output)
