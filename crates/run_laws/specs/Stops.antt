-- The laws of stopped runs: what a run made before it was stopped, with the draws that the trace left tells of.
use Rattle.std.specs.Prelude.{ℕ, List, ◌≡◌}
use Rattle.std.proofs.Common.{[], ◌∷◌, ◌++◌}
use Rattle.turk_base.specs.declared.Record.{Record}
use Rattle.turk_base.specs.declared.Record.TheVariants as kept
use Rattle.turk_base.specs.Asks.{Rec, rec}
use Rattle.turk_base.specs.Names.{Path, Units}
use Rattle.turk_base.specs.Prog.{Prog}
use Rattle.js_tree.specs.Eval.{eval, world, Grown}
use Rattle.js_tree.specs.Run.{waits}
use Rattle.js_tree.specs.World.{World}

-- the list begins with this one
pub record Front (front l : List Rec) : Type 0 where
  pub rest : List Rec
  pub is : l ≡ front ++ rest

-- the same session and replies, with the draws that a trace tells of
abbrev pub by_draws : World → List Rec → World
by_draws E T = world E.session E.pairs T

-- Whatever draws a run had, words or any other: with the draws of its trace and of what it made the run is the same.
abbrev pub RecordedDraws : Type 0
RecordedDraws = (S : Prog) (E : World) (T : List Rec) (n : ℕ) → eval S (by_draws E (T ++ (eval S E T n).made)) T n ≡ eval S E T n

-- A stop after any of the records: over the same trace, with the draws of the trace that is left, these records are made first.
abbrev pub StopsBegin : Type 0
StopsBegin = (S : Prog) (E : World) (T : List Rec) (n : ℕ) (P1 : List Rec) → Front P1 (eval S E T n).made →
    Front P1 (eval S (by_draws E (T ++ P1)) T n).made

abbrev pub no_draw : Record → Type 0
no_draw (kept.Post t) = Unit {0}
no_draw (kept.Reply t x) = Unit {0}
no_draw (kept.Draw m k) = ⊥
no_draw (kept.Once d) = Unit {0}

-- Where the next record is no draw, it comes next there too.
abbrev pub StopsNext : Type 0
StopsNext = (S : Prog) (E : World) (T : List Rec) (n : ℕ) (P1 : List Rec) (p : Path) (x : Record) → no_draw x →
    Front (P1 ++ (rec p x ∷ [])) (eval S E T n).made → Front (P1 ++ (rec p x ∷ [])) (eval S (by_draws E (T ++ P1)) T n).made

-- So a stop keeps a history grown, whatever draws the run had.
abbrev pub StopsGrow : Type 0
StopsGrow = (S : Prog) (E : World) (T : List Rec) (n : ℕ) (P1 : List Rec) → Grown E.session S n T E.pairs → Front P1 (eval S E T n).made →
    (added : List (Units × Units)) → Grown E.session S n (T ++ P1) (E.pairs ++ added)

-- Where it is a post, the run over the trace that is left, with no replies and no draws, makes it first.
abbrev pub PostRests : Type 0
PostRests = (S : Prog) (E : World) (T : List Rec) (n : ℕ) (P1 : List Rec) (p : Path) (t : Units) →
    Front (P1 ++ (rec p (kept.Post t) ∷ [])) (eval S E T n).made →
    Front (rec p (kept.Post t) ∷ []) (eval S (world E.session [] []) (T ++ P1) n).made

-- A run that waits: over the trace with what it made, with no replies and no draws, it waits again, with the same state, and makes nothing.
abbrev pub WaitsAgain : Type 0
WaitsAgain = (S : Prog) (E : World) (T : List Rec) (n : ℕ) → (eval S E T n).out ≡ waits →
    ((eval S (world E.session [] []) (T ++ (eval S E T n).made) n).out ≡ waits) ×
    ((eval S (world E.session [] []) (T ++ (eval S E T n).made) n).st ≡ (eval S E T n).st) ×
    ((eval S (world E.session [] []) (T ++ (eval S E T n).made) n).made ≡ [])
