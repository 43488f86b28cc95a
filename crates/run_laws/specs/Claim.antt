-- The laws of whole runs.
use Rattle.std.specs.Prelude.{ℤ, ℕ, ◌≤◌, List, ◌≡◌, ◌⊎◌, Some}
use Rattle.std.proofs.Common.{[], ◌++◌}
use Rattle.turk_base.specs.Asks.{Rec, answer, find}
use Rattle.turk_base.specs.Names.{In, Path, Units}
use Rattle.turk_base.specs.Prog.{Prog}
use Rattle.turk_base.specs.State.{independent}
use Rattle.js_tree.specs.Eval.{eval, world, Grown, Budget}
use Rattle.js_tree.specs.Run.{End, ret, thr, bar, ended, halted, spent}
use Rattle.js_tree.specs.World.{World, drawn_of}

-- The order of replies vanishes: a run from a grown trace that ends without a reason has the end and the text of the plain run.
abbrev pub OrderVanishes : Type 0
OrderVanishes = (name : Units) (S : Prog) (n : ℕ) (T : List Rec) (R : List (Units × Units)) → Grown name S n T R →
    (T2 : List Rec) → T2 ≡ T ++ (eval S (world name R T2) T n).made →
    (e : End) → (eval S (world name R T2) T n).out ≡ ended e → (eval S (world name R T2) T n).st.verdict ≡ independent → (m : ℕ) →
    ((eval S (world name R T2) [] m).out ≡ halted spent) ⊎
    (((eval S (world name R T2) [] m).out ≡ ended e) × ((eval S (world name R T2) [] m).st ≡ (eval S (world name R T2) T n).st))

-- The replay law: over the trace with what the run made, and no replies and draws, the same end and state come, and nothing is made.
abbrev pub ReplayLaw : Type 0
ReplayLaw = (S : Prog) (n : ℕ) (E : World) (T : List Rec) (e : End) → (eval S E T n).out ≡ ended e →
    ((eval S (world E.session [] []) (T ++ (eval S E T n).made) n).out ≡ ended e) ×
    ((eval S (world E.session [] []) (T ++ (eval S E T n).made) n).st ≡ (eval S E T n).st) ×
    ((eval S (world E.session [] []) (T ++ (eval S E T n).made) n).made ≡ [])

-- The same with the fuel that is enough.
abbrev pub InBudget : Type 0
InBudget = (name : Units) (S : Prog) (n : ℕ) (T : List Rec) (R : List (Units × Units)) → Grown name S n T R →
    (T2 : List Rec) → T2 ≡ T ++ (eval S (world name R T2) T n).made →
    (e : End) → (eval S (world name R T2) T n).out ≡ ended e → (eval S (world name R T2) T n).st.verdict ≡ independent →
    (m : ℕ) → Budget T2 n ≤ m →
    ((eval S (world name R T2) [] m).out ≡ ended e) × ((eval S (world name R T2) [] m).st ≡ (eval S (world name R T2) T n).st)

-- Where that end is a value or a throw, the plain run makes each record of the trace that the run leaves.
abbrev pub completed : End → Type 0
completed (ret v) = Unit {0}
completed (thr v) = Unit {0}
completed (bar w) = ⊥

abbrev pub RecordsThere : Type 0
RecordsThere = (name : Units) (S : Prog) (n : ℕ) (T : List Rec) (R : List (Units × Units)) → Grown name S n T R →
    (T2 : List Rec) → T2 ≡ T ++ (eval S (world name R T2) T n).made →
    (e : End) → completed e → (eval S (world name R T2) T n).out ≡ ended e → (eval S (world name R T2) T n).st.verdict ≡ independent → (m : ℕ) → Budget T2 n ≤ m →
    (q : Rec) → In Rec q T2 → In Rec q (eval S (world name R T2) [] m).made

-- An ended, independent run from a grown trace.
pub record EndsWell (name : Units) (S : Prog) (n : ℕ) (T : List Rec) (R : List (Units × Units)) (T2 : List Rec) (e : End) : Type 0 where
  pub grown : Grown name S n T R
  pub leaves : T2 ≡ T ++ (eval S (world name R T2) T n).made
  pub ends : (eval S (world name R T2) T n).out ≡ ended e
  pub clean : (eval S (world name R T2) T n).st.verdict ≡ independent

-- Two lists of replies, and two traces, agree where both have a reply to a token, and where both have a draw at a path.
abbrev pub AgreeReplies : List (Units × Units) → List (Units × Units) → Type 0
AgreeReplies R R' = (t : Units) (x x' : Units) → answer R t ≡ Some x → answer R' t ≡ Some x' → x ≡ x'

abbrev pub AgreeDraws : List Rec → List Rec → Type 0
AgreeDraws T T' = (p : Path) (m : ℤ) (x x' : ℤ) → drawn_of m (find p T) ≡ Some x → drawn_of m (find p T') ≡ Some x' → x ≡ x'

-- Two histories of one script whose replies and draws agree where both have one: the same end, the same text.
abbrev pub TwoHistories : Type 0
TwoHistories = (name : Units) (S : Prog) (n n' : ℕ) (T T' : List Rec) (R R' : List (Units × Units)) (T2 T2' : List Rec) (e e' : End) →
    EndsWell name S n T R T2 e → EndsWell name S n' T' R' T2' e' → AgreeReplies R R' → AgreeDraws T2 T2' →
    (e ≡ e') × ((eval S (world name R T2) T n).st.text ≡ (eval S (world name R' T2') T' n').st.text)
