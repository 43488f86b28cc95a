-- What holds of an asker from the entry of a run to its exit (own rules).
use Rattle.std.specs.Prelude.{◌≡◌, ◌⊎◌, ℕ, List, [], ◌++◌, Some}
use Rattle.outside.specs.Faults.{Rose}
use Rattle.turk_base.specs.Names.{Units, In, path_in}
use Rattle.turk_base.specs.Asks.{Rec, rec}
use Rattle.turk_base.specs.Told.{records_of}
use Rattle.turk_base.specs.Trace.{answer, token_of}
use Rattle.turk_base.specs.declared.Entry.{Entry}
use Rattle.turk_base.specs.declared.Record.TheVariants.{Post}
use Rattle.js_tree.specs.declared.Script.{Script}
use Rattle.js_tree.specs.Eval.{eval, meaning, world, Left}
use Rattle.ask_model.specs.Asker.{Seen as Asked, Pairs, entry}

-- Each trace that a stop since the entry may leave is that of the entry, followed by a front of the records that the run makes
-- with its draws.
abbrev pub LeavesLeft : {A : Type 0} → (A → Asked) → (A → ℕ) → (A → ℕ → List Entry → Type 0) → Script → Units → ℕ → A → A → Type 0
LeavesLeft seen moment left_since S session fuel old new =
    (t : List Entry) → left_since new (moment old) t → Left session (meaning S) fuel (records_of (seen old).trace) (seen old).replies (records_of t)

-- The post at this path with this text: the run makes it with the draws of this trace; and it stands in the trace, or the run over
-- it with no replies and no draws makes it.
pub record RestsOn (S : Script) (session : Units) (fuel : ℕ) (old : Asked) (path text : List ℕ) (t : List Entry) : Type 0 where
  pub made : In Rec (rec (path_in path) (Post text)) (eval (meaning S) (world session old.replies (records_of t)) (records_of old.trace) fuel).made
  pub rests : In Entry (entry path (Post text)) t ⊎ In Rec (rec (path_in path) (Post text)) (eval (meaning S) (world session [] []) (records_of t) fuel).made

-- a task that was added: that of a post that rests on each trace that a stop now leaves
abbrev pub IsAdded : Script → Units → ℕ → Asked → (List Entry → Type 0) → List ℕ × List ℕ → Type 0
IsAdded S session fuel old leaves task = (path : List ℕ) × (task.0 ≡ token_of session path) × ((t : List Entry) → leaves t → RestsOn S session fuel old path task.1 t)

-- The tasks of the board: those of the entry, followed by those of posts of the run; each post whose record was made is among them
-- with its text; and where no count of faults rose, each task that was added has its record. (A count that stands at the greatest
-- number of 64 bits may have risen.)
pub record HasTasks (S : Script) (session : Units) (fuel : ℕ) (leaves : List Entry → Type 0) (old new : Asked) : Type 0 where
  pub more : Pairs
  pub tasks : new.tasks ≡ old.tasks ++ more
  pub added : (task : List ℕ × List ℕ) → In (List ℕ × List ℕ) task more → IsAdded S session fuel old leaves task
  pub held : (path text : List ℕ) → In Entry (entry path (Post text)) new.made → answer new.tasks (token_of session path) ≡ Some text
  pub kept : (Rose old.disk_faults new.disk_faults → ⊥) → (Rose old.board_faults new.board_faults → ⊥) → (task : List ℕ × List ℕ) → In (List ℕ × List ℕ) task more
      → (path : List ℕ) × (task.0 ≡ token_of session path) × In Entry (entry path (Post task.1)) new.made
