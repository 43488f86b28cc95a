-- Entries that are tasks, and the tasks of a file. Own rules.
use Rattle.std.specs.Prelude.{◌≡◌, ◌⊎◌, ⊤, ◌+◌, ◌<◌, ◌≤◌, ℕ, Bool, true, false, not, ◌&&◌, List, [], ◌∷◌, ◌++◌, length, take, slice_index_or, Option, Some, None, IsSome, is_some, if◌then◌else◌}
use Rattle.turk_base.specs.Trace.{answer}
use Rattle.board_model.specs.Tokens.{Tasks, HasDistinctTokens}
use Rattle.gate_log.specs.Log.{IsLog}
use Rattle.record_bytes.specs.Limits.{SpellsTask}
use Rattle.record_bytes.specs.Reading.{task_at, whole}
use Rattle.ledger_board.specs.Bytes.{entries_in}

-- each entry is the spelling of the task at its place
abbrev pub AreTasks : List (List ℕ) → Tasks → Type 0
AreTasks [] [] = ⊤
AreTasks [] (t ∷ ts) = ⊥
AreTasks (e ∷ es) [] = ⊥
AreTasks (e ∷ es) (t ∷ ts) = SpellsTask e t.0 t.1 × AreTasks es ts

-- the bytes are a log whose entries are these tasks, no two of one token
pub record IsLedger (bytes : List ℕ) (ts : Tasks) : Type 0 where
  pub entries : List (List ℕ)
  pub log : IsLog bytes entries
  pub spelled : AreTasks entries ts
  pub distinct : HasDistinctTokens ts

-- the entry is no task, or its token is one of these tasks'
abbrev pub IsNoTask : Tasks → List ℕ → Type 0
IsNoTask ts e = ((token text : List ℕ) → SpellsTask e token text → ⊥) ⊎ ((token : List ℕ) × (text : List ℕ) × SpellsTask e token text × IsSome (answer ts token))

-- the entries before the i-th are tasks of distinct tokens, and this one is no task or repeats a token
pub record IsBadTask (es : List (List ℕ)) (i : ℕ) : Type 0 where
  pub before : Tasks
  pub inside : i < length es
  pub spelled : AreTasks (take i es) before
  pub distinct : HasDistinctTokens before
  pub bad : IsNoTask before (slice_index_or es i [])

-- the task that an entry reads as, before others
abbrev pub with_task : Option (List ℕ × List ℕ) → Tasks → Tasks
with_task None ts = ts
with_task (Some t) ts = t ∷ ts

-- the tasks among entries
unfoldable pub tasks_of : List (List ℕ) → Tasks
tasks_of [] = []
tasks_of (e ∷ es) = with_task (whole task_at e) (tasks_of es)

abbrev pub has_distinct : Tasks → Bool
has_distinct [] = true
has_distinct (t ∷ ts) = not (is_some (answer ts t.0)) && has_distinct ts

-- the tasks of a file; none where two entries share a token
unfoldable pub ledger_tasks : List ℕ → Tasks
ledger_tasks bytes = if has_distinct (tasks_of (entries_in bytes)) then tasks_of (entries_in bytes) else []
