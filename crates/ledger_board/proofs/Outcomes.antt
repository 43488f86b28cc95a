-- What a post leaves, and why it is answered so.
use Rattle.std.proofs.Common.{◌≡◌, ◌⊎◌, inl, inr, ⊎_elim, ℕ, ◌+◌, ◌<◌, ◌≤◌, Bool, true, false, List, [], ◌∷◌, ◌++◌, length, take, get_or, Option, Some, None, Result, Ok, Err, refl, sym, ap, subst, ◌∙◌, arith}
use Rattle.std.specs.Prelude.{IsErrOf, OnOk}
use Rattle.std.proofs.lemmas.Bool.{false≢true}
use Rattle.turk_base.specs.Trace.{answer}
use Rattle.board_model.specs.Tokens.{Tasks, HasDistinctTokens}
use Rattle.board_model.specs.Board.{IsHonest}
use Rattle.board_model.specs.declared.Posted.{Posted}
use Rattle.board_model.specs.declared.Posted.TheVariants.{New, Held}
use Rattle.board_model.proofs.Added.{tasks_push}
use Rattle.disk_model.specs.Disk.{LeavesOnly, Rose}
use Rattle.gate_log.specs.Log.{IsLog, IsGated, WithOrWithout}
use Rattle.gate_log.specs.GateLog.{FitsIn, entries_of, is_closed_of, IsOn}
use Rattle.gate_log.specs.GateLog as logs
use Rattle.gate_log.specs.declared.log.GateLog.{GateLog}
use Rattle.gate_log.specs.declared.LogStop.{LogStop}
use Rattle.gate_log.specs.declared.LogStop.TheVariants as log
use Rattle.record_bytes.specs.Limits.{SpellsTask}
use Rattle.record_bytes.specs.Spelling.{task_bytes}
use Rattle.ledger_board.specs.Tasks.{AreTasks, IsNoTask, IsBadTask, IsLedger, ledger_tasks}
use Rattle.ledger_board.specs.Stops.{stop_of, IsRefusal, HoldsTask, IsAnswer, Leaves, Reads, IsPosted, closed_after}
use Rattle.ledger_board.specs.Board.{IsOpen, IsSound, is_opened, is_shut, board_answer, cause_after}
use Rattle.ledger_board.specs.declared.board.State.{State}
use Rattle.ledger_board.specs.declared.board.State.TheVariants.{Unopened, Opened, Shut}
use Rattle.ledger_board.specs.declared.LedgerCause.TheVariants.{Disk, Broken, BadTask, Full, Closed}
use Rattle.ledger_board.specs.declared.stop.LedgerStop.{LedgerStop}
use Rattle.ledger_board.specs.declared.stop.LedgerStop.TheVariants.{Cause, Memory}
use Rattle.ledger_board.specs.declared.ledger.Ledger.{Ledger}
use Rattle.ledger_board.proofs.FileTasks.{ledger_is, ledger_distinct, tasks_add}

is_fault : LogStop → Bool
is_fault log.Fault = true
is_fault (log.Broken place) = false
is_fault log.Full = false
is_fault log.Closed = false
is_fault log.Memory = false

is_disk : LedgerStop → Bool
is_disk (Cause Disk) = true
is_disk (Cause (Broken place)) = false
is_disk (Cause (BadTask i)) = false
is_disk (Cause Full) = false
is_disk (Cause Closed) = false
is_disk Memory = false

-- a log's fault is the cause Disk, and nothing else is
pub fault_of : (e : LogStop) → stop_of e ≡ Cause Disk → e ≡ log.Fault
unfolding is_disk
fault_of log.Fault is = refl
fault_of (log.Broken place) is = absurd (false≢true (ap is_disk is))
fault_of log.Full is = absurd (false≢true (ap is_disk is))
fault_of log.Closed is = absurd (false≢true (ap is_disk is))
fault_of log.Memory is = absurd (false≢true (ap is_disk is))

stop_in : {T : Type 0} → Result T LogStop → LogStop
stop_in (Ok x) = log.Memory
stop_in (Err e) = e

pub not_err : {T : Type 0} (e : LogStop) → (e ≡ log.Fault → ⊥) → IsErrOf {T = T} (Err e) log.Fault → ⊥
unfolding stop_in
not_err e other is = other (ap stop_in is)

pub refusal_of : (tells : Type 0) (bytes : List ℕ) (e : LogStop) → logs.IsRefusalOf tells bytes e → IsRefusal tells bytes (stop_of e)
refusal_of tells bytes log.Fault is = tt
refusal_of tells bytes (log.Broken place) is = is
refusal_of tells bytes log.Full is = is
refusal_of tells bytes log.Closed is = absurd is
refusal_of tells bytes log.Memory is = tt

pub bad_refusal : (tells : Type 0) (bytes : List ℕ) (es : List (List ℕ)) (e : LedgerStop) → (tells → length bytes ≤ 67108864) → (tells → IsLog bytes es) → (e ≡ Memory) ⊎ ((i : ℕ) × (e ≡ Cause (BadTask i)) × IsBadTask es i) → IsRefusal tells bytes e
bad_refusal tells bytes es e small log (inl is) = subst (λ (x : LedgerStop). IsRefusal tells bytes x) (sym is) tt
bad_refusal tells bytes es e small log (inr bad) = subst (λ (x : LedgerStop). IsRefusal tells bytes x) (sym bad.1) (λ told. (small told, es, log told, bad.2))

pub bad_task : (es : List (List ℕ)) (i : ℕ) (ts : Tasks) (e : List ℕ) (stop : LedgerStop) → i < length es → AreTasks (take i es) ts → HasDistinctTokens ts → e ≡ get_or es i []
    → (stop ≡ Memory) ⊎ ((stop ≡ Cause (BadTask i)) × IsNoTask ts e) → (stop ≡ Memory) ⊎ ((at : ℕ) × (stop ≡ Cause (BadTask at)) × IsBadTask es at)
bad_task es i ts e stop inside are distinct is (inl none) = inl none
bad_task es i ts e stop inside are distinct is (inr bad) = inr (i, bad.0, record { before = ts; inside = inside; spelled = are; distinct = distinct; bad = subst (λ (x : List ℕ). IsNoTask ts x) is bad.1 })

-- an answer of the log to the entry of a missing task
pub refused : (es : List (List ℕ)) (ts : Tasks) (token text entry : List ℕ) (closed : Bool) (e : LogStop) → closed ≡ false → answer ts token ≡ None → entry ≡ task_bytes token text → logs.IsCauseOf closed (FitsIn es (length entry)) e → IsAnswer es ts token text (Err (stop_of e))
refused es ts token text entry closed log.Fault unclosed none is kind = (none, subst (λ (x : List ℕ). FitsIn es (length x)) is kind.1)
refused es ts token text entry closed (log.Broken place) unclosed none is kind = absurd kind
refused es ts token text entry closed log.Full unclosed none is kind = (none, subst (λ (x : List ℕ). FitsIn es (length x) → ⊥) is kind.1)
refused es ts token text entry closed log.Closed unclosed none is kind = absurd (false≢true (sym unclosed ∙ kind))
refused es ts token text entry closed log.Memory unclosed none is kind = tt

-- tasks after a refusal of the log: as before, unless it was its fault
pub left_after : (token text : List ℕ) (old new : Tasks) (e : LogStop) → (e ≡ log.Fault → (new ≡ old) ⊎ ((answer old token ≡ None) × (new ≡ old ++ (token, text) ∷ []))) → ((e ≡ log.Fault → ⊥) → new ≡ old) → Leaves token text old new (Err (stop_of e))
unfolding is_fault
left_after token text old new log.Fault torn same = torn refl
left_after token text old new (log.Broken place) torn same = same (λ is. false≢true (ap is_fault is))
left_after token text old new log.Full torn same = same (λ is. false≢true (ap is_fault is))
left_after token text old new log.Closed torn same = same (λ is. false≢true (ap is_fault is))
left_after token text old new log.Memory torn same = same (λ is. false≢true (ap is_fault is))

-- tasks that stay
pub leaves_same : (token text : List ℕ) (old new : Tasks) (e : LedgerStop) → new ≡ old → Leaves token text old new (Err e)
leaves_same token text old new (Cause Disk) is = inl is
leaves_same token text old new (Cause (Broken place)) is = is
leaves_same token text old new (Cause (BadTask i)) is = is
leaves_same token text old new (Cause Full) is = is
leaves_same token text old new (Cause Closed) is = is
leaves_same token text old new Memory is = is

-- the tasks of an open ledger's file
pub open_tasks : (tells : Type 0) (bytes : List ℕ) (image : List ℕ → Type 0) (l : Ledger) → tells → IsOpen tells bytes image l → ledger_tasks bytes ≡ l.tasks.items
open_tasks tells bytes image l told is_open = ledger_is bytes (entries_of l.log) l.tasks.items (inr (is_open.on told).holds) is_open.spelled is_open.distinct

-- an open ledger with a task more
pub add_open : (tells : Type 0) (bytes : List ℕ) (image : List ℕ → Type 0) (l m : Ledger) (entry token text : List ℕ)
    → AreTasks (entries_of l.log) l.tasks.items → HasDistinctTokens l.tasks.items
    → entries_of m.log ≡ entries_of l.log ++ entry ∷ [] → m.tasks.items ≡ l.tasks.items ++ (token, text) ∷ []
    → answer l.tasks.items token ≡ None → SpellsTask entry token text → is_closed_of m.log ≡ false → (tells → IsOn m.log bytes image) → IsOpen tells bytes image m
add_open tells bytes image l m entry token text are distinct entries_is tasks_is none spelled unclosed on = record {
  unclosed = unclosed;
  spelled = subst (λ (es : List (List ℕ)). AreTasks es m.tasks.items) (sym entries_is) (subst (λ (ts : Tasks). AreTasks (entries_of l.log ++ entry ∷ []) ts) (sym tasks_is) (tasks_add (entries_of l.log) l.tasks.items entry token text are spelled));
  distinct = subst (λ (ts : Tasks). HasDistinctTokens ts) (sym tasks_is) (tasks_push l.tasks.items token text distinct none);
  on = on;
}

-- the file's tasks then
pub added : (tells : Type 0) (old new : List ℕ) (image image_new : List ℕ → Type 0) (l : Ledger) (log_new : GateLog) (entry token text : List ℕ) → tells → IsOpen tells old image l
    → entries_of log_new ≡ entries_of l.log ++ entry ∷ [] → answer l.tasks.items token ≡ None → SpellsTask entry token text → IsOn log_new new image_new
    → ledger_tasks new ≡ ledger_tasks old ++ (token, text) ∷ []
added tells old new image image_new l log_new entry token text told is_open entries_is none spelled on =
    ledger_is new (entries_of l.log ++ entry ∷ []) (l.tasks.items ++ (token, text) ∷ []) (inr (subst (λ (es : List (List ℕ)). IsGated new es) entries_is on.holds))
    (tasks_add (entries_of l.log) l.tasks.items entry token text is_open.spelled spelled) (tasks_push l.tasks.items token text is_open.distinct none)
    ∙ ap (λ (ts : Tasks). ts ++ (token, text) ∷ []) (sym (open_tasks tells old image l told is_open))

-- A fault of an append leaves the file with the task or without.
pub fault_leaves : {D : Type 0} (bytes : D → List ℕ) (moment : D → ℕ) (left_since : D → ℕ → List ℕ → Type 0) (old new : D) (es : List (List ℕ)) (ts : Tasks) (entry token text : List ℕ)
    → left_since new (moment new) (bytes new)
    → ((t : ℕ) (c : List ℕ) → t ≤ moment new → left_since new (moment new) c → left_since new t c)
    → LeavesOnly moment left_since old new (WithOrWithout es entry)
    → ((c : List ℕ) → left_since old (moment old) c → c ≡ bytes old) → IsGated (bytes old) es
    → AreTasks es ts → HasDistinctTokens ts → answer ts token ≡ None → SpellsTask entry token text
    → (ledger_tasks (bytes new) ≡ ledger_tasks (bytes old)) ⊎ ((answer (ledger_tasks (bytes old)) token ≡ None) × (ledger_tasks (bytes new) ≡ ledger_tasks (bytes old) ++ (token, text) ∷ []))
fault_leaves bytes moment left_since old new es ts entry token text reads counts leaves only gated are distinct none spelled =
    let was : ledger_tasks (bytes old) ≡ ts = ledger_is (bytes old) es ts (inr gated) are distinct in
    ⊎_elim
    (λ (here : left_since old (moment old) (bytes new)). inl (ap (λ (l : List ℕ). ledger_tasks l) (only (bytes new) here)))
    (λ (either : WithOrWithout es entry (bytes new)). ⊎_elim
    (λ (without : IsGated (bytes new) es). inl (ledger_is (bytes new) es ts (inr without) are distinct ∙ sym was))
    (λ (with_it : IsGated (bytes new) (es ++ entry ∷ [])). inr (
      subst (λ (l : Tasks). answer l token ≡ None) (sym was) none,
      ledger_is (bytes new) (es ++ entry ∷ []) (ts ++ (token, text) ∷ []) (inr with_it) (tasks_add es ts entry token text are spelled) (tasks_push ts token text distinct none) ∙ ap (λ (l : Tasks). l ++ (token, text) ∷ []) (sym was),
    ))
    either)
    (leaves.before (moment old) (bytes new) (omega arith) (counts (moment old) (bytes new) leaves.later reads))

-- an answer at a log that the bytes are
pub posted_open : (tells : Type 0) (opened : Bool) (bytes : List ℕ) (es : List (List ℕ)) (ts : Tasks) (token text : List ℕ) (result : Result Posted LedgerStop) → (tells → Reads opened bytes es ts) → IsAnswer es ts token text result → IsPosted tells opened false bytes token text result
posted_open tells opened bytes es ts token text (Ok posted) reads is = (refl, λ told. (es, ts, reads told, is))
posted_open tells opened bytes es ts token text (Err Memory) reads is = refl
posted_open tells opened bytes es ts token text (Err (Cause Disk)) reads is = refl
posted_open tells opened bytes es ts token text (Err (Cause (Broken place))) reads is = absurd is
posted_open tells opened bytes es ts token text (Err (Cause (BadTask i))) reads is = absurd is
posted_open tells opened bytes es ts token text (Err (Cause Full)) reads is = (refl, λ told. inr (es, ts, reads told, is))
posted_open tells opened bytes es ts token text (Err (Cause Closed)) reads is = absurd is

pub posted_refused : (tells : Type 0) (bytes token text : List ℕ) (e : LedgerStop) → IsRefusal tells bytes e → IsPosted tells false false bytes token text (Err e)
posted_refused tells bytes token text Memory is = refl
posted_refused tells bytes token text (Cause Disk) is = refl
posted_refused tells bytes token text (Cause (Broken place)) is = (refl, refl, is)
posted_refused tells bytes token text (Cause (BadTask i)) is = (refl, refl, is)
posted_refused tells bytes token text (Cause Full) is = (refl, λ told. inl (refl, is told))
posted_refused tells bytes token text (Cause Closed) is = absurd is

-- a post at an open log
pub posted_opened : (tells : Type 0) (bytes : List ℕ) (image : List ℕ → Type 0) (state : State) (l : Ledger) (token text : List ℕ) (result : Result Posted LedgerStop) → state ≡ Opened l → IsSound tells bytes image state
    → IsAnswer (entries_of l.log) l.tasks.items token text result → IsPosted tells (is_opened state) (is_shut state) bytes token text result
posted_opened tells bytes image state l token text result is sound answers =
    let is_open : IsOpen tells bytes image l = subst (λ (s : State). IsSound tells bytes image s) is sound in
    subst (λ (s : State). IsPosted tells (is_opened s) (is_shut s) bytes token text result) (sym is)
    (posted_open tells true bytes (entries_of l.log) l.tasks.items token text result
    (λ told. record { small = λ no. absurd (false≢true (sym no)); log = inr (is_open.on told).holds; spelled = is_open.spelled; distinct = is_open.distinct }) answers)

-- the first post, where the log was opened
pub posted_first : (tells : Type 0) (bytes mid : List ℕ) (image : List ℕ → Type 0) (l : Ledger) (token text : List ℕ) (result : Result Posted LedgerStop) → (tells → length bytes ≤ 67108864) → (tells → IsLog bytes (entries_of l.log)) → IsOpen tells mid image l
    → IsAnswer (entries_of l.log) l.tasks.items token text result → IsPosted tells false false bytes token text result
posted_first tells bytes mid image l token text result small log is_open answers =
    posted_open tells false bytes (entries_of l.log) l.tasks.items token text result
    (λ told. record { small = λ no. small told; log = log told; spelled = is_open.spelled; distinct = is_open.distinct }) answers

pub leaves_from : (token text : List ℕ) (old mid new : Tasks) (result : Result Posted LedgerStop) → mid ≡ old → Leaves token text mid new result → Leaves token text old new result
leaves_from token text old mid new result is leaves = subst (λ (ts : Tasks). Leaves token text ts new result) is leaves

ledger_of : (tells : Type 0) (bytes : List ℕ) (image : List ℕ → Type 0) (state : State) → tells → IsSound tells bytes image state → is_opened state ≡ true → IsLedger bytes (ledger_tasks bytes)
ledger_of tells bytes image Unopened told sound is = absurd (false≢true is)
ledger_of tells bytes image (Opened l) told sound is = record {
  entries = entries_of l.log;
  log = inr (sound.on told).holds;
  spelled = subst (λ (ts : Tasks). AreTasks (entries_of l.log) ts) (sym (open_tasks tells bytes image l told sound)) sound.spelled;
  distinct = ledger_distinct bytes;
}
ledger_of tells bytes image Shut told sound is = absurd (false≢true is)

-- after New or Held the file is the log of its tasks
pub log_after : (tells : Type 0) (bytes : List ℕ) (image : List ℕ → Type 0) (state : State) (result : Result Posted LedgerStop) → tells → IsSound tells bytes image state → OnOk result (is_opened state ≡ true) → OnOk (board_answer result) (IsLedger bytes (ledger_tasks bytes))
log_after tells bytes image state (Ok posted) told sound is = ledger_of tells bytes image state told sound is
log_after tells bytes image state (Err Memory) told sound is = tt
log_after tells bytes image state (Err (Cause cause)) told sound is = tt

-- only the cause Disk closes a board
pub not_closed : (e : LedgerStop) → (e ≡ Cause Disk → ⊥) → closed_after false (cause_after (Err e)) ≡ false
not_closed Memory not = refl
not_closed (Cause Disk) not = absurd (not refl)
not_closed (Cause (Broken place)) not = refl
not_closed (Cause (BadTask i)) not = refl
not_closed (Cause Full) not = refl
not_closed (Cause Closed) not = refl

-- an honest board's post
pub honest_of : (tells : Type 0) (opened closed : Bool) (bytes after token text : List ℕ) (result : Result Posted LedgerStop) → tells → IsPosted tells opened closed bytes token text result → Leaves token text (ledger_tasks bytes) (ledger_tasks after) result → IsHonest token text (ledger_tasks bytes) (ledger_tasks after) (board_answer result)
honest_of tells opened closed bytes after token text (Ok New) told posted leaves =
    let found = posted.1 told in
    (subst (λ (l : Tasks). answer l token ≡ None) (sym (ledger_is bytes found.0 found.1 found.2.log found.2.spelled found.2.distinct)) found.3.0, leaves)
honest_of tells opened closed bytes after token text (Ok (Held kept)) told posted leaves =
    let found = posted.1 told in
    (subst (λ (l : Tasks). answer l token ≡ Some kept) (sym (ledger_is bytes found.0 found.1 found.2.log found.2.spelled found.2.distinct)) found.3, leaves)
honest_of tells opened closed bytes after token text (Err Memory) told posted leaves = leaves
honest_of tells opened closed bytes after token text (Err (Cause Disk)) told posted leaves = leaves
honest_of tells opened closed bytes after token text (Err (Cause (Broken place))) told posted leaves = inl leaves
honest_of tells opened closed bytes after token text (Err (Cause (BadTask i))) told posted leaves = inl leaves
honest_of tells opened closed bytes after token text (Err (Cause Full)) told posted leaves = inl leaves
honest_of tells opened closed bytes after token text (Err (Cause Closed)) told posted leaves = inl leaves
