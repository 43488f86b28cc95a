-- How a run over a machine and an asker goes on with its asker: what holds between an earlier and a later state (own rules).
use Rattle.std.specs.Prelude.{◌≡◌, ◌⊎◌, ◌≤◌, ℕ, ℤ, Bool, List, [], ◌∷◌, ◌++◌, Some, true, false}
use Rattle.outside.specs.Faults.{Rose}
use Rattle.turk_base.specs.Names.{In}
use Rattle.turk_base.specs.Trace.{answer, token_of}
use Rattle.turk_base.specs.declared.Entry.{Entry}
use Rattle.turk_base.specs.declared.Record.TheVariants as kept
use Rattle.record_bytes.specs.Limits.{IsDraw}
use Rattle.ask_model.specs.declared.Which.{Which}
use Rattle.ask_model.specs.declared.Which.TheVariants.{Disk}
use Rattle.ask_model.specs.declared.AskStop.{AskStop}
use Rattle.ask_model.specs.declared.AskStop.TheVariants.{Fault, Diverged, LogFull}
use Rattle.ask_model.specs.declared.Called.TheVariants as called
use Rattle.ask_model.specs.declared.Kept.TheVariants as found
use Rattle.ask_model.specs.declared.Divergence.{Divergence}
use Rattle.ask_model.specs.Asker.{Seen as Asked, Pairs, known_to, entry}
use Rattle.machine_host.specs.declared.AskedRun.{AskedRun}
use Rattle.machine_host.specs.declared.Question.TheVariants.{Post, Reply, Draw}
use Rattle.machine_host.specs.declared.Unmade.{Unmade}
use Rattle.machine_host.specs.declared.Unmade.TheVariants.{Asking, Keeping, Nothing}

-- The asker was not asked, and nothing is known anew of a refusal.
pub record IsStill {A : Type 0} (old new : AskedRun A) : Type 0 where
  pub asker : new.asker ≡ old.asker
  pub closed : new.closed ≡ old.closed
  pub session : new.notes.session ≡ old.notes.session
  pub stopped : new.notes.stopped ≡ old.notes.stopped
  pub unmade : new.notes.unmade ≡ old.notes.unmade

-- ---- a call that was refused

-- a refusal whose copy takes memory
abbrev pub IsDivergence : AskStop → Type 0
IsDivergence why = (d : Divergence) × (why ≡ Diverged d)

-- The run was closed, and it tells why and what was not made; or memory ran out, so that it doesn't.
pub record Closes {A : Type 0} (why : AskStop) (unmade : Unmade) (old new : AskedRun A) : Type 0 where
  pub asker : new.asker ≡ old.asker
  pub closed : new.closed ≡ true
  pub session : new.notes.session ≡ old.notes.session
  pub told : ((new.notes.stopped ≡ Some why) × (new.notes.unmade ≡ unmade)) ⊎ (IsDivergence why × (new.notes.stopped ≡ old.notes.stopped))

-- ---- the record that was not made

-- the record of what was not made; a draw's value is any below its bound
abbrev pub IsRecordOf : Pairs → Unmade → Entry → Type 0
IsRecordOf replies (Asking path (Post text)) e = e ≡ entry path (kept.Post text)
IsRecordOf replies (Asking path (Reply token)) e = (text : List ℕ) × (answer replies token ≡ Some text) × (e ≡ entry path (kept.Reply token text))
IsRecordOf replies (Asking path (Draw bound)) e = (value : ℤ) × IsDraw bound value × (e ≡ entry path (kept.Draw bound value))
IsRecordOf replies (Keeping path value) e = e ≡ entry path (kept.Once value)
IsRecordOf replies Nothing e = ⊥

-- The board held another text for the post that was asked, and that is told with both texts.
abbrev pub IsHeldPost : Divergence → Unmade → Type 0
IsHeldPost d (Asking path (Post text)) = (kept : List ℕ) × (kept ≡ text → ⊥) × (d ≡ record { path = path; kept = found.Held kept; called = called.Post text })
IsHeldPost d (Asking path (Reply token)) = ⊥
IsHeldPost d (Asking path (Draw bound)) = ⊥
IsHeldPost d (Keeping path value) = ⊥
IsHeldPost d Nothing = ⊥

-- Why a call was refused, by the refusal: LogFull where its record doesn't fit, Diverged where the board held another text.
pub record IsCause {A : Type 0} (seen : A → Asked) (fits : A → Entry → Bool) (h : AskedRun A) (why : AskStop) : Type 0 where
  pub closed : h.closed ≡ true
  pub unfit : why ≡ LogFull → (e : Entry) × IsRecordOf (seen h.asker).replies h.notes.unmade e × (fits h.asker e ≡ false)
  pub held : (d : Divergence) → why ≡ Diverged d → IsHeldPost d h.notes.unmade

-- The disk failed at this record, so that a stop may leave it.
pub record IsOpen {A : Type 0} (seen : A → Asked) (h : AskedRun A) (e : Entry) : Type 0 where
  pub closed : h.closed ≡ true
  pub stopped : h.notes.stopped ≡ Some (Fault Disk)
  pub is : IsRecordOf (seen h.asker).replies h.notes.unmade e

-- ---- traces that a stop may leave

-- what is known now, or that with the record at which the disk failed
abbrev pub LeftNow : {A : Type 0} → (A → Asked) → AskedRun A → List Entry → Type 0
LeftNow seen h t = (t ≡ known_to (seen h.asker)) ⊎ ((e : Entry) × IsOpen seen h e × (t ≡ known_to (seen h.asker) ++ e ∷ []))

-- What was known before, and the first of the records added since; or all of them and the one at which the disk failed.
abbrev pub LeftBetween : {A : Type 0} → (A → Asked) → Asked → List Entry → AskedRun A → List Entry → Type 0
LeftBetween seen before added h t =
    ((front : List Entry) × (rest : List Entry) × (added ≡ front ++ rest) × (t ≡ known_to before ++ front))
    ⊎ ((e : Entry) × IsOpen seen h e × (t ≡ known_to before ++ (added ++ e ∷ [])))

pub record Traces {A : Type 0} (seen : A → Asked) (moment : A → ℕ) (left_since : A → ℕ → List Entry → Type 0) (old new : AskedRun A) (added : List Entry) : Type 0 where
  pub later : moment old.asker ≤ moment new.asker
  pub since : (m : ℕ) (t : List Entry) → m ≤ moment old.asker → left_since new.asker m t → left_since old.asker m t ⊎ LeftBetween seen (seen old.asker) added new t
  pub now : ((t : List Entry) → left_since old.asker (moment old.asker) t → LeftNow seen old t) → (t : List Entry) → left_since new.asker (moment new.asker) t → LeftNow seen new t

-- ---- tasks

-- This post was the last call, and a fault came before its record was made.
pub record IsUnrecorded {A : Type 0} (seen : A → Asked) (old new : AskedRun A) (path text : List ℕ) : Type 0 where
  pub closed : new.closed ≡ true
  pub which : Which
  pub stopped : new.notes.stopped ≡ Some (Fault which)
  pub unmade : new.notes.unmade ≡ Asking path (Post text)
  pub rose : Rose (seen old.asker).disk_faults (seen new.asker).disk_faults ⊎ Rose (seen old.asker).board_faults (seen new.asker).board_faults

-- the task of a post whose record was made, or of the last call
abbrev pub IsPosted : {A : Type 0} → (A → Asked) → AskedRun A → AskedRun A → List Entry → List ℕ × List ℕ → Type 0
IsPosted seen old new added task = (path : List ℕ) × (task.0 ≡ token_of new.notes.session path) × (In Entry (entry path (kept.Post task.1)) added ⊎ IsUnrecorded seen old new path task.1)

-- The tasks are those before, followed by those of posts; and each post whose record was made is among them with its text.
pub record Tasks {A : Type 0} (seen : A → Asked) (old new : AskedRun A) (added : List Entry) : Type 0 where
  pub more : Pairs
  pub tasks : (seen new.asker).tasks ≡ (seen old.asker).tasks ++ more
  pub posted : (task : List ℕ × List ℕ) → In (List ℕ × List ℕ) task more → IsPosted seen old new added task
  pub held : (path text : List ℕ) → In Entry (entry path (kept.Post text)) added → answer (seen new.asker).tasks (token_of new.notes.session path) ≡ Some text

-- ---- all of it

pub record Later {A : Type 0} (seen : A → Asked) (fits : A → Entry → Bool) (goes_on : A → A → Type 0) (tells_tasks tells_traces : Type 0) (moment : A → ℕ) (left_since : A → ℕ → List Entry → Type 0) (old new : AskedRun A) : Type 0 where
  pub keeps : goes_on old.asker new.asker
  pub session : new.notes.session ≡ old.notes.session
  pub still : old.closed ≡ true → IsStill old new
  pub refused : (why : AskStop) → new.notes.stopped ≡ Some why → (old.notes.stopped ≡ Some why) ⊎ IsCause seen fits new why
  pub trace : (seen new.asker).trace ≡ (seen old.asker).trace
  pub replies : (seen new.asker).replies ≡ (seen old.asker).replies
  pub disk : (seen old.asker).disk_faults ≤ (seen new.asker).disk_faults
  pub board : (seen old.asker).board_faults ≤ (seen new.asker).board_faults
  pub added : List Entry
  pub made : (seen new.asker).made ≡ (seen old.asker).made ++ added
  pub traces : tells_traces → Traces seen moment left_since old new added
  pub tasks : tells_tasks → Tasks seen old new added

-- one from another, each by a step
pub data Goes {S : Type 0} (To : S → S → Type 0) (a : S) : S → Type 0 where
  here : Goes To a a
  onward : (b c : S) → Goes To a b → To b c → Goes To a c
