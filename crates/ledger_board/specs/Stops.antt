-- What a ledger answers, and when. Own rules.
use Rattle.std.specs.Prelude.{◌≡◌, ◌⊎◌, ⊤, ◌+◌, ◌-◌, ◌^◌, ◌<◌, ◌≤◌, min, ℕ, Bool, true, false, List, [], ◌∷◌, ◌++◌, length, Option, Some, None, Result, Ok, Err, IsErrOf}
use Rattle.turk_base.specs.Trace.{answer}
use Rattle.board_model.specs.Tokens.{Tasks, HasDistinctTokens}
use Rattle.board_model.specs.declared.Posted.{Posted}
use Rattle.board_model.specs.declared.Posted.TheVariants.{New, Held}
use Rattle.disk_model.specs.Disk.{Rose}
use Rattle.gate_log.specs.Log.{IsLog, IsBroken}
use Rattle.gate_log.specs.GateLog.{FitsIn, entries_of, is_closed_of, IsOn}
use Rattle.gate_log.specs.declared.LogStop.{LogStop}
use Rattle.gate_log.specs.declared.LogStop.TheVariants as log
use Rattle.record_bytes.specs.Spelling.{task_bytes}
use Rattle.ledger_board.specs.Tasks.{AreTasks, IsBadTask, IsLedger}
use Rattle.ledger_board.specs.declared.LedgerCause.{LedgerCause}
use Rattle.ledger_board.specs.declared.LedgerCause.TheVariants.{Disk, Broken, BadTask, Full, Closed}
use Rattle.ledger_board.specs.declared.stop.LedgerStop.{LedgerStop}
use Rattle.ledger_board.specs.declared.stop.LedgerStop.TheVariants.{Cause, Memory}

-- what a log's refusal is to a board
abbrev pub stop_of : LogStop → LedgerStop
stop_of log.Fault = Cause Disk
stop_of (log.Broken place) = Cause (Broken place)
stop_of log.Full = Cause Full
stop_of log.Closed = Cause Closed
stop_of log.Memory = Memory

-- when an opening may answer this
abbrev pub IsRefusal : Type 0 → List ℕ → LedgerStop → Type 0
IsRefusal tells bytes Memory = ⊤
IsRefusal tells bytes (Cause Disk) = ⊤
IsRefusal tells bytes (Cause (Broken place)) = tells → (length bytes ≤ 67108864) × IsBroken bytes place
IsRefusal tells bytes (Cause (BadTask i)) = tells → (length bytes ≤ 67108864) × (es : List (List ℕ)) × IsLog bytes es × IsBadTask es i
IsRefusal tells bytes (Cause Full) = tells → 67108864 < length bytes
IsRefusal tells bytes (Cause Closed) = ⊥

-- the log of these entries and this task's has at most 67,108,864 bytes
abbrev pub HoldsTask : List (List ℕ) → List ℕ → List ℕ → Type 0
HoldsTask es token text = FitsIn es (length (task_bytes token text))

-- when a post at an open log of these entries, which are these tasks, may be answered so
abbrev pub IsAnswer : List (List ℕ) → Tasks → List ℕ → List ℕ → Result Posted LedgerStop → Type 0
IsAnswer es ts token text (Ok New) = (answer ts token ≡ None) × HoldsTask es token text
IsAnswer es ts token text (Ok (Held kept)) = answer ts token ≡ Some kept
IsAnswer es ts token text (Err Memory) = ⊤
IsAnswer es ts token text (Err (Cause Disk)) = (answer ts token ≡ None) × HoldsTask es token text
IsAnswer es ts token text (Err (Cause (Broken place))) = ⊥
IsAnswer es ts token text (Err (Cause (BadTask i))) = ⊥
IsAnswer es ts token text (Err (Cause Full)) = (answer ts token ≡ None) × (HoldsTask es token text → ⊥)
IsAnswer es ts token text (Err (Cause Closed)) = ⊥

-- the tasks after an answer; where the disk failed, the pair of a missing token may be added
abbrev pub Leaves : List ℕ → List ℕ → Tasks → Tasks → Result Posted LedgerStop → Type 0
Leaves token text old new (Ok New) = new ≡ old ++ (token, text) ∷ []
Leaves token text old new (Ok (Held kept)) = new ≡ old
Leaves token text old new (Err Memory) = new ≡ old
Leaves token text old new (Err (Cause Disk)) = (new ≡ old) ⊎ ((answer old token ≡ None) × (new ≡ old ++ (token, text) ∷ []))
Leaves token text old new (Err (Cause (Broken place))) = new ≡ old
Leaves token text old new (Err (Cause (BadTask i))) = new ≡ old
Leaves token text old new (Err (Cause Full)) = new ≡ old
Leaves token text old new (Err (Cause Closed)) = new ≡ old

-- the bytes are a log of these entries, which are these tasks, no two of one token; within the limit where the log wasn't open yet
pub record Reads (opened : Bool) (bytes : List ℕ) (es : List (List ℕ)) (ts : Tasks) : Type 0 where
  pub small : opened ≡ false → length bytes ≤ 67108864
  pub log : IsLog bytes es
  pub spelled : AreTasks es ts
  pub distinct : HasDistinctTokens ts

-- When a post may be answered New or Held: by the file's bytes before it, by whether the log was open, and by whether an
-- earlier post failed with the cause Disk.
abbrev pub IsTaken : Type 0 → Bool → Bool → List ℕ → List ℕ → List ℕ → Posted → Type 0
IsTaken tells opened closed bytes token text posted = (closed ≡ false) × (tells → (es : List (List ℕ)) × (ts : Tasks) × Reads opened bytes es ts × IsAnswer es ts token text (Ok posted))

-- when a post may fail with this cause
abbrev pub IsCauseOf : Type 0 → Bool → Bool → List ℕ → List ℕ → List ℕ → LedgerCause → Type 0
IsCauseOf tells opened closed bytes token text Disk = closed ≡ false
IsCauseOf tells opened closed bytes token text (Broken place) = (opened ≡ false) × (closed ≡ false) × (tells → (length bytes ≤ 67108864) × IsBroken bytes place)
IsCauseOf tells opened closed bytes token text (BadTask i) = (opened ≡ false) × (closed ≡ false) × (tells → (length bytes ≤ 67108864) × (es : List (List ℕ)) × IsLog bytes es × IsBadTask es i)
IsCauseOf tells opened closed bytes token text Full = (closed ≡ false) × (tells → ((opened ≡ false) × (67108864 < length bytes)) ⊎ ((es : List (List ℕ)) × (ts : Tasks) × Reads opened bytes es ts × IsAnswer es ts token text (Err (Cause Full))))
IsCauseOf tells opened closed bytes token text Closed = closed ≡ true

abbrev pub IsPosted : Type 0 → Bool → Bool → List ℕ → List ℕ → List ℕ → Result Posted LedgerStop → Type 0
IsPosted tells opened closed bytes token text (Ok posted) = IsTaken tells opened closed bytes token text posted
IsPosted tells opened closed bytes token text (Err Memory) = closed ≡ false
IsPosted tells opened closed bytes token text (Err (Cause cause)) = IsCauseOf tells opened closed bytes token text cause

-- a board is closed from the first failure with the cause Disk on
abbrev pub closed_after : Bool → Option LedgerCause → Bool
closed_after true cause = true
closed_after false None = false
closed_after false (Some Disk) = true
closed_after false (Some (Broken place)) = false
closed_after false (Some (BadTask i)) = false
closed_after false (Some Full) = false
closed_after false (Some Closed) = false

-- a count of faults never falls, and rose where the cause is the disk
pub record IsCaused {T : Type 0} (before now : ℕ) (result : Result T LedgerStop) : Type 0 where
  pub later : before ≤ now
  pub disk : IsErrOf result (Cause Disk) → Rose before now
