-- A log and its disk. Own rules.
use Rattle.std.specs.Prelude.{◌≡◌, ◌+◌, ◌<◌, ◌≤◌, ℕ, Bool, true, false, List, length, Result, IsErrOf, vec_len, vec_capacity, ⊤, nat_le, if◌then◌else◌}
use Rattle.disk_model.specs.Disk.{Rose}
use Rattle.gate_log.specs.Log.{blocks, IsGated, IsBroken}
use Rattle.gate_log.specs.Entries.{entries}
use Rattle.gate_log.specs.declared.LogStop.{LogStop}
use Rattle.gate_log.specs.declared.LogStop.TheVariants.{Fault, Broken, Full, Closed, Memory}
use Rattle.gate_log.specs.declared.log.GateLog.{GateLog}

abbrev pub entries_of : GateLog → List (List ℕ)
entries_of l = entries l.kept.items

abbrev pub is_closed_of : GateLog → Bool
is_closed_of l = l.is_closed

-- what stands in the disk's one image is this log
pub record IsOn (l : GateLog) (bytes : List ℕ) (image : List ℕ → Type 0) : Type 0 where
  pub holds : IsGated bytes (entries_of l)
  pub only : (c : List ℕ) → image c → c ≡ bytes

-- the log of these entries and one of this length, up to and with its closed gate, has at most 67,108,864 bytes
abbrev pub FitsIn : List (List ℕ) → ℕ → Type 0
FitsIn es n = length (blocks es) + 6 + n ≤ 67108864

-- an entry of this length takes no memory
abbrev pub HasRoom : GateLog → ℕ → Type 0
HasRoom l n = (vec_len l.kept < vec_capacity l.kept) × (n + 5 ≤ vec_capacity l.spare)

-- a count of faults never falls, and where the answer is Fault it rose
pub record IsCaused {T : Type 0} (before now : ℕ) (result : Result T LogStop) : Type 0 where
  pub later : before ≤ now
  pub fault : IsErrOf result Fault → Rose before now

-- when a call may answer this: a log that is closed, an entry that doesn't fit
abbrev pub IsCauseOf : Bool → Type 0 → LogStop → Type 0
IsCauseOf closed fits Fault = (closed ≡ false) × fits
IsCauseOf closed fits (Broken place) = ⊥
IsCauseOf closed fits Full = (closed ≡ false) × (fits → ⊥)
IsCauseOf closed fits Closed = closed ≡ true
IsCauseOf closed fits Memory = (closed ≡ false) × fits

-- when an opening may answer this
abbrev pub IsRefusalOf : Type 0 → List ℕ → LogStop → Type 0
IsRefusalOf tells bytes Fault = ⊤
IsRefusalOf tells bytes (Broken place) = tells → (length bytes ≤ 67108864) × IsBroken bytes place
IsRefusalOf tells bytes Full = tells → 67108864 < length bytes
IsRefusalOf tells bytes Closed = ⊥
IsRefusalOf tells bytes Memory = ⊤

-- how many calls of write_at and sync an opening makes
abbrev pub opening_calls : List ℕ → ℕ
opening_calls bytes = if nat_le (length bytes) 1 then 3 else 1

-- a file of at most one byte before and after: no entry in either
abbrev pub AreBlank : List ℕ → List ℕ → Type 0
AreBlank old new = (length old ≤ 1) × (length new ≤ 1)
