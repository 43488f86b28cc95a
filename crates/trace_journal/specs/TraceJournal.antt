-- A journal in memory, what an entry needs to be added, and why a call refuses. Own rules.
use Rattle.std.specs.Prelude.{◌≡◌, ◌≢◌, ◌⊎◌, ◌<◌, ◌≤◌, ⊤, ℕ, Bool, List, [], length, None, Result, IsErrOf, nat_eq}
use Rattle.std.specs.List.{common_prefix_len}
use Rattle.turk_base.specs.declared.Entry.{Entry}
use Rattle.turk_base.specs.Trace.{at}
use Rattle.disk_model.specs.Disk.{Rose}
use Rattle.gate_log.specs.Log.{IsLog, IsBroken}
use Rattle.gate_log.specs.GateLog as log
use Rattle.gate_log.specs.declared.LogStop.{LogStop}
use Rattle.gate_log.specs.declared.LogStop.TheVariants as stopped
use Rattle.record_bytes.specs.declared.Head.{Head}
use Rattle.record_bytes.specs.Limits.{Spells}
use Rattle.trace_journal.specs.Journal.{IsJournalOf, IsJournal, IsUnbegun, IsBadAt}
use Rattle.trace_journal.specs.declared.JournalStop.{JournalStop}
use Rattle.trace_journal.specs.declared.JournalStop.TheVariants.{Fault, Broken, BadRecord, OtherName, OtherScript, OtherFuel, TraceFull, LogFull, Closed, Memory}
use Rattle.trace_journal.specs.declared.journal.TraceJournal.{TraceJournal}
use Rattle.trace_journal.specs.declared.journal.Ready.{Ready}

-- the records, in the order in which they came
abbrev pub records_of : TraceJournal → List Entry
records_of j = j.trace.entries

-- the byte strings of the log, the head's first
abbrev pub entries_of : TraceJournal → List (List ℕ)
entries_of j = log.entries_of j.log

abbrev pub is_closed_of : TraceJournal → Bool
is_closed_of j = log.is_closed_of j.log

-- the log holds this head and the journal's records
abbrev pub Keeps : TraceJournal → Head → Type 0
Keeps j h = IsJournalOf (entries_of j) h (records_of j)

-- the disk has one image, whose log behind a closed gate is the journal's
abbrev pub IsOn : TraceJournal → List ℕ → (List ℕ → Type 0) → Type 0
IsOn j bytes image = log.IsOn j.log bytes image

-- the bytes spell the entry, its path is new, fewer than 65,536 records stand, and log and trace have its room
pub record IsReady (j : TraceJournal) (r : Ready) : Type 0 where
  pub spelled : Spells r.bytes.items r.entry
  pub fresh : at (records_of j) r.entry.path ≡ None
  pub few : length (records_of j) < 65536
  pub fits : log.FitsIn (entries_of j) (length r.bytes.items)
  pub log_room : log.HasRoom j.log (length r.bytes.items)
  pub trace_room : length r.entry.path < j.trace.room

-- the answer of the log in the words of a journal
abbrev pub stop_of : LogStop → JournalStop
stop_of stopped.Fault = Fault
stop_of (stopped.Broken place) = Broken place
stop_of stopped.Full = LogFull
stop_of stopped.Closed = Closed
stop_of stopped.Memory = Memory

-- a count of faults never falls, and where the answer is Fault it rose
pub record IsCaused {T : Type 0} (before now : ℕ) (result : Result T JournalStop) : Type 0 where
  pub later : before ≤ now
  pub fault : IsErrOf result Fault → Rose before now

-- the bytes are a log with this faulty entry
abbrev pub IsBadJournal : List ℕ → ℕ → Type 0
IsBadJournal bytes i = (entries : List (List ℕ)) × IsLog bytes entries × IsBadAt entries i

-- when a look may answer this
abbrev pub IsLookRefusal : Type 0 → List ℕ → JournalStop → Type 0
IsLookRefusal tells bytes Fault = ⊤
IsLookRefusal tells bytes (Broken place) = tells → (length bytes ≤ 67108864) × IsBroken bytes place
IsLookRefusal tells bytes (BadRecord i) = tells → (length bytes ≤ 67108864) × IsBadJournal bytes i
IsLookRefusal tells bytes (OtherName name) = ⊥
IsLookRefusal tells bytes (OtherScript place) = ⊥
IsLookRefusal tells bytes (OtherFuel fuel) = ⊥
IsLookRefusal tells bytes TraceFull = ⊥
IsLookRefusal tells bytes LogFull = tells → 67108864 < length bytes
IsLookRefusal tells bytes Closed = ⊥
IsLookRefusal tells bytes Memory = ⊤

-- how the kept head isn't the one wanted: another name, else another script, else another fuel
abbrev pub IsOther : Head → Head → JournalStop → Type 0
IsOther kept wanted (OtherName name) = (name ≡ kept.name) × (kept.name ≢ wanted.name)
IsOther kept wanted (OtherScript place) = (kept.name ≡ wanted.name) × (kept.script ≢ wanted.script) × (place ≡ common_prefix_len nat_eq kept.script wanted.script)
IsOther kept wanted (OtherFuel fuel) = (kept.name ≡ wanted.name) × (kept.script ≡ wanted.script) × (fuel ≡ kept.fuel) × (kept.fuel ≢ wanted.fuel)
IsOther kept wanted stop = ⊥

-- the bytes are a journal whose head is another, in the way that the answer says
abbrev pub IsOtherJournal : List ℕ → Head → JournalStop → Type 0
IsOtherJournal bytes wanted stop = (kept : Head) × (es : List Entry) × IsJournal bytes kept es × IsOther kept wanted stop

-- when an opening may answer this
abbrev pub IsRefusalOf : Type 0 → List ℕ → Head → JournalStop → Type 0
IsRefusalOf tells bytes wanted (OtherName name) = tells → IsOtherJournal bytes wanted (OtherName name)
IsRefusalOf tells bytes wanted (OtherScript place) = tells → IsOtherJournal bytes wanted (OtherScript place)
IsRefusalOf tells bytes wanted (OtherFuel fuel) = tells → IsOtherJournal bytes wanted (OtherFuel fuel)
IsRefusalOf tells bytes wanted stop = IsLookRefusal tells bytes stop

-- when an entry may be refused before it is added: 65,536 records stand; or it has no room in the log; or no memory
abbrev pub IsUnready : TraceJournal → Entry → JournalStop → Type 0
IsUnready j e TraceFull = 65536 ≤ length (records_of j)
IsUnready j e LogFull = (length (records_of j) < 65536) × ((bytes : List ℕ) → Spells bytes e → log.FitsIn (entries_of j) (length bytes) → ⊥)
IsUnready j e Memory = length (records_of j) < 65536
IsUnready j e stop = ⊥

-- no entry before, and no entry or the head alone after
abbrev pub AreBegun : List ℕ → Head → List ℕ → Type 0
AreBegun old h new = IsUnbegun old × (IsUnbegun new ⊎ IsJournal new h [])
