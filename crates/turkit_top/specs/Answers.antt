-- What a command is to answer, and what it wrote (own rule).
use Rattle.std.specs.Prelude.{◌≡◌, ℕ, ◌≤◌, ◌<◌, ◌⊎◌, List, [], Bool, true, false, codes, length, take, Option, Some, None, Ok, Err, IfSome, if◌then◌else◌}
use Rattle.std.specs.Io.KnownBytes.{Appends, Consumes, IsAtEnd}
use Rattle.outside.specs.Faults.{Rose}
use Rattle.turk_base.specs.Names.{Units}
use Rattle.turk_base.specs.declared.Settings.{Settings}
use Rattle.js_tree.specs.World.{World}
use Rattle.reply_text.specs.Lines.{lines_of, Reads, HasCause}
use Rattle.reply_text.specs.declared.LineStop.{LineStop}
use Rattle.reply_text.specs.declared.LineStop.TheVariants as line
use Rattle.script_front.specs.declared.ScriptStop.{ScriptStop}
use Rattle.script_front.specs.declared.ScriptStop.TheVariants as why
use Rattle.script_run.specs.declared.End.{End}
use Rattle.script_run.specs.declared.End.TheVariants as end
use Rattle.rerun_driver.specs.Plain.{IsPlain, plain_world}
use Rattle.rerun_driver.specs.declared.Report.{Report}
use Rattle.rerun_driver.specs.declared.Stop.{Stop}
use Rattle.rerun_driver.specs.declared.Stop.TheVariants as stop
use Rattle.command_words.specs.Words.{command_of}
use Rattle.command_words.specs.declared.Command.{Command}
use Rattle.command_words.specs.declared.Command.TheVariants as command
use Rattle.turkit_top.specs.Notes.{fault_note, line_note, run_note, is_ended, usage}
use Rattle.turkit_top.specs.declared.status.Status.{Status}
use Rattle.turkit_top.specs.declared.status.Status.TheVariants.{Finished, Ended, Usage, Syntax, Waiting, Spent, ReadFault, WriteFault, Memory, BadLine, Full, TooLarge, NotBuilt}
use Rattle.turkit_top.specs.declared.answer.Answer.{Answer}

-- ---- answers

-- a status with no output and no note of its own
abbrev pub nothing : Status → Answer
nothing status = record { status = status; output = []; note = [] }

-- a status with no output and a note of its own
abbrev pub noted : Status → List ℕ → Answer
noted status note = record { status = status; output = []; note = note }

-- The answer is the one that is due, or want of memory, which has no cause.
abbrev pub IsDue : Answer → Answer → Type 0
IsDue due a = (a ≡ due) ⊎ (a ≡ nothing Memory)

-- the note of an answer, which its status tells, or which is its own
abbrev pub note_by : Status → List ℕ → List ℕ
note_by Usage own = usage
note_by ReadFault own = codes "read fault\n"
note_by Memory own = codes "no memory\n"
note_by NotBuilt own = codes "not built\n"
note_by status own = own

abbrev pub note_of : Answer → List ℕ
note_of a = note_by a.status a.note

-- ---- sources

-- the faults of a source and the bytes that it has left, before and after
pub record Reading : Type 0 where
  pub before : ℕ
  pub now : ℕ
  pub left : Option (List ℕ)
  pub rest : Option (List ℕ)

-- it was not called
abbrev pub IsUnused : Reading → Type 0
IsUnused s = (s.now ≡ s.before) × (s.rest ≡ s.left)

-- it gave all its bytes, at most so many
pub record Gives (limit : ℕ) (s : Reading) (bytes : List ℕ) : Type 0 where
  pub all : Consumes s.left s.rest bytes
  pub end : IsAtEnd s.rest
  pub within : length bytes ≤ limit

-- what is answered where it gave none: it failed, or there were more bytes, of which this is the note. Want of memory has no cause here.
pub data IsUnread (limit : ℕ) (large : List ℕ) (s : Reading) : Answer → Type 0 where
  fault : Rose s.before s.now → IsUnread limit large s (nothing ReadFault)
  too_large : {a : Answer} → IfSome s.left (λ bytes. limit < length bytes) → IsDue (noted TooLarge large) a → IsUnread limit large s a
  unread_memory : IsUnread limit large s (nothing Memory)

abbrev pub script_limit : ℕ
script_limit = 1048576

abbrev pub large_script : List ℕ
large_script = codes "script too large\n"

abbrev pub replies_limit : ℕ
replies_limit = 67108864

abbrev pub large_replies : List ℕ
large_replies = codes "replies too large\n"

-- ---- replies

abbrev pub line_answer : LineStop → Answer
line_answer line.Memory = nothing Memory
line_answer stop = noted BadLine (line_note stop)

-- the replies of a run: those of the lines of a source, or none, where none are asked for
pub data HasReplies (asked : Bool) (s : Reading) : List (Units × Units) → Type 0 where
  unasked : asked ≡ false → IsUnused s → HasReplies asked s []
  of_lines : {bytes : List ℕ} {pairs : List (Units × Units)} → asked ≡ true → Gives replies_limit s bytes → Reads (lines_of bytes) pairs → HasReplies asked s pairs

-- what is answered where there are none
pub data NoReplies (asked : Bool) (s : Reading) : Answer → Type 0 where
  unread : {a : Answer} → asked ≡ true → IsUnread replies_limit large_replies s a → NoReplies asked s a
  bad_line : {bytes : List ℕ} {a : Answer} (stop : LineStop) → asked ≡ true → Gives replies_limit s bytes → HasCause (lines_of bytes) stop → IsDue (line_answer stop) a → NoReplies asked s a

-- ---- a run

abbrev pub status_of : End → Status
status_of end.Finished = Finished
status_of (end.Uncaught text) = Ended
status_of (end.Refused why) = Ended
status_of (end.Waiting waits) = Waiting
status_of end.Spent = Spent

-- the output, where the run ended
abbrev pub output_of : Report → List ℕ
output_of r = if is_ended r.end then r.output else []

-- what is answered on a report
abbrev pub report_answer : Report → Answer
report_answer r = record { status = status_of r.end; output = output_of r; note = run_note r }

-- what is answered on bytes that are no script
abbrev pub fault_answer : ScriptStop → Answer
fault_answer why.TooLarge = noted TooLarge large_script
fault_answer why.Memory = nothing Memory
fault_answer stop = noted Syntax (fault_note stop)

-- what is answered where there is no report; a plain run has these causes alone
abbrev pub stop_answer : Stop → Answer
stop_answer (stop.Script x) = fault_answer x
stop_answer stop.TraceFull = noted Full (codes "trace full\n")
stop_answer other = nothing Memory

-- what a plain run of these bytes comes to, in a world and with so much fuel
pub data IsRun (bytes : List ℕ) (E : World) (fuel : ℕ) : Answer → Type 0 where
  told : {a : Answer} (r : Report) → IsPlain bytes E fuel (Ok r) → IsDue (report_answer r) a → IsRun bytes E fuel a
  refused : {a : Answer} (why : Stop) → IsPlain bytes E fuel (Err why) → IsDue (stop_answer why) a → IsRun bytes E fuel a

-- ---- a command

-- What the command of a plain run comes to, by its two sources, where the words of the draws are known: the script is read, then the
-- replies, and then it runs.
pub data IsPlainAnswer (word : ℕ → ℕ → ℕ) (asked : Bool) (t : Settings) (s e : Reading) : Answer → Type 0 where
  no_script : {a : Answer} → IsUnread script_limit large_script s a → IsUnused e → IsPlainAnswer word asked t s e a
  no_replies : {bytes : List ℕ} {a : Answer} → Gives script_limit s bytes → NoReplies asked e a → IsPlainAnswer word asked t s e a
  ran : {bytes : List ℕ} {pairs : List (Units × Units)} {a : Answer} → Gives script_limit s bytes → HasReplies asked e pairs
      → IsRun bytes (plain_world t.name pairs (word t.dice)) t.fuel a → IsPlainAnswer word asked t s e a

-- what a command comes to; one that is not built leaves the sources alone
abbrev pub IsCommandAnswer : (ℕ → ℕ → ℕ) → Command → Reading → Reading → Answer → Type 0
IsCommandAnswer word (command.Plain asked t) s e a = IsPlainAnswer word asked t s e a
IsCommandAnswer word other s e a = IsUnused s × IsUnused e × (a ≡ nothing NotBuilt)

-- What words come to, by the sources. Words that are no command leave the sources alone.
pub data IsAnswer (word : ℕ → ℕ → ℕ) (words : List (List ℕ)) (s e : Reading) : Answer → Type 0 where
  no_command : command_of words ≡ None → IsUnused s → IsUnused e → IsAnswer word words s e (nothing Usage)
  by_command : {a : Answer} (c : Command) → command_of words ≡ Some c → IsCommandAnswer word c s e a → IsAnswer word words s e a
  no_memory : IsUnused s → IsUnused e → IsAnswer word words s e (nothing Memory)

-- ---- what was written

-- the faults of a sink and the bytes written to it, before and after
pub record Writing : Type 0 where
  pub before : ℕ
  pub now : ℕ
  pub old : Option (List ℕ)
  pub new : Option (List ℕ)

-- The output and the note were written, and the status is the answer's; or one of the sinks failed.
-- Then a front of the output was written and no note, or all of it and a front of the note.
pub data IsGiven (a : Answer) (out notes : Writing) : Status → Type 0 where
  given : Appends out.old out.new a.output → Appends notes.old notes.new (note_of a) → IsGiven a out notes a.status
  out_failed : {n : ℕ} → Rose out.before out.now → n ≤ length a.output → Appends out.old out.new (take n a.output) → notes.new ≡ notes.old → IsGiven a out notes WriteFault
  notes_failed : {n : ℕ} → Rose notes.before notes.now → Appends out.old out.new a.output → n ≤ length (note_of a)
      → Appends notes.old notes.new (take n (note_of a)) → IsGiven a out notes WriteFault
