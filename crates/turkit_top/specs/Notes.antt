-- The texts of the notes (own rule).
use Rattle.std.specs.Prelude.{ℕ, Bool, true, false, List, [], ◌++◌, decimal, codes, if◌then◌else◌}
use Rattle.std.specs.List.{flat_map}
use Rattle.turk_base.specs.Encodings.{bytes_of}
use Rattle.run_texts.specs.Texts.{waiting, crashed, uncaught, dependent}
use Rattle.reply_text.specs.declared.LineStop.{LineStop}
use Rattle.reply_text.specs.declared.LineStop.TheVariants as line
use Rattle.script_front.specs.declared.ScriptStop.{ScriptStop}
use Rattle.script_front.specs.declared.ScriptStop.TheVariants as why
use Rattle.script_grammar.specs.declared.Form.{Form}
use Rattle.script_grammar.specs.declared.Form.TheVariants as form
use Rattle.machine_host.specs.declared.Wait.{Wait}
use Rattle.machine_host.specs.declared.Wait.TheVariants.{Task, Crashed}
use Rattle.run_host.specs.declared.Refusal.{Refusal}
use Rattle.run_host.specs.declared.Refusal.TheVariants.{NotWhole, NoPrimitive, TooDeep, TooLong, NotData, ForkInOnce}
use Rattle.script_run.specs.declared.End.{End}
use Rattle.script_run.specs.declared.End.TheVariants.{Finished, Uncaught, Refused, Waiting, Spent}
use Rattle.rerun_driver.specs.declared.Report.{Report}

-- ---- on a script that is none

abbrev pub form_name : Form → List ℕ
form_name form.With = codes "With"
form_name form.Eval = codes "Eval"
form_name form.Arguments = codes "Arguments"
form_name form.RegExp = codes "RegExp"
form_name form.Label = codes "Label"
form_name form.Elision = codes "Elision"
form_name form.Delete = codes "Delete"

-- a text, a place and a line feed
abbrev pub at_byte : List ℕ → ℕ → List ℕ
at_byte text place = text ++ decimal place ++ codes "\n"

-- a text, a place and the form that stands there
abbrev pub at_form : ℕ → Form → List ℕ
at_form place x = codes "left out at byte " ++ decimal place ++ codes ": " ++ form_name x ++ codes "\n"

-- the note on a script that is none; that it is too large or that memory ran out are no such notes
abbrev pub fault_note : ScriptStop → List ℕ
fault_note (why.NotUtf8 place) = at_byte (codes "not UTF-8 at byte ") place
fault_note (why.BadToken place) = at_byte (codes "bad token at byte ") place
fault_note (why.NumberForm place) = at_byte (codes "number form at byte ") place
fault_note (why.Syntax place) = at_byte (codes "syntax error at byte ") place
fault_note why.Nesting = codes "nesting over 200\n"
fault_note (why.LeftOut place x) = at_form place x
fault_note why.TooManyNames = codes "too many names\n"
fault_note why.TooLarge = []
fault_note why.Memory = []

-- ---- on a line that is none

abbrev pub line_note : LineStop → List ℕ
line_note (line.BadLine n) = codes "line " ++ decimal n ++ codes " unreadable\n"
line_note (line.TooLong n) = codes "line " ++ decimal n ++ codes " too long\n"
line_note line.Memory = []

-- ---- on a run, in 16-bit units

abbrev pub refusal_name : Refusal → List ℕ
refusal_name NotWhole = codes "NotWhole"
refusal_name NoPrimitive = codes "NoPrimitive"
refusal_name TooDeep = codes "TooDeep"
refusal_name TooLong = codes "TooLong"
refusal_name NotData = codes "NotData"
refusal_name ForkInOnce = codes "ForkInOnce"

-- the line on what is waited for
abbrev pub wait_line : Wait → List ℕ
wait_line (Task token) = waiting token
wait_line (Crashed scope) = crashed scope

-- the lines on how a run ended
abbrev pub end_lines : End → List ℕ
end_lines Finished = []
end_lines (Uncaught text) = uncaught text
end_lines (Refused why) = codes "refused " ++ refusal_name why ++ codes "\n"
end_lines (Waiting waits) = flat_map wait_line waits.items
end_lines Spent = codes "spent\n"

-- the script came to an end, and neither waits nor was cut
abbrev pub is_ended : End → Bool
is_ended Finished = true
is_ended (Uncaught text) = true
is_ended (Refused why) = true
is_ended (Waiting waits) = false
is_ended Spent = false

-- the lines on a run, and that on why its branches depend on each other, where it ended
abbrev pub run_lines : Report → List ℕ
run_lines r = end_lines r.end ++ (if is_ended r.end then dependent r.verdict else [])

-- the same in UTF-8
abbrev pub run_note : Report → List ℕ
run_note r = bytes_of (run_lines r)

-- ---- on words

abbrev pub usage : List ℕ
usage = codes "usage: turkit plain SCRIPT [REPLIES] [OPTIONS]\n       turkit run SCRIPT REPLIES JOURNAL TASKS [OPTIONS]\n       turkit play SCRIPT EVENTS [OPTIONS]\n       turkit show SCRIPT REPLIES JOURNAL\n       turkit make N\noptions: --fuel N  --name X  --dice N\n"
