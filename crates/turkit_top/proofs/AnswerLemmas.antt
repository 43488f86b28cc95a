-- How the top call's steps give its answer.
use Rattle.std.proofs.Common.{◌≡◌, ℕ, ◌≤◌, List, [], take, length, Bool, true, false, Option, None, Result, Err, refl, sym, subst}
use Rattle.std.specs.Result.{MatchResult}
use Rattle.std.specs.Io.KnownBytes.{Appends, Consumes, IsAtEnd}
use Rattle.outside.specs.Faults.{Rose}
use Rattle.outside.specs.Reading.{HasCause as HasReadCause}
use Rattle.outside.specs.declared.source.ReadStop.{ReadStop}
use Rattle.outside.specs.declared.source.ReadStop.TheVariants as read
use Rattle.ask_model.specs.Asker.{AreReplies}
use Rattle.reply_text.specs.Lines.{Reads, HasCause, lines_of, no_lines, blank_line, reply_line}
use Rattle.reply_text.specs.declared.LineStop.{LineStop}
use Rattle.reply_text.specs.declared.LineStop.TheVariants as line
use Rattle.command_words.specs.Words.{command_of}
use Rattle.command_words.specs.Options.{Answers}
use Rattle.command_words.specs.declared.Command.{Command}
use Rattle.command_words.specs.declared.WordStop.{WordStop}
use Rattle.command_words.specs.declared.WordStop.TheVariants as words
use Rattle.rerun_driver.specs.Plain.{plain_world}
use Rattle.turk_base.specs.declared.Settings.{Settings}
use Rattle.turk_base.specs.Names.{Units}
use Rattle.script_front.specs.declared.ScriptStop.{ScriptStop}
use Rattle.script_front.specs.declared.ScriptStop.TheVariants as why
use Rattle.turkit_top.specs.Notes.{fault_note, line_note}
use Rattle.turkit_top.specs.Answers.{nothing, noted, note_by, note_of, fault_answer, line_answer, IsDue, Reading, Gives, IsUnread, fault, too_large, unread_memory, IsUnused, script_limit, replies_limit, HasReplies, unasked, of_lines, NoReplies, bad_line, IsRun, IsPlainAnswer, ran, IsAnswer, no_command, no_memory, Writing, IsGiven, given, out_failed, notes_failed}
use Rattle.turkit_top.specs.declared.status.Status.{Status}
use Rattle.turkit_top.specs.declared.status.Status.TheVariants.{Finished, Ended, Usage, Syntax, Waiting, Spent, ReadFault, DiskFault, BoardFault, WriteFault, Memory, BadJournal, OtherJournal, Diverged, BadLine, Full, TooLarge, Stopped, NotBuilt}
use Rattle.turkit_top.specs.declared.answer.Answer.{Answer}

-- ---- notes

-- the statuses that tell no note
pub own_note : (s : Status) (own : List ℕ) → (s ≡ Usage → ⊥) → (s ≡ ReadFault → ⊥) → (s ≡ Memory → ⊥) → (s ≡ NotBuilt → ⊥) → note_by s own ≡ own
own_note Finished own u r m n = refl
own_note Ended own u r m n = refl
own_note Usage own u r m n = absurd (u refl)
own_note Syntax own u r m n = refl
own_note Waiting own u r m n = refl
own_note Spent own u r m n = refl
own_note ReadFault own u r m n = absurd (r refl)
own_note DiskFault own u r m n = refl
own_note BoardFault own u r m n = refl
own_note WriteFault own u r m n = refl
own_note Memory own u r m n = absurd (m refl)
own_note BadJournal own u r m n = refl
own_note OtherJournal own u r m n = refl
own_note Diverged own u r m n = refl
own_note BadLine own u r m n = refl
own_note Full own u r m n = refl
own_note TooLarge own u r m n = refl
own_note Stopped own u r m n = refl
own_note NotBuilt own u r m n = absurd (n refl)

-- the faults of a script that have a note
pub noted_fault : (stop : ScriptStop) → (stop ≡ why.TooLarge → ⊥) → (stop ≡ why.Memory → ⊥) → fault_answer stop ≡ noted Syntax (fault_note stop)
noted_fault (why.NotUtf8 place) f g = refl
noted_fault (why.BadToken place) f g = refl
noted_fault (why.NumberForm place) f g = refl
noted_fault (why.Syntax place) f g = refl
noted_fault why.Nesting f g = refl
noted_fault (why.LeftOut place x) f g = refl
noted_fault why.TooManyNames f g = refl
noted_fault why.TooLarge f g = absurd (f refl)
noted_fault why.Memory f g = absurd (g refl)

-- ---- replies

-- the replies of lines are within the limits of a run
pub are_replies : {lines : List (List ℕ)} {pairs : List (Units × Units)} → Reads lines pairs → AreReplies pairs
are_replies no_lines = tt
are_replies (blank_line b r) = are_replies r
are_replies (reply_line b is le r) = ((is.token_is.1, is.answer_is.1), are_replies r)

-- ---- sources

pub gives : (limit : ℕ) (s : Reading) (bytes seen : List ℕ) → Consumes s.left s.rest bytes → IsAtEnd s.rest → length bytes ≤ limit → seen ≡ bytes → Gives limit s seen
gives limit s bytes seen all end within same = subst (λ l. Gives limit s l) (sym same) (record { all = all; end = end; within = within })

pub source_fault : (limit : ℕ) (large : List ℕ) (s : Reading) (e : ReadStop) (a : Answer) → HasReadCause s.before s.now s.left limit e → e ≡ read.Fault → a ≡ nothing ReadFault → IsUnread limit large s a
source_fault limit large s e a cause stop is = subst (λ x. IsUnread limit large s x) (sym is) (fault (subst (λ x. HasReadCause s.before s.now s.left limit x) stop cause))

pub source_large : (limit : ℕ) (large : List ℕ) (s : Reading) (e : ReadStop) (a : Answer) → HasReadCause s.before s.now s.left limit e → e ≡ read.TooLarge → IsDue (noted TooLarge large) a → IsUnread limit large s a
source_large limit large s e a cause stop is = too_large (subst (λ x. HasReadCause s.before s.now s.left limit x) stop cause) is

pub source_memory : (limit : ℕ) (large : List ℕ) (s : Reading) (a : Answer) → a ≡ nothing Memory → IsUnread limit large s a
source_memory limit large s a is = subst (λ x. IsUnread limit large s x) (sym is) unread_memory

-- the notes on lines
pub noted_line : (stop : LineStop) → (stop ≡ line.Memory → ⊥) → line_answer stop ≡ noted BadLine (line_note stop)
noted_line (line.BadLine n) f = refl
noted_line (line.TooLong n) f = refl
noted_line line.Memory f = absurd (f refl)

pub replies_read : (s : Reading) (bytes seen : List ℕ) (pairs : List (Units × Units)) → Gives replies_limit s bytes → seen ≡ bytes → Reads (lines_of seen) pairs → HasReplies true s pairs
replies_read s bytes seen pairs g same r = of_lines refl g (subst (λ l. Reads (lines_of l) pairs) same r)

pub replies_unread : (s : Reading) (bytes seen : List ℕ) (stop : LineStop) (a : Answer) → Gives replies_limit s bytes → seen ≡ bytes → HasCause (lines_of seen) stop → IsDue (line_answer stop) a → NoReplies true s a
replies_unread s bytes seen stop a g same cause is = bad_line stop refl g (subst (λ l. HasCause (lines_of l) stop) same cause) is

pub asked_so : (b : Bool) (s : Reading) (r : Result (List (Units × Units)) Answer) → b ≡ true → MatchResult r (λ pairs. HasReplies true s pairs) (λ a. NoReplies true s a)
    → MatchResult r (λ pairs. HasReplies b s pairs) (λ a. NoReplies b s a)
asked_so b s r is h = subst (λ x. MatchResult r (λ pairs. HasReplies x s pairs) (λ a. NoReplies x s a)) (sym is) h

pub not_asked : (b : Bool) (s : Reading) (pairs : List (Units × Units)) → b ≡ false → IsUnused s → pairs ≡ [] → HasReplies b s pairs
not_asked b s pairs is unused none = subst (λ l. HasReplies b s l) (sym none) (unasked is unused)

-- ---- the run

pub plain_ran : (word : ℕ → ℕ → ℕ) (asked : Bool) (t : Settings) (s e : Reading) (bytes seen : List ℕ) (pairs : List (Units × Units)) (a : Answer) → Gives script_limit s bytes → HasReplies asked e pairs → seen ≡ bytes
    → IsRun seen (plain_world t.name pairs (word t.dice)) t.fuel a → IsPlainAnswer word asked t s e a
plain_ran word asked t s e bytes seen pairs a g h same r = ran g h (subst (λ l. IsRun l (plain_world t.name pairs (word t.dice)) t.fuel a) same r)

-- ---- a command

pub no_words : (due : Option Command) (stop : WordStop) → Answers due (Err stop) → stop ≡ words.Usage → due ≡ None
no_words due stop h is = subst (λ x. Answers due (Err x)) is h

pub words_wrong : (word : ℕ → ℕ → ℕ) (words : List (List ℕ)) (s e : Reading) (a : Answer) → command_of words ≡ None → IsUnused s → IsUnused e → a ≡ nothing Usage → IsAnswer word words s e a
words_wrong word words s e a none us ue is = subst (λ x. IsAnswer word words s e x) (sym is) (no_command none us ue)

pub words_memory : (word : ℕ → ℕ → ℕ) (words : List (List ℕ)) (s e : Reading) (a : Answer) → IsUnused s → IsUnused e → a ≡ nothing Memory → IsAnswer word words s e a
words_memory word words s e a us ue is = subst (λ x. IsAnswer word words s e x) (sym is) (no_memory us ue)

-- ---- the sinks

pub gave : (a : Answer) (out notes : Writing) (seen text : List ℕ) → seen ≡ a.output → text ≡ note_of a
    → Appends out.old out.new seen → Appends notes.old notes.new text → IsGiven a out notes a.status
gave a out notes seen text same is all noted =
    given (subst (λ l. Appends out.old out.new l) same all) (subst (λ l. Appends notes.old notes.new l) is noted)

pub gave_no_note : (a : Answer) (out notes : Writing) (seen text : List ℕ) → seen ≡ a.output → text ≡ note_of a
    → Appends out.old out.new seen → Rose notes.before notes.now
    → (n : ℕ) × (n ≤ length text) × Appends notes.old notes.new (take n text) → IsGiven a out notes WriteFault
gave_no_note a out notes seen text same is all rose (n, short, front) =
    notes_failed {n = n} rose (subst (λ l. Appends out.old out.new l) same all) (subst (λ l. n ≤ length l) is short)
    (subst (λ l. Appends notes.old notes.new (take n l)) is front)

pub gave_front : (a : Answer) (out notes : Writing) (seen : List ℕ) → seen ≡ a.output → Rose out.before out.now
    → (n : ℕ) × (n ≤ length seen) × Appends out.old out.new (take n seen) → notes.new ≡ notes.old → IsGiven a out notes WriteFault
gave_front a out notes seen same rose (n, short, front) kept =
    out_failed {n = n} rose (subst (λ l. n ≤ length l) same short) (subst (λ l. Appends out.old out.new (take n l)) same front) kept
