use Rattle.std.proofs.Common.{◌≡◌, ℕ, ◌+◌, ◌≤◌, List, ◌++◌, length}
use Rattle.reply_text.specs.Lines.{lines_of, Reads}
use Rattle.reply_text.proofs.file.replies.Given as goal

abbrev pub invariant-lines : goal.invariant-lines
invariant-lines l =
    (before : List (List ℕ)) × (lines_of l.fn.bytes ≡ before ++ lines_of l.rest) × (l.number ≡ length before)
    × Reads before l.found × (length before + length l.rest ≤ length l.fn.bytes)

abbrev pub decreases-lines : goal.decreases-lines
decreases-lines l = length l.rest
