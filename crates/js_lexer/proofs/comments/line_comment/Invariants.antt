use Rattle.std.proofs.Common.{◌≡◌, ℕ, ◌<◌, ◌≤◌, false, get_or}
use Rattle.js_lexer.specs.Chars.{is_line_end}
use Rattle.js_lexer.proofs.comments.line_comment.Given as goal

abbrev pub invariant-loop-i : goal.invariant-loop-i
invariant-loop-i l = (k : ℕ) → l.place ≤ k → k < l.i → is_line_end (get_or l.text k 0) ≡ false
