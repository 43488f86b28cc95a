use Rattle.std.proofs.Common.{ℕ, ◌<◌, ◌≤◌, ◌+◌}
use Rattle.js_lexer.specs.Pieces.{Closes, HasLineEnd}
use Rattle.js_lexer.proofs.comments.block_comment.Given as goal

abbrev pub invariant-loop-i : goal.invariant-loop-i
invariant-loop-i l = record {
  first : (k : ℕ) → l.place + 2 ≤ k → k < l.i → Closes l.text k → ⊥;
  lines : HasLineEnd l.text l.line (l.place + 2) l.i;
}
