use Rattle.std.proofs.Common.{◌≡◌, ℕ, ◌<◌, true, get_or}
use Rattle.js_lexer.specs.Chars.{continues}
use Rattle.js_lexer.proofs.words.word_end.Given as goal

abbrev pub invariant-loop-i : goal.invariant-loop-i
invariant-loop-i l = (k : ℕ) → l.place < k → k < l.i → continues (get_or l.text k 0) ≡ true
