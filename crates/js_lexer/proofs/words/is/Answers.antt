use Rattle.std.proofs.Common.{◌∙◌, ap, get_or, arith}
use Rattle.js_lexer.proofs.Compared.{same}
use Rattle.js_lexer.proofs.words.is.Goals as goal

pub returns : goal.returns
returns c = same c.args.word.now c.args.text.now (omega arith) (λ k h. c.loop-i.invariant k (omega arith) ∙ ap (λ s. get_or s k 0) c.as_bytes-bytes.ensures.value)
