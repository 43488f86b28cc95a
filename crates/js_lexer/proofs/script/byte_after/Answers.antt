-- One character more.
use Rattle.std.proofs.Common.{◌∙◌, ap, length, arith}
use Rattle.std.specs.Prelude.{encode_utf8}
use Rattle.js_lexer.proofs.ScriptLemmas.{byte_more}
use Rattle.js_lexer.proofs.script.byte_after.Goals as goal

pub overflow_add-byte : goal.overflow_add-byte
overflow_add-byte c =
    let m = byte_more c.args.text.now c.loop-i.i c.len_utf8.result c.loop-i.byte c.requires.small (omega arith) c.loop-i.invariant (c.len_utf8.ensures.len ∙ ap (λ x. length (encode_utf8 x)) c.at.ensures) in
    let few = m.1 in omega arith

pub loop-i-preserved : goal.loop-i-preserved
loop-i-preserved c =
    (byte_more c.args.text.now c.loop-i.i c.len_utf8.result c.loop-i.byte c.requires.small (omega arith) c.loop-i.invariant (c.len_utf8.ensures.len ∙ ap (λ x. length (encode_utf8 x)) c.at.ensures)).0
