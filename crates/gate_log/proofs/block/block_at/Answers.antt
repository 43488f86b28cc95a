use Rattle.std.proofs.Common.{arith, ◌∙◌, ap, ◌∷◌, ◌++◌, List, ℕ, length, take, length-append}
use Rattle.gate_log.specs.Log.{framed, size_bytes, length-size_bytes}
use Rattle.gate_log.proofs.Blocks.{too_short, block_found, rest_is}
use Rattle.gate_log.proofs.block.block_at.Goals as goal

pub returns-then-bytes-lt4 : goal.returns-then-bytes-lt4
returns-then-bytes-lt4 c e after gate short is = omega (arith, c.if-bytes-lt4.true, ap length is, length-append (size_bytes (length e)) (e ++ gate ∷ after), length-size_bytes (length e))

pub returns-then-rest-size : goal.returns-then-rest-size
returns-then-rest-size c = too_short c.args.bytes.now c.size_at-size.result c.size_at-size.ensures.size c.size_at-size.ensures.small (omega (arith, c.if-rest-size.true, ap length (rest_is 4 c.args.bytes.now)))

pub returns : goal.returns
returns c =
    let bytes = c.args.bytes.now in
    block_found bytes c.in_ok-block_of.field-0.bytes.items c.size_at-size.result c.size_at-size.ensures.size c.size_at-size.ensures.small (omega (arith, c.if-rest-size.false, ap length (rest_is 4 bytes))) (c.in_ok-block_of.ensures.bytes ∙ ap (λ (l : List ℕ). framed (take c.size_at-size.result l)) (rest_is 4 bytes))
