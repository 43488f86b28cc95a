use Rattle.std.proofs.Common.{ap, sym}
use Rattle.turk_base.specs.BuiltIns as spec
use Rattle.builtin_calls.proofs.Moves.{takes_out, leads_then, leads_out, leads_same, gives_on, leaves_on, out_lost, other_pieces}
use Rattle.builtin_calls.proofs.texts.pieces_in.Goals as goal

pub returns-in_err-part-clause-did : goal.returns-in_err-part-clause-did
returns-in_err-part-clause-did g c = takes_out _ c.from_residual-in_err-part.result c.from_residual-in_err-part.ensures.1
    (leads_out (other_pieces c.args.separator.now c.args.text.now c.in_default.not-Undefined) (leaves_on c.in_err-part.ensures.did (λ nu u go. go (spec.split_pieces u c.args.text.now))))

pub returns-in_err-split_pieces-clause-did : goal.returns-in_err-split_pieces-clause-did
returns-in_err-split_pieces-clause-did g c = takes_out _ c.from_residual-in_err-split_pieces.result c.from_residual-in_err-split_pieces.ensures.1
    (out_lost (leads_then (other_pieces c.args.separator.now c.args.text.now c.in_default.not-Undefined) (gives_on c.in_ok-part.ensures.did (λ nu u go. go (spec.split_pieces u c.args.text.now)))))

pub returns-clause-did : goal.returns-clause-did
returns-clause-did g c =
    leads_then (leads_then (other_pieces c.args.separator.now c.args.text.now c.in_default.not-Undefined) (gives_on c.in_ok-part.ensures.did (λ nu u go. go (spec.split_pieces u c.args.text.now))))
    (leads_same (λ nu go. ap go (sym c.in_ok-split_pieces.ensures)))
