use Rattle.std.proofs.Common.{◌+◌, ap, sym}
use Rattle.turk_base.specs.Prog.{Put, ask}
use Rattle.turk_base.specs.Errors.{index_text}
use Rattle.value_cells.specs.Seen.{val_in}
use Rattle.builtin_calls.proofs.Moves.{takes_out, leads_then, leads_out, leads_same, gives_on, leaves_on, out_lost}
use Rattle.builtin_calls.proofs.arrays.put_one.Goals as goal

pub returns-in_err-put_at-clause-did : goal.returns-in_err-put_at-clause-did
returns-in_err-put_at-clause-did g c = takes_out _ c.from_residual-in_err-put_at.result c.from_residual-in_err-put_at.ensures.1
    (leads_out (leads_same (λ nu go. ap (λ v. ask (Put (nu c.args.out) (index_text c.args.at) (val_in nu v)) (λ _. go (c.args.at + 1))) (sym c.in_ok-copy.ensures)))
    (leaves_on c.in_err-put_at.ensures.did (λ nu _ go. go (c.args.at + 1))))

pub returns-in_err-sayable-clause-did : goal.returns-in_err-sayable-clause-did
returns-in_err-sayable-clause-did g c = takes_out _ c.from_residual-in_err-sayable.result c.from_residual-in_err-sayable.ensures.1
    (out_lost (leads_then (leads_same (λ nu go. ap (λ v. ask (Put (nu c.args.out) (index_text c.args.at) (val_in nu v)) (λ _. go (c.args.at + 1))) (sym c.in_ok-copy.ensures)))
    (gives_on c.in_ok-put_at.ensures.did (λ nu _ go. go (c.args.at + 1)))))

pub returns-clause-did : goal.returns-clause-did
returns-clause-did g c =
    leads_then (leads_then (leads_same (λ nu go. ap (λ v. ask (Put (nu c.args.out) (index_text c.args.at) (val_in nu v)) (λ _. go (c.args.at + 1))) (sym c.in_ok-copy.ensures)))
    (gives_on c.in_ok-put_at.ensures.did (λ nu _ go. go (c.args.at + 1))))
    (leads_same (λ nu go. ap go (sym c.in_ok-sayable.ensures.same)))
