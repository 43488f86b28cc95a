use Rattle.std.proofs.Common.{◌+◌, ap, sym}
use Rattle.turk_base.specs.BuiltIns as spec
use Rattle.builtin_calls.proofs.Moves.{takes_out, leads_then, leads_out, leads_same, gives_on, leaves_on, out_lost, from_first}
use Rattle.builtin_calls.proofs.arrays.spread.Goals as goal

pub returns-in_err-length-clause-did : goal.returns-in_err-length-clause-did
returns-in_err-length-clause-did g c = takes_out _ c.from_residual.result c.from_residual.ensures.1
    (leaves_on c.in_err-length.ensures.did (λ nu n go. spec.spread (nu c.args.out) (nu c.args.from) n c.args.at (λ _. go (c.args.at + n))))

pub returns-in_err-copy_items-clause-did : goal.returns-in_err-copy_items-clause-did
returns-in_err-copy_items-clause-did g c = takes_out _ c.from_residual-in_err-copy_items.result c.from_residual-in_err-copy_items.ensures.1
    (leads_out (leads_then (gives_on c.in_ok-length.ensures.did (λ nu n go. spec.spread (nu c.args.out) (nu c.args.from) n c.args.at (λ _. go (c.args.at + n))))
    (leads_same (λ nu go. from_first (nu c.args.from) (nu c.args.out) c.in_ok-length.length c.args.at (λ _. go (c.args.at + c.in_ok-length.length)))))
    (leaves_on c.in_err-copy_items.ensures.did (λ nu _ go. go (c.args.at + c.in_ok-length.length))))

pub returns-in_err-sayable-clause-did : goal.returns-in_err-sayable-clause-did
returns-in_err-sayable-clause-did g c = takes_out _ c.from_residual-in_err-sayable.result c.from_residual-in_err-sayable.ensures.1
    (out_lost (leads_then (leads_then (gives_on c.in_ok-length.ensures.did (λ nu n go. spec.spread (nu c.args.out) (nu c.args.from) n c.args.at (λ _. go (c.args.at + n))))
    (leads_same (λ nu go. from_first (nu c.args.from) (nu c.args.out) c.in_ok-length.length c.args.at (λ _. go (c.args.at + c.in_ok-length.length)))))
    (gives_on c.in_ok-copy_items.ensures.did (λ nu _ go. go (c.args.at + c.in_ok-length.length)))))

pub returns-clause-did : goal.returns-clause-did
returns-clause-did g c =
    leads_then (leads_then (leads_then (gives_on c.in_ok-length.ensures.did (λ nu n go. spec.spread (nu c.args.out) (nu c.args.from) n c.args.at (λ _. go (c.args.at + n))))
    (leads_same (λ nu go. from_first (nu c.args.from) (nu c.args.out) c.in_ok-length.length c.args.at (λ _. go (c.args.at + c.in_ok-length.length)))))
    (gives_on c.in_ok-copy_items.ensures.did (λ nu _ go. go (c.args.at + c.in_ok-length.length))))
    (leads_same (λ nu go. ap go (sym c.in_ok-sayable.ensures.same)))
