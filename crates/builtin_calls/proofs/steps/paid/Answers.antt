use Rattle.std.proofs.Common.{arith, length, Ok, Err}
use Rattle.builtin_calls.proofs.Moves.{takes_out, leads_then, leads_out, gives_on, leaves_on, pay_takes, too_long, paid_leads}
use Rattle.builtin_calls.proofs.steps.paid.Goals as goal

pub returns-then-len-gt1048576-clause-did : goal.returns-then-len-gt1048576-clause-did
returns-then-len-gt1048576-clause-did g c = too_long c.args.units (omega (arith, c.len.ensures, c.if-len-gt1048576.true))

pub returns-in_err-pay-clause-did : goal.returns-in_err-pay-clause-did
returns-in_err-pay-clause-did g c = takes_out _ c.from_residual.result c.from_residual.ensures.1
    (leads_out (paid_leads c.args.units (omega (arith, c.len.ensures, c.if-len-gt1048576.false)))
    (leaves_on (pay_takes (λ nu u. u) (length c.args.units) (Err c.in_err-pay.field-0.0) c.len-2.ensures c.in_err-pay.ensures.did) (λ nu a go. go c.args.units)))

pub returns-clause-did : goal.returns-clause-did
returns-clause-did g c =
    leads_then (paid_leads c.args.units (omega (arith, c.len.ensures, c.if-len-gt1048576.false)))
    (gives_on (pay_takes (λ nu u. u) (length c.args.units) (Ok c.in_ok-pay.field-0) c.len-2.ensures c.in_ok-pay.ensures.did) (λ nu a go. go c.args.units))
