use Rattle.std.proofs.Common.{arith}
use Rattle.run_host.proofs.Exits.{takes_exit}
use Rattle.run_host.proofs.Sequence.{leads_then, leads_out, gives_on, leaves_on}
use Rattle.host_steps.proofs.Made.{too_long, paid_leads}
use Rattle.host_steps.proofs.texts.paid.Goals as goal

pub returns-then-len-gt1048576-clause-did : goal.returns-then-len-gt1048576-clause-did
returns-then-len-gt1048576-clause-did g c = too_long c.args.units (omega (arith, c.len.ensures, c.if-len-gt1048576.true))

pub returns-in_err-pay-clause-did : goal.returns-in_err-pay-clause-did
returns-in_err-pay-clause-did g c = takes_exit _ c.from_residual.result c.from_residual.ensures.1
    (leads_out (paid_leads c.args.units c.len-2.result c.len-2.ensures (omega (arith, c.len.ensures, c.if-len-gt1048576.false)))
    (leaves_on c.in_err-pay.ensures.did (λ nu a go. go c.args.units)))

pub returns-clause-did : goal.returns-clause-did
returns-clause-did g c =
    leads_then (paid_leads c.args.units c.len-2.result c.len-2.ensures (omega (arith, c.len.ensures, c.if-len-gt1048576.false)))
    (gives_on c.in_ok-pay.ensures.did (λ nu a go. go c.args.units))
