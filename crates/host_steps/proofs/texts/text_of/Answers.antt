use Rattle.run_host.proofs.Exits.{takes_exit}
use Rattle.run_host.proofs.Fits.{takes_as, leaves_lost}
use Rattle.host_steps.proofs.Made.{text_leads, text_refused, text_kept}
use Rattle.host_steps.proofs.texts.text_of.Goals as goal

pub returns-in_err-copy-clause-did : goal.returns-in_err-copy-clause-did
returns-in_err-copy-clause-did g c = takes_exit _ _ c.from_residual.ensures.1 leaves_lost

pub returns-in-Text-clause-did : goal.returns-in-Text-clause-did
returns-in-Text-clause-did g c = text_kept c.args.value.now c.in-Text.units c.in_ok-copy.field-0 c.in-Text.is c.in_ok-copy.ensures

pub returns-in_err-text-clause-did : goal.returns-in_err-text-clause-did
returns-in_err-text-clause-did g c = takes_exit _ _ c.from_residual-in_err-text.ensures.1 leaves_lost

pub returns-in-Some-clause-did : goal.returns-in-Some-clause-did
returns-in-Some-clause-did g c = takes_as _ (λ nu t. t) c.paid.result
    (text_leads c.args.value.now _ c.in-Some.text c.in_default.not-Text c.in_ok-text.ensures c.in-Some.is) c.paid.ensures.did

pub returns-in-None-clause-did : goal.returns-in-None-clause-did
returns-in-None-clause-did g c = text_refused c.args.value.now _ c.in_default.not-Text c.in_ok-text.ensures c.in-None.is
