use Rattle.std.proofs.Common.{subst}
use Rattle.builtin_calls.specs.Gives.{IsPrimitive}
use Rattle.value_cells.specs.Seen.{val_in}
use Rattle.builtin_calls.proofs.Moves.{takes_as, text_leads, text_refused}
use Rattle.builtin_calls.proofs.steps.text_of.Goals as goal

pub returns-in_ok-text-in-Some-clause-did : goal.returns-in_ok-text-in-Some-clause-did
returns-in_ok-text-in-Some-clause-did g c = takes_as _ (λ nu t. t) c.paid.result
    (text_leads c.args.value.now c.in-Some.found c.in_ok-text-in-Some.field-0 c.in_default.not-Text
    (λ nu. subst (λ o. IsPrimitive o (val_in nu c.args.value.now)) c.in-Some.is (c.in_ok-found.ensures nu)) c.in_ok-text-in-Some.ensures) c.paid.ensures.did

pub returns-in-None-clause-did : goal.returns-in-None-clause-did
returns-in-None-clause-did g c = text_refused c.args.value.now (λ nu. subst (λ o. IsPrimitive o (val_in nu c.args.value.now)) c.in-None.is (c.in_ok-found.ensures nu))
