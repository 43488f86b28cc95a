use Rattle.turk_base.specs.BuiltIns as spec
use Rattle.builtin_calls.proofs.Moves.{takes_out, takes_as, gives_on, leaves_on}
use Rattle.builtin_calls.proofs.arrays.text_at.Goals as goal

pub returns-in_err-item-clause-did : goal.returns-in_err-item-clause-did
returns-in_err-item-clause-did g c = takes_out _ c.from_residual.result c.from_residual.ensures.1 (leaves_on c.in_err-item.ensures.did (λ nu v. spec.item_text v))

pub returns-clause-did : goal.returns-clause-did
returns-clause-did g c = takes_as _ (λ nu t. t) c.item_text.result (gives_on c.in_ok-item.ensures.did (λ nu v. spec.item_text v)) c.item_text.ensures.did
