use Rattle.builtin_calls.proofs.Moves.{takes_as, other_item}
use Rattle.builtin_calls.proofs.arrays.value_text.Goals as goal

pub returns-in_default-clause-did : goal.returns-in_default-clause-did
returns-in_default-clause-did g c = takes_as _ (λ nu t. t) c.text_of.result (other_item c.args.value.now c.in_default.not-Undefined c.in_default.not-Null) c.text_of.ensures.did
