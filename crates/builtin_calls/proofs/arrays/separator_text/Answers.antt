use Rattle.builtin_calls.proofs.Moves.{takes_as, other_separator}
use Rattle.builtin_calls.proofs.arrays.separator_text.Goals as goal

pub returns-clause-did : goal.returns-clause-did
returns-clause-did g c = takes_as _ (λ nu t. t) c.text_of.result (other_separator c.args.value.now c.in_default.not-Undefined) c.text_of.ensures.did
