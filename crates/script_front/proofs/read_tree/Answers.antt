use Rattle.std.proofs.Common.{arith, ◌≤◌}
use Rattle.script_front.proofs.FrontLemmas.{no_tokens, no_tokens_only, a_tree, a_lawful_tree, no_tree, only_tree, only_no_tree}
use Rattle.script_front.proofs.read_tree.Goals as goal

pub returns-in-Err-clause-answer : goal.returns-in-Err-clause-answer
returns-in-Err-clause-answer c = no_tokens _ _ c.of_tokens.ensures _ c.in-Err.ensures.answer

pub returns-in-Err-clause-only : goal.returns-in-Err-clause-only
returns-in-Err-clause-only c ts t few are reads not = no_tokens_only _ _ c.of_tokens.ensures (c.in-Err.ensures.tokens_only ts few are) not

pub returns-in-Ok-parse-clause-answer : goal.returns-in-Ok-parse-clause-answer
returns-in-Ok-parse-clause-answer c = a_tree c.as_slice.ensures.value c.in-Ok.ensures.answer.0 c.in-Ok.ensures.answer.1 c.in-Ok-parse.ensures.ok.0

pub returns-in-Ok-parse-clause-only : goal.returns-in-Ok-parse-clause-only
returns-in-Ok-parse-clause-only c ts t few are reads not = only_tree c.as_slice.ensures.value (c.in-Ok.ensures.tokens_only ts few are)
    (λ r. c.in-Ok-parse.ensures.only t 200 (omega arith) r) reads

pub returns-in-Ok-parse-clause-lawful : goal.returns-in-Ok-parse-clause-lawful
returns-in-Ok-parse-clause-lawful c = a_lawful_tree c.as_slice.ensures.value c.in-Ok.ensures.answer.0 c.in-Ok.ensures.answer.1 c.script_is_lawful.ensures c.in-Ok-parse.ensures.ok.0

pub returns-clause-answer : goal.returns-clause-answer
returns-clause-answer c = no_tree c.as_slice.ensures.value c.in-Ok.ensures.answer.0 c.in-Ok.ensures.answer.1 _ _ c.of_tree.ensures c.in-Err-parse.ensures.refused

pub returns-clause-only : goal.returns-clause-only
returns-clause-only c ts t few are reads not = only_no_tree c.as_slice.ensures.value (c.in-Ok.ensures.tokens_only ts few are) _ _ c.of_tree.ensures
    (λ r. c.in-Err-parse.ensures.only t 200 (omega arith) r) reads not
