use Rattle.std.proofs.Common.{refl}
use Rattle.turkit_top.specs.Answers.{no_script, no_replies}
use Rattle.turkit_top.proofs.AnswerLemmas.{plain_ran}
use Rattle.turkit_top.proofs.top.of_plain.Goals as goal

pub returns-in-Err-clause-answer : goal.returns-in-Err-clause-answer
returns-in-Err-clause-answer g c = no_script c.in-Err.ensures.read (refl, refl)

pub returns-in-Ok-replies_of-clause-answer : goal.returns-in-Ok-replies_of-clause-answer
returns-in-Ok-replies_of-clause-answer g c = plain_ran _ _ _ _ _ c.in-Ok.bytes c.as_slice.result.now c.in-Ok-replies_of.replies _ c.in-Ok.ensures.read c.in-Ok-replies_of.ensures.read c.as_slice.ensures c.of_run.ensures

pub returns-clause-answer : goal.returns-clause-answer
returns-clause-answer g c = no_replies c.in-Ok.ensures.read c.in-Err-replies_of.ensures.read
