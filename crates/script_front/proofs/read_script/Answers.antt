use Rattle.script_front.proofs.FrontLemmas.{read_refused, read_bound}
use Rattle.script_front.proofs.read_script.Goals as goal

pub returns-in-Ok-resolve-clause-answer : goal.returns-in-Ok-resolve-clause-answer
returns-in-Ok-resolve-clause-answer c = read_bound _ _ _ c.in-Ok.ensures.answer c.in-Ok-resolve.ensures.same c.in-Ok-resolve.ensures.few
