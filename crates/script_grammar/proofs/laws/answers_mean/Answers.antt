use Rattle.script_grammar.proofs.Meaning.{answers_ok, answers_err, only, not_short}
use Rattle.script_grammar.proofs.laws.answers_mean.Goals as goal

pub returns-clause-ok : goal.returns-clause-ok
returns-clause-ok c ts d g = answers_ok g

pub returns-clause-err : goal.returns-clause-err
returns-clause-err c ts e g = answers_err e g

pub returns-clause-only : goal.returns-clause-only
returns-clause-only c ts tree depth o le r g = only le r g

pub returns-clause-whole : goal.returns-clause-whole
returns-clause-whole c ts o h g = not_short h g
