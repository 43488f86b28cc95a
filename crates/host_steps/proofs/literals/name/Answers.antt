use Rattle.js_tree.specs.Expressions.{name_row}
use Rattle.run_host.proofs.Fits.{valued}
use Rattle.host_steps.proofs.literals.name.Goals as goal

pub returns-clause-ran : goal.returns-clause-ran
unfolding name_row
returns-clause-ran g c = valued _ c.get_variable.result c.get_variable.ensures.did
