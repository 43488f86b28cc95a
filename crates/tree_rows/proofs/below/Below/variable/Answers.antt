use Rattle.std.specs.Prelude.{Ok, Err}
use Rattle.js_tree.specs.declared.Variable.{out-Variable}
use Rattle.js_tree.specs.Statements.{variable_row}
use Rattle.js_tree.specs.Pieces.{set_variable}
use Rattle.run_host.specs.Told.{here_in}
use Rattle.run_host.proofs.Sequence.{evaluated, leads_then, leads_same, leaves_on}
use Rattle.run_host.proofs.Exits.{takes_exit}
use Rattle.run_host.proofs.Fits.{takes_on}
use Rattle.tree_rows.proofs.below.Below.variable.Goals as goal

pub returns-in_default-clause-did : goal.returns-in_default-clause-did
unfolding variable_row
returns-in_default-clause-did g c = rw c.in_default.is leads_same

pub returns-in_err-value-clause-did : goal.returns-in_err-value-clause-did
unfolding variable_row
returns-in_err-value-clause-did g c = rw c.in-Some.is (takes_exit _ _ c.from_residual.ensures.1 (leaves_on (evaluated (Err _) c.in_err-value.ensures.ran) (λ nu v. set_variable (here_in nu c.args.here) (out-Variable c.args.x.now).named v)))

pub returns-clause-did : goal.returns-clause-did
unfolding variable_row
returns-clause-did g c = rw c.in-Some.is (takes_on _ (λ nu v. set_variable (here_in nu c.args.here) (out-Variable c.args.x.now).named v) (λ nu u. u) c.set_variable.result (evaluated (Ok _) c.in_ok-value.ensures.ran) c.set_variable.ensures.did)
