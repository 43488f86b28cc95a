use Rattle.std.proofs.Common.{arith}
use Rattle.js_tree.specs.Rows.{expr_to, stmt_to}
use Rattle.run_host.specs.Told.{here_in}
use Rattle.run_host.proofs.Sequence.{onward_same}
use Rattle.run_host.proofs.Exits.{flow_exit}
use Rattle.tree_rows.specs.Codes.{table_in}
use Rattle.tree_rows.proofs.Vars.{vars_next, vars_out, vars_over}
use Rattle.tree_rows.proofs.below.Below.variables.Goals as goal

pub loop-one-init : goal.loop-one-init
loop-one-init g c = record { rest = onward_same; more = omega arith; sound = c.requires.sound }

pub returns-in_err-variable-clause-ran : goal.returns-in_err-variable-clause-ran
returns-in_err-variable-clause-ran g c = let t = table_in c.args.codes.now in
    flow_exit _ _ c.from_residual.ensures.1 (vars_out t (expr_to t c.args.self.now.left) (stmt_to t c.args.self.now.left) (λ nu. here_in nu c.args.here) c.args.all.now c.loop-one.one-index c.one-item.result _ c.loop-one-test.true c.one-item.is c.loop-one.invariant.rest c.in_err-variable.ensures.did)

pub loop-one-preserved : goal.loop-one-preserved
loop-one-preserved g c = let t = table_in c.args.codes.now in record {
  rest = vars_next t (expr_to t c.args.self.now.left) (stmt_to t c.args.self.now.left) (λ nu. here_in nu c.args.here) c.args.all.now c.loop-one.one-index c.one-item.result c.loop-one-test.true c.one-item.is c.loop-one.invariant.rest c.in_ok-variable.ensures.did;
  more = omega (arith, c.loop-one.invariant.more, c.in_ok-variable.ensures.more);
  sound = c.in_ok-variable.ensures.sound;
}

pub returns-clause-ran : goal.returns-clause-ran
returns-clause-ran g c = let t = table_in c.args.codes.now in
    vars_over t (expr_to t c.args.self.now.left) (stmt_to t c.args.self.now.left) (λ nu. here_in nu c.args.here) c.args.all.now c.loop-one.one-index c.loop-one-test.false c.loop-one.invariant.rest
