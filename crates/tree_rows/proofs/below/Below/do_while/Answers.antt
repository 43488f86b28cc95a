use Rattle.std.proofs.Common.{arith}
use Rattle.js_tree.specs.Statements.{do_while_row}
use Rattle.js_tree.specs.Rows.{expr_to, stmt_to}
use Rattle.run_host.proofs.Loops.{rounds_same}
use Rattle.tree_rows.specs.Codes.{table_in}
use Rattle.run_host.proofs.Exits.{flow_exit}
use Rattle.tree_rows.proofs.Turns.{loop_exit, loop_breaks, loop_leaves, loop_goes}
use Rattle.tree_rows.proofs.below.Below.do_while.Goals as goal

pub loop-other-init : goal.loop-other-init
loop-other-init g c = record { rest = rounds_same; more = omega arith; sound = c.requires.sound }

pub returns-in_err-other-clause-ran : goal.returns-in_err-other-clause-ran
unfolding do_while_row
returns-in_err-other-clause-ran g c =
    let t = table_in c.args.codes.now in
    flow_exit _ _ c.from_residual.ensures.1 (loop_exit t (expr_to t c.args.self.now.left) (stmt_to t c.args.self.now.left) _ _ c.loop-other.invariant.rest c.in_err-other.ensures.ran)

pub returns-in-Break-clause-ran : goal.returns-in-Break-clause-ran
unfolding do_while_row
returns-in-Break-clause-ran g c =
    let t = table_in c.args.codes.now in
    loop_breaks t (expr_to t c.args.self.now.left) (stmt_to t c.args.self.now.left) _ c.in_ok-other.other c.in-Break.is c.loop-other.invariant.rest c.in_ok-other.ensures.ran

pub returns-in_default-clause-ran : goal.returns-in_default-clause-ran
unfolding do_while_row
returns-in_default-clause-ran g c =
    let t = table_in c.args.codes.now in
    loop_leaves t (expr_to t c.args.self.now.left) (stmt_to t c.args.self.now.left) _ c.in_ok-other.other c.in_default.not-Normal c.in_default.not-Break c.loop-other.invariant.rest c.in_ok-other.ensures.ran

pub loop-other-preserved : goal.loop-other-preserved
loop-other-preserved g c =
    let t = table_in c.args.codes.now in
    record {
      rest = loop_goes t (expr_to t c.args.self.now.left) (stmt_to t c.args.self.now.left) _ c.in_ok-other.other c.in-Normal.is c.loop-other.invariant.rest c.in_ok-other.ensures.ran c.in_ok-other.ensures.paid;
      more = omega (arith, c.loop-other.invariant.more, c.in_ok-other.ensures.more);
      sound = c.in_ok-other.ensures.sound;
    }
