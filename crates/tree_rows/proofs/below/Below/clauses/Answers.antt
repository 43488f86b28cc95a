use Rattle.host_steps.proofs.Made.{runs_as}
use Rattle.js_tree.specs.Calls.{list}
use Rattle.js_tree.specs.Rows.{expr_to, stmt_to}
use Rattle.run_host.proofs.Exits.{flow_exit}
use Rattle.run_host.proofs.Sequence.{onward_same}
use Rattle.run_host.specs.Told.{here_in}
use Rattle.std.proofs.Common.{ap, arith, sym}
use Rattle.tree_rows.proofs.Clauses.{clause_ends, clause_next, clause_out, clauses_over}
use Rattle.tree_rows.specs.Codes.{table_in}
use Rattle.tree_rows.proofs.below.Below.clauses.Goals as goal

pub loop-case-init : goal.loop-case-init
loop-case-init g c = record { rest = onward_same; more = omega arith; sound = c.requires.sound }

pub returns-in_err-other-clause-ran : goal.returns-in_err-other-clause-ran
returns-in_err-other-clause-ran g c = let t = table_in c.args.codes.now in
    flow_exit _ _ c.from_residual.ensures.1 (clause_out t (expr_to t c.args.self.now.left) (stmt_to t c.args.self.now.left) (λ nu. here_in nu c.args.here) c.args.cases.now c.loop-case.case-index c.case-item.result _ c.loop-case-test.true c.case-item.is c.loop-case.invariant.rest (runs_as (λ nu. ap (list t (stmt_to t c.args.self.now.left) (here_in nu c.args.here)) (sym c.as_slice.ensures)) c.in_err-other.ensures.ran))

pub returns-in_default-clause-ran : goal.returns-in_default-clause-ran
returns-in_default-clause-ran g c = let t = table_in c.args.codes.now in
    clause_ends t (expr_to t c.args.self.now.left) (stmt_to t c.args.self.now.left) (λ nu. here_in nu c.args.here) c.args.cases.now c.loop-case.case-index c.case-item.result _ c.loop-case-test.true c.case-item.is c.in_default.not-Normal c.loop-case.invariant.rest (runs_as (λ nu. ap (list t (stmt_to t c.args.self.now.left) (here_in nu c.args.here)) (sym c.as_slice.ensures)) c.in_ok-other.ensures.ran)

pub loop-case-preserved : goal.loop-case-preserved
loop-case-preserved g c = let t = table_in c.args.codes.now in record {
  rest = clause_next t (expr_to t c.args.self.now.left) (stmt_to t c.args.self.now.left) (λ nu. here_in nu c.args.here) c.args.cases.now c.loop-case.case-index c.case-item.result _ c.loop-case-test.true c.case-item.is c.in-Normal.is c.loop-case.invariant.rest (runs_as (λ nu. ap (list t (stmt_to t c.args.self.now.left) (here_in nu c.args.here)) (sym c.as_slice.ensures)) c.in_ok-other.ensures.ran);
  more = omega (arith, c.loop-case.invariant.more, c.in_ok-other.ensures.more);
  sound = c.in_ok-other.ensures.sound;
}

pub returns-clause-ran : goal.returns-clause-ran
returns-clause-ran g c = let t = table_in c.args.codes.now in
    clauses_over t (expr_to t c.args.self.now.left) (stmt_to t c.args.self.now.left) (λ nu. here_in nu c.args.here) c.args.cases.now c.loop-case.case-index c.loop-case-test.false c.loop-case.invariant.rest
