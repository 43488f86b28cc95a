use Rattle.js_tree.specs.Rows.{expr_to, stmt_to}
use Rattle.js_tree.specs.Statements.{clauses}
use Rattle.run_host.proofs.Exits.{flow_exit}
use Rattle.run_host.proofs.Sequence.{onward_same, onward_then}
use Rattle.run_host.specs.Told.{here_in, told_flow}
use Rattle.std.proofs.Common.{ap, arith, drop, sym}
use Rattle.tree_rows.proofs.Clauses.{first_and_rest, none_left, others_of, tests_from, tests_meet, tests_miss, tests_on, tests_out, tests_over}
use Rattle.tree_rows.proofs.Lists.{onward_eq}
use Rattle.tree_rows.specs.Codes.{table_in}
use Rattle.value_cells.specs.Seen.{val_in}
use Rattle.tree_rows.proofs.below.Below.clause_for.Goals as goal

pub loop-rest-init : goal.loop-rest-init
loop-rest-init g c = record { rest = onward_same; more = omega arith; sound = c.requires.sound }

pub returns-in-empty-clause-ran : goal.returns-in-empty-clause-ran
returns-in-empty-clause-ran g c = let t = table_in c.args.codes.now in
    (onward_then (tests_over t (expr_to t c.args.self.now.left) (stmt_to t c.args.self.now.left) (λ nu. here_in nu c.args.here) c.args.cases.now (λ nu. val_in nu c.args.value.now) (none_left _ (omega arith)) c.loop-rest.invariant.rest) (onward_eq (λ nu. c.default_from.ensures t (expr_to t c.args.self.now.left) (stmt_to t c.args.self.now.left) (here_in nu c.args.here)))).goes (λ nu. told_flow nu c.clauses.result) (g.H.Host.moment c.clauses.new.host) c.clauses.ensures.ran

pub returns-in_err-met-in-len1-up-clause-ran : goal.returns-in_err-met-in-len1-up-clause-ran
returns-in_err-met-in-len1-up-clause-ran g c = let t = table_in c.args.codes.now in
    flow_exit _ _ c.from_residual.ensures.1 (tests_out t (expr_to t c.args.self.now.left) (stmt_to t c.args.self.now.left) (λ nu. here_in nu c.args.here) c.args.cases.now (λ nu. val_in nu c.args.value.now) _ (first_and_rest _ _ (omega arith) c.case-item.is) c.loop-rest.invariant.rest c.in_err-met-in-len1-up.ensures.did)

pub returns-then-met-clause-ran : goal.returns-then-met-clause-ran
returns-then-met-clause-ran g c = let t = table_in c.args.codes.now in
    (onward_then (tests_meet t (expr_to t c.args.self.now.left) (stmt_to t c.args.self.now.left) (λ nu. here_in nu c.args.here) c.args.cases.now (λ nu. val_in nu c.args.value.now) c.case-item.result (drop 1 c.loop-rest.rest.now) _ c.if-met.true (tests_on t (expr_to t c.args.self.now.left) (stmt_to t c.args.self.now.left) (λ nu. here_in nu c.args.here) c.args.cases.now (λ nu. val_in nu c.args.value.now) _ (first_and_rest _ _ (omega arith) c.case-item.is) c.loop-rest.invariant.rest c.in_ok-met-in-len1-up.ensures.did)) (onward_eq (λ nu. ap (clauses t (expr_to t c.args.self.now.left) (stmt_to t c.args.self.now.left) (here_in nu c.args.here)) (sym (first_and_rest _ _ (omega arith) c.case-item.is))))).goes (λ nu. told_flow nu c.clauses-then-met.result) (g.H.Host.moment c.clauses-then-met.new.host) c.clauses-then-met.ensures.ran

pub loop-rest-preserved : goal.loop-rest-preserved
loop-rest-preserved g c = let t = table_in c.args.codes.now in record {
  rest = onward_then (tests_miss t (expr_to t c.args.self.now.left) (stmt_to t c.args.self.now.left) (λ nu. here_in nu c.args.here) c.args.cases.now (λ nu. val_in nu c.args.value.now) c.case-item.result (drop 1 c.loop-rest.rest.now) _ c.if-met.false (tests_on t (expr_to t c.args.self.now.left) (stmt_to t c.args.self.now.left) (λ nu. here_in nu c.args.here) c.args.cases.now (λ nu. val_in nu c.args.value.now) _ (first_and_rest _ _ (omega arith) c.case-item.is) c.loop-rest.invariant.rest c.in_ok-met-in-len1-up.ensures.did)) (onward_eq (λ nu. ap (λ l. tests_from t (expr_to t c.args.self.now.left) (stmt_to t c.args.self.now.left) (λ nu. here_in nu c.args.here) c.args.cases.now (λ nu. val_in nu c.args.value.now) l nu) (sym (others_of c.loop-rest.rest.now))));
  more = omega (arith, c.loop-rest.invariant.more, c.in_ok-met-in-len1-up.ensures.more);
  sound = c.in_ok-met-in-len1-up.ensures.sound;
}
