use Rattle.host_steps.proofs.Made.{runs_as}
use Rattle.run_host.proofs.Exits.{flow_exit, value_exit}
use Rattle.run_host.proofs.Fits.{runs_left, runs_on}
use Rattle.run_host.proofs.Sequence.{refused}
use Rattle.run_host.specs.Did.{Runs}
use Rattle.run_host.specs.Told.{here_in, told_exit, told_flow, told_value}
use Rattle.std.proofs.Common.{arith, subst, sym, ◌-◌, ◌<◌}
use Rattle.js_tree.specs.Rows.{expr_row, expr_to, stmt_row, stmt_to}
use Rattle.js_tree.specs.Trees.{expr_level, stmt_level}
use Rattle.tree_eval.proofs.Open.{expr_open, expr_pays, flow_paid, level_back, flowed, stmt_open, stmt_pays, value_paid, valued}
use Rattle.tree_rows.specs.Codes.{table_in}
use Rattle.run_host.specs.declared.Exit.TheVariants as exit
use Rattle.run_host.specs.declared.Halt.TheVariants as halt
use Rattle.run_host.specs.declared.Refusal.TheVariants as refusal
use Rattle.tree_eval.proofs.+eval.Goals as goal

pub expr-returns-in_err-pay-clause-ran : goal.expr-returns-in_err-pay-clause-ran
expr-returns-in_err-pay-clause-ran g t c = let table = table_in c.args.codes.now in
    value_exit _ _ c.from_residual.ensures.1 (runs_as (λ nu. expr_pays table c.args.left (here_in nu c.args.here) c.args.e.now) (runs_left (λ nu _. expr_open table c.args.left (here_in nu c.args.here) c.args.e.now) c.in_err-pay.ensures.did))

pub expr-returns-then-left-eq0-clause-ran : goal.expr-returns-then-left-eq0-clause-ran
expr-returns-then-left-eq0-clause-ran g t c = let table = table_in c.args.codes.now in
    runs_as (λ nu. expr_pays table c.args.left (here_in nu c.args.here) c.args.e.now) (runs_on (λ nu _. expr_open table c.args.left (here_in nu c.args.here) c.args.e.now) c.in_ok-pay.ensures.did (subst (λ n. Runs (λ nu. expr_open table n (here_in nu c.args.here) c.args.e.now) (λ nu. told_exit nu (exit.Halted (halt.Refused refusal.TooDeep))) (g.H.Host.moment c.pay.new.self) (g.H.Host.moment c.pay.new.self)) (sym c.if-left-eq0.true) (refused refusal.TooDeep)))

pub expr-returns-clause-ran : goal.expr-returns-clause-ran
expr-returns-clause-ran g t c = let table = table_in c.args.codes.now in
    runs_as (λ nu. expr_pays table c.args.left (here_in nu c.args.here) c.args.e.now) (runs_on (λ nu _. expr_open table c.args.left (here_in nu c.args.here) c.args.e.now) c.in_ok-pay.ensures.did (subst (λ n. Runs (λ nu. expr_open table n (here_in nu c.args.here) c.args.e.now) (λ nu. told_value nu c.expr_node.result) (g.H.Host.moment c.pay.new.self) (g.H.Host.moment c.expr_node.new.host)) (level_back c.args.left c.if-left-eq0.false) c.expr_node.ensures.ran))

pub expr-returns-clause-paid : goal.expr-returns-clause-paid
expr-returns-clause-paid g t c = let table = table_in c.args.codes.now in
    value_paid {g = λ nu. expr_row (table_in c.args.codes.now) (expr_to (table_in c.args.codes.now) (c.args.left - 1)) (stmt_to (table_in c.args.codes.now) (c.args.left - 1)) (here_in nu c.args.here) (expr_level c.args.e.now)} (g.H.Host.moment c.args.host.now) c.expr_node.result c.expr_node.ensures.ran (omega (arith, c.in_ok-pay.ensures.spent))

pub stmt-returns-in_err-pay-clause-ran : goal.stmt-returns-in_err-pay-clause-ran
stmt-returns-in_err-pay-clause-ran g t c = let table = table_in c.args.codes.now in
    flow_exit _ _ c.from_residual.ensures.1 (runs_as (λ nu. stmt_pays table c.args.left (here_in nu c.args.here) c.args.s.now) (runs_left (λ nu _. stmt_open table c.args.left (here_in nu c.args.here) c.args.s.now) c.in_err-pay.ensures.did))

pub stmt-returns-then-left-eq0-clause-ran : goal.stmt-returns-then-left-eq0-clause-ran
stmt-returns-then-left-eq0-clause-ran g t c = let table = table_in c.args.codes.now in
    runs_as (λ nu. stmt_pays table c.args.left (here_in nu c.args.here) c.args.s.now) (runs_on (λ nu _. stmt_open table c.args.left (here_in nu c.args.here) c.args.s.now) c.in_ok-pay.ensures.did (subst (λ n. Runs (λ nu. stmt_open table n (here_in nu c.args.here) c.args.s.now) (λ nu. told_exit nu (exit.Halted (halt.Refused refusal.TooDeep))) (g.H.Host.moment c.pay.new.self) (g.H.Host.moment c.pay.new.self)) (sym c.if-left-eq0.true) (refused refusal.TooDeep)))

pub stmt-returns-clause-ran : goal.stmt-returns-clause-ran
stmt-returns-clause-ran g t c = let table = table_in c.args.codes.now in
    runs_as (λ nu. stmt_pays table c.args.left (here_in nu c.args.here) c.args.s.now) (runs_on (λ nu _. stmt_open table c.args.left (here_in nu c.args.here) c.args.s.now) c.in_ok-pay.ensures.did (subst (λ n. Runs (λ nu. stmt_open table n (here_in nu c.args.here) c.args.s.now) (λ nu. told_flow nu c.stmt_node.result) (g.H.Host.moment c.pay.new.self) (g.H.Host.moment c.stmt_node.new.host)) (level_back c.args.left c.if-left-eq0.false) c.stmt_node.ensures.ran))

pub stmt-returns-clause-paid : goal.stmt-returns-clause-paid
stmt-returns-clause-paid g t c = let table = table_in c.args.codes.now in
    flow_paid {g = λ nu. stmt_row (table_in c.args.codes.now) (expr_to (table_in c.args.codes.now) (c.args.left - 1)) (stmt_to (table_in c.args.codes.now) (c.args.left - 1)) (here_in nu c.args.here) (stmt_level c.args.s.now)} (g.H.Host.moment c.args.host.now) c.stmt_node.result c.stmt_node.ensures.ran (omega (arith, c.in_ok-pay.ensures.spent))

pub expr-expr_node-requires-clause-below : goal.expr-expr_node-requires-clause-below
expr-expr_node-requires-clause-below g t c = let all = table_in c.args.codes.now in let less : c.args.left - 1 < t = omega (arith, c.decreases, c.if-left-eq0.false) in record {
  callable = λ a k h here e same sound there. (less, (λ l m. m, (sound, there)));
  runs = λ a k h i here e r same sound there done. let d = done.2 in valued all (table_in k.now) same (c.args.left - 1) here (g.H.Host.moment h.now) (g.H.Host.moment i.now) e.now r d.0 d.1.0 d.1.1.0 d.1.1.1.0 d.1.1.1.1.0;
  stays = λ a k h i here e r same sound there done. done.2.1.1.1.1.1;
  callable' = λ a k h here s same sound there. (less, (λ l m. m, (sound, there)));
  runs' = λ a k h i here s r same sound there done. let d = done.2 in flowed all (table_in k.now) same (c.args.left - 1) here (g.H.Host.moment h.now) (g.H.Host.moment i.now) s.now r d.0 d.1.0 d.1.1.0 d.1.1.1.0 d.1.1.1.1.0;
  stays' = λ a k h i here s r same sound there done. done.2.1.1.1.1.1;
}

pub stmt-stmt_node-requires-clause-below : goal.stmt-stmt_node-requires-clause-below
stmt-stmt_node-requires-clause-below g t c = let all = table_in c.args.codes.now in let less : c.args.left - 1 < t = omega (arith, c.decreases, c.if-left-eq0.false) in record {
  callable = λ a k h here e same sound there. (less, (λ l m. m, (sound, there)));
  runs = λ a k h i here e r same sound there done. let d = done.2 in valued all (table_in k.now) same (c.args.left - 1) here (g.H.Host.moment h.now) (g.H.Host.moment i.now) e.now r d.0 d.1.0 d.1.1.0 d.1.1.1.0 d.1.1.1.1.0;
  stays = λ a k h i here e r same sound there done. done.2.1.1.1.1.1;
  callable' = λ a k h here s same sound there. (less, (λ l m. m, (sound, there)));
  runs' = λ a k h i here s r same sound there done. let d = done.2 in flowed all (table_in k.now) same (c.args.left - 1) here (g.H.Host.moment h.now) (g.H.Host.moment i.now) s.now r d.0 d.1.0 d.1.1.0 d.1.1.1.0 d.1.1.1.1.0;
  stays' = λ a k h i here s r same sound there done. done.2.1.1.1.1.1;
}
