use Rattle.js_tree.specs.Rows.{expr_to, stmt_to}
use Rattle.run_host.specs.Did.{Runs}
use Rattle.run_host.specs.Told.{here_in, told_flow}
use Rattle.std.proofs.Common.{subst}
use Rattle.tree_rows.proofs.Catches.{catch_passes}
use Rattle.tree_rows.specs.Codes.{table_in}
use Rattle.tree_rows.proofs.below.Below.attempt.Goals as goal

pub returns-in_default-clause-ran : goal.returns-in_default-clause-ran
returns-in_default-clause-ran g c = let t = table_in c.args.codes.now in
    rw c.in_default.is c.stmt.ensures.ran

pub returns-in-Ok-clause-ran : goal.returns-in-Ok-clause-ran
returns-in-Ok-clause-ran g c = let t = table_in c.args.codes.now in
    rw c.in-Some.is (catch_passes t (expr_to t c.args.self.now.left) (stmt_to t c.args.self.now.left) (λ nu. here_in nu c.args.here) c.in-Some.c.now c.in-Ok.flow (subst (λ r. Runs (λ nu. (stmt_to t c.args.self.now.left) (here_in nu c.args.here) c.args.s.now) (λ nu. told_flow nu r) (g.H.Host.moment c.args.host.now) (g.H.Host.moment c.stmt-2.new.host)) c.in-Ok.is c.stmt-2.ensures.ran))

pub returns-in-Err-clause-ran : goal.returns-in-Err-clause-ran
returns-in-Err-clause-ran g c = let t = table_in c.args.codes.now in
    rw c.in-Some.is (c.catching.ensures.ran (λ nu. (stmt_to t c.args.self.now.left) (here_in nu c.args.here) c.args.s.now) (g.H.Host.moment c.args.host.now) (subst (λ r. Runs (λ nu. (stmt_to t c.args.self.now.left) (here_in nu c.args.here) c.args.s.now) (λ nu. told_flow nu r) (g.H.Host.moment c.args.host.now) (g.H.Host.moment c.stmt-2.new.host)) c.in-Err.is c.stmt-2.ensures.ran))
