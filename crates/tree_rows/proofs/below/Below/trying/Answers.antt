use Rattle.js_tree.specs.Rows.{expr_to, stmt_to}
use Rattle.js_tree.specs.Statements.{catching, try_row}
use Rattle.run_host.proofs.Sequence.{always_on}
use Rattle.run_host.specs.Did.{Runs}
use Rattle.run_host.specs.Told.{flow_in, here_in, told_flow}
use Rattle.std.proofs.Common.{refl, subst}
use Rattle.std.specs.Option.{option_copied}
use Rattle.tree_rows.specs.Codes.{table_in}
use Rattle.turk_base.specs.Prog.{Done, Then}
use Rattle.tree_rows.proofs.below.Below.trying.Goals as goal

pub returns-in_default-clause-ran : goal.returns-in_default-clause-ran
unfolding try_row
returns-in_default-clause-ran g c = let t = table_in c.args.codes.now in
    rw c.in_default.is c.attempt-ended.ensures.ran

pub returns-in-Ok-clause-ran : goal.returns-in-Ok-clause-ran
unfolding try_row
returns-in-Ok-clause-ran g c = let t = table_in c.args.codes.now in
    rw c.in-Some.is (always_on (λ nu o. Then ((stmt_to t c.args.self.now.left) (here_in nu c.args.here) c.in-Some.f.now) (λ _. Done o)) {o = λ nu. flow_in nu c.in-Ok.flow} (subst (λ r. Runs (λ nu. catching t (expr_to t c.args.self.now.left) (stmt_to t c.args.self.now.left) (here_in nu c.args.here) ((stmt_to t c.args.self.now.left) (here_in nu c.args.here) c.args.s.now) (option_copied c.args.c)) (λ nu. told_flow nu r) (g.H.Host.moment c.args.host.now) (g.H.Host.moment c.attempt-ended.new.host)) c.in-Ok.is c.attempt-ended.ensures.ran) (c.finished.ensures.ran (λ nu. flow_in nu c.in-Ok.flow) (λ nu. refl)))

pub returns-in-Err-clause-ran : goal.returns-in-Err-clause-ran
unfolding try_row
returns-in-Err-clause-ran g c = let t = table_in c.args.codes.now in
    rw c.in-Some.is (c.finishing.ensures.ran (λ nu. catching t (expr_to t c.args.self.now.left) (stmt_to t c.args.self.now.left) (here_in nu c.args.here) ((stmt_to t c.args.self.now.left) (here_in nu c.args.here) c.args.s.now) (option_copied c.args.c)) (g.H.Host.moment c.args.host.now) (subst (λ r. Runs (λ nu. catching t (expr_to t c.args.self.now.left) (stmt_to t c.args.self.now.left) (here_in nu c.args.here) ((stmt_to t c.args.self.now.left) (here_in nu c.args.here) c.args.s.now) (option_copied c.args.c)) (λ nu. told_flow nu r) (g.H.Host.moment c.args.host.now) (g.H.Host.moment c.attempt-ended.new.host)) c.in-Err.is c.attempt-ended.ensures.ran))
