use Rattle.js_tree.specs.Rows.{stmt_to}
use Rattle.run_host.proofs.Sequence.{always_on, always_out}
use Rattle.run_host.specs.Did.{Runs}
use Rattle.run_host.specs.Told.{here_in, told_exit}
use Rattle.std.proofs.Common.{refl, subst}
use Rattle.tree_rows.specs.Codes.{table_in}
use Rattle.turk_base.specs.Names.{first}
use Rattle.turk_base.specs.Prog.{Done, Then}
use Rattle.turk_base.specs.Values.{Throw}
use Rattle.value_cells.specs.Seen.{val_in}
use Rattle.tree_rows.proofs.below.Below.finishing.Goals as goal

pub returns-in-Throw-clause-ran : goal.returns-in-Throw-clause-ran
returns-in-Throw-clause-ran g c = let t = table_in c.args.codes.now in
    λ p first x. always_on (λ nu o. Then ((stmt_to t c.args.self.now.left) (here_in nu c.args.here) c.args.f.now) (λ _. Done o)) {o = λ nu. Throw (val_in nu c.in-Throw.value)} (subst (λ e. Runs p (λ nu. told_exit nu e) first (g.H.Host.moment c.args.host.now)) c.in-Throw.is x) (c.finished.ensures.ran (λ nu. Throw (val_in nu c.in-Throw.value)) (λ nu. refl))

pub returns-in-Halted-clause-ran : goal.returns-in-Halted-clause-ran
returns-in-Halted-clause-ran g c = let t = table_in c.args.codes.now in
    λ p first x. always_out (λ nu o. Then ((stmt_to t c.args.self.now.left) (here_in nu c.args.here) c.args.f.now) (λ _. Done o)) (λ nu. tt) (subst (λ e. Runs p (λ nu. told_exit nu e) first (g.H.Host.moment c.args.host.now)) c.in-Halted.is x)

pub returns-in-Stopped-clause-ran : goal.returns-in-Stopped-clause-ran
returns-in-Stopped-clause-ran g c = let t = table_in c.args.codes.now in
    λ p first x. always_out (λ nu o. Then ((stmt_to t c.args.self.now.left) (here_in nu c.args.here) c.args.f.now) (λ _. Done o)) (λ nu. tt) (subst (λ e. Runs p (λ nu. told_exit nu e) first (g.H.Host.moment c.args.host.now)) c.in-Stopped.is x)
