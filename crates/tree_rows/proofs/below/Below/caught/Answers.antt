use Rattle.host_steps.proofs.Made.{runs_as}
use Rattle.js_tree.specs.Rows.{stmt_to}
use Rattle.js_tree.specs.declared.Catch.{out-Catch}
use Rattle.run_host.proofs.Exits.{flow_exit}
use Rattle.run_host.proofs.Fits.{runs_left, runs_on}
use Rattle.run_host.specs.Did.{Runs}
use Rattle.run_host.specs.Told.{here_in, told_flow}
use Rattle.std.proofs.Common.{ap, subst, sym}
use Rattle.tree_rows.specs.Codes.{table_in}
use Rattle.turk_base.specs.Prog.{Declare, ask}
use Rattle.value_cells.specs.Seen.{val_in}
use Rattle.tree_rows.proofs.below.Below.caught.Goals as goal

pub returns-in_err-frame-clause-ran : goal.returns-in_err-frame-clause-ran
returns-in_err-frame-clause-ran g c =
    let t = table_in c.args.codes.now in
    flow_exit _ _ c.from_residual.ensures.1 (runs_left (λ nu f. ask (Declare f (out-Catch c.args.c.now).name (val_in nu c.args.value)) (λ _. stmt_to t c.args.self.now.left (record (here_in nu c.args.here) { frame = f }) (out-Catch c.args.c.now).body)) c.in_err-frame.ensures.did)

pub returns-in_err-declare-clause-ran : goal.returns-in_err-declare-clause-ran
returns-in_err-declare-clause-ran g c =
    let t = table_in c.args.codes.now in
    flow_exit _ _ c.from_residual-in_err-declare.ensures.1
    (runs_on (λ nu f. ask (Declare f (out-Catch c.args.c.now).name (val_in nu c.args.value)) (λ _. stmt_to t c.args.self.now.left (record (here_in nu c.args.here) { frame = f }) (out-Catch c.args.c.now).body)) c.in_ok-frame.ensures.did
    (runs_left (λ nu _. stmt_to t c.args.self.now.left (record (here_in nu c.args.here) { frame = nu c.in_ok-frame.frame }) (out-Catch c.args.c.now).body) c.in_err-declare.ensures.did))

pub returns-clause-ran : goal.returns-clause-ran
returns-clause-ran g c =
    let t = table_in c.args.codes.now in
    runs_on (λ nu f. ask (Declare f (out-Catch c.args.c.now).name (val_in nu c.args.value)) (λ _. stmt_to t c.args.self.now.left (record (here_in nu c.args.here) { frame = f }) (out-Catch c.args.c.now).body)) c.in_ok-frame.ensures.did
    (runs_on (λ nu _. stmt_to t c.args.self.now.left (record (here_in nu c.args.here) { frame = nu c.in_ok-frame.frame }) (out-Catch c.args.c.now).body) c.in_ok-declare.ensures.did
    (runs_as (λ nu. ap (stmt_to t c.args.self.now.left (record (here_in nu c.args.here) { frame = nu c.in_ok-frame.frame })) (sym c.get.ensures)) (subst (λ h. Runs (λ nu. stmt_to t c.args.self.now.left (here_in nu h) c.get.result.now) (λ nu. told_flow nu c.stmt.result) (g.H.Host.moment c.declare.new.self) (g.H.Host.moment c.stmt.new.host)) c.within.ensures c.stmt.ensures.ran)))
