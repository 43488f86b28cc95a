use Rattle.host_steps.specs.Places.{place_in}
use Rattle.js_tree.specs.Pieces.{set_place, set_variable}
use Rattle.js_tree.specs.Rows.{expr_to, stmt_to}
use Rattle.js_tree.specs.Statements.{assigned}
use Rattle.js_tree.specs.declared.ExprNode.TheOpen.{ForTarget-F}
use Rattle.js_tree.specs.declared.ForTarget.{out-ForTarget, out-roll-ForTarget}
use Rattle.run_host.proofs.Exits.{takes_exit}
use Rattle.run_host.proofs.Fits.{leads_eq, leaves_lost, takes_as}
use Rattle.run_host.proofs.Sequence.{gives_on, leads_out, leads_then, leaves_on}
use Rattle.run_host.specs.Told.{here_in}
use Rattle.std.proofs.Common.{ap, sym, ◌∙◌}
use Rattle.tree_rows.specs.Codes.{table_in}
use Rattle.turk_base.specs.Values.{Text}
use Rattle.js_tree.specs.declared.ForTarget.TheVariants as target
use Rattle.tree_rows.proofs.below.Below.assigned.Goals as goal

pub returns-in_err-copy-clause-did : goal.returns-in_err-copy-clause-did
returns-in_err-copy-clause-did g c = let t = table_in c.args.codes.now in
    takes_exit _ _ c.from_residual.ensures.1 leaves_lost

pub returns-in_err-place-in-TargetEach-clause-did : goal.returns-in_err-place-in-TargetEach-clause-did
returns-in_err-place-in-TargetEach-clause-did g c = let t = table_in c.args.codes.now in
    takes_exit _ _ c.from_residual-in_err-place-in-TargetEach.ensures.1 (leads_out (leads_eq (λ nu go. ap (λ x. assigned t (expr_to t c.args.self.now.left) (stmt_to t c.args.self.now.left) (here_in nu c.args.here) x c.args.key.now go) (ap out-ForTarget (c.in-TargetEach.is ∙ sym (target.rolls-TargetEach c.in-TargetEach.e)) ∙ out-roll-ForTarget (ForTarget-F.TargetEach c.in-TargetEach.e)))) (leaves_on c.in_err-place-in-TargetEach.ensures.did (λ nu p go. set_place (here_in nu c.args.here) p (Text c.args.key.now) (λ _. go tt))))

pub returns-in-TargetEach-clause-did : goal.returns-in-TargetEach-clause-did
returns-in-TargetEach-clause-did g c = let t = table_in c.args.codes.now in
    takes_as _ (λ nu u. u) c.set_place.result (leads_then (leads_eq (λ nu go. ap (λ x. assigned t (expr_to t c.args.self.now.left) (stmt_to t c.args.self.now.left) (here_in nu c.args.here) x c.args.key.now go) (ap out-ForTarget (c.in-TargetEach.is ∙ sym (target.rolls-TargetEach c.in-TargetEach.e)) ∙ out-roll-ForTarget (ForTarget-F.TargetEach c.in-TargetEach.e)))) (leads_then (gives_on c.in_ok-place-in-TargetEach.ensures.did (λ nu p go. set_place (here_in nu c.args.here) p (Text c.args.key.now) (λ _. go tt))) (leads_eq (λ nu go. ap (λ k. set_place (here_in nu c.args.here) (place_in nu c.in_ok-place-in-TargetEach.place) (Text k) go) (sym c.in_ok-copy.ensures))))) c.set_place.ensures.did

pub returns-clause-did : goal.returns-clause-did
returns-clause-did g c = let t = table_in c.args.codes.now in
    takes_as _ (λ nu u. u) c.set_variable.result (leads_then (leads_eq (λ nu go. ap (λ x. assigned t (expr_to t c.args.self.now.left) (stmt_to t c.args.self.now.left) (here_in nu c.args.here) x c.args.key.now go) (ap out-ForTarget (c.in-VarEach.is ∙ sym (target.rolls-VarEach c.in-VarEach.x)) ∙ out-roll-ForTarget (ForTarget-F.VarEach c.in-VarEach.x)))) (leads_eq (λ nu go. ap (λ k. set_variable (here_in nu c.args.here) c.in-VarEach.x (Text k) go) (sym c.in_ok-copy.ensures)))) c.set_variable.ensures.did
