use Rattle.std.proofs.Common.{arith, subst, sym, ap, ◌≡◌, ◌≤◌, ◌+◌}
use Rattle.js_tree.specs.Expressions.{each}
use Rattle.js_tree.specs.Rows.{expr_to}
use Rattle.value_cells.specs.Needs.{all_needs}
use Rattle.run_host.specs.Moment.{cells}
use Rattle.run_host.specs.Told.{here_in}
use Rattle.run_host.specs.Steps.{Leads}
use Rattle.run_host.proofs.Exits.{takes_exit}
use Rattle.run_host.proofs.Fits.{out_lost}
use Rattle.tree_rows.specs.Codes.{table_in}
use Rattle.tree_rows.proofs.Each.{each_from, each_after, each_begin, each_goes, each_out, each_over, needs_more}
use Rattle.tree_rows.proofs.below.Below.each.Goals as goal

pub loop-e-init : goal.loop-e-init
loop-e-init g c = let t = table_in c.args.codes.now in record {
  rest = each_begin (expr_to t c.args.self.now.left) (λ nu. here_in nu c.args.here) c.args.es.now _ c.new-values.ensures.items;
  more = omega arith;
  exists = subst (λ vs. all_needs vs ≤ cells (g.H.Host.moment c.args.host.now)) (sym c.new-values.ensures.items) (omega arith);
  sound = c.requires.sound;
}

pub returns-in_err-value-clause-did : goal.returns-in_err-value-clause-did
returns-in_err-value-clause-did g c = let t = table_in c.args.codes.now in
    takes_exit _ _ c.from_residual.ensures.1 (each_out (expr_to t c.args.self.now.left) (λ nu. here_in nu c.args.here) c.args.es.now c.loop-e.e-index _ c.e-item.result _ c.loop-e-test.true c.e-item.is c.loop-e.invariant.rest c.in_err-value.ensures.ran)

pub returns-in_err-push-clause-did : goal.returns-in_err-push-clause-did
returns-in_err-push-clause-did g c = let t = table_in c.args.codes.now in
    takes_exit _ _ c.from_residual-in_err-push.ensures.1 (out_lost (each_goes (expr_to t c.args.self.now.left) (λ nu. here_in nu c.args.here) c.args.es.now c.loop-e.e-index _ c.e-item.result _ c.loop-e-test.true c.e-item.is c.loop-e.invariant.rest c.in_ok-value.ensures.ran))

pub loop-e-preserved : goal.loop-e-preserved
loop-e-preserved g c = let t = table_in c.args.codes.now in record {
  rest = subst (λ vs. Leads (λ nu. each (expr_to t c.args.self.now.left) (here_in nu c.args.here) c.args.es.now) (λ nu go. each_from (expr_to t c.args.self.now.left) (λ nu. here_in nu c.args.here) c.args.es.now (c.loop-e.e-index + 1) vs nu go) (g.H.Host.moment c.args.host.now) (g.H.Host.moment c.expr.new.host)) (sym c.in_ok-push.ensures)
      (each_goes (expr_to t c.args.self.now.left) (λ nu. here_in nu c.args.here) c.args.es.now c.loop-e.e-index _ c.e-item.result _ c.loop-e-test.true c.e-item.is c.loop-e.invariant.rest c.in_ok-value.ensures.ran);
  more = omega (arith, c.loop-e.invariant.more, c.in_ok-value.ensures.more);
  exists = subst (λ vs. all_needs vs ≤ cells (g.H.Host.moment c.expr.new.host)) (sym c.in_ok-push.ensures) (needs_more _ _ _ (omega (arith, c.loop-e.invariant.exists, c.in_ok-value.ensures.more)) c.in_ok-value.ensures.exists);
  sound = c.in_ok-value.ensures.sound;
}

pub returns-clause-did : goal.returns-clause-did
returns-clause-did g c = let t = table_in c.args.codes.now in
    each_over (expr_to t c.args.self.now.left) (λ nu. here_in nu c.args.here) c.args.es.now c.loop-e.e-index _ c.loop-e-test.false c.loop-e.invariant.rest
