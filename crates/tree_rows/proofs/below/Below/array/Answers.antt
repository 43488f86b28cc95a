use Rattle.js_tree.specs.Expressions.{array_row, items}
use Rattle.js_tree.specs.Rows.{expr_to}
use Rattle.run_host.proofs.Exits.{value_exit}
use Rattle.run_host.proofs.Fits.{runs_left}
use Rattle.run_host.specs.Told.{here_in}
use Rattle.std.proofs.Common.{arith, refl}
use Rattle.tree_rows.proofs.Items.{items_next, items_out, items_over}
use Rattle.tree_rows.specs.Codes.{table_in}
use Rattle.tree_rows.proofs.below.Below.array.Goals as goal

pub returns-in_err-array-clause-ran : goal.returns-in_err-array-clause-ran
unfolding array_row
returns-in_err-array-clause-ran g c = let t = table_in c.args.codes.now in
    value_exit _ _ c.from_residual.ensures.1 (runs_left (λ nu a. items (expr_to t c.args.self.now.left) (here_in nu c.args.here) a 0 c.args.es.now) c.in_err-array.ensures.did)

pub loop-e-init : goal.loop-e-init
unfolding array_row
loop-e-init g c = let t = table_in c.args.codes.now in record {
  rest = c.in_ok-array.ensures.did.goes (λ nu a. items (expr_to t c.args.self.now.left) (here_in nu c.args.here) a 0 c.args.es.now);
  count = refl;
  more = c.in_ok-array.ensures.more;
  exists = c.in_ok-array.ensures.exists;
  sound = c.in_ok-array.ensures.sound;
}

pub returns-in_err-item-clause-ran : goal.returns-in_err-item-clause-ran
returns-in_err-item-clause-ran g c = let t = table_in c.args.codes.now in
    value_exit _ _ c.from_residual-in_err-item.ensures.1 (items_out (expr_to t c.args.self.now.left) (λ nu. here_in nu c.args.here) c.in_ok-array.array c.args.es.now c.loop-e.e-index c.loop-e.index c.e-item.result _ c.loop-e.invariant.count c.loop-e-test.true c.e-item.is c.loop-e.invariant.rest c.in_err-item.ensures.did)

pub loop-e-preserved : goal.loop-e-preserved
loop-e-preserved g c = let t = table_in c.args.codes.now in record {
  rest = items_next (expr_to t c.args.self.now.left) (λ nu. here_in nu c.args.here) c.in_ok-array.array c.args.es.now c.loop-e.e-index c.loop-e.index c.e-item.result c.loop-e.invariant.count c.loop-e-test.true c.e-item.is c.loop-e.invariant.rest c.in_ok-item.ensures.did;
  count = omega (arith, c.loop-e.invariant.count);
  more = omega (arith, c.loop-e.invariant.more, c.in_ok-item.ensures.more);
  exists = omega (arith, c.loop-e.invariant.exists, c.in_ok-item.ensures.more);
  sound = c.in_ok-item.ensures.sound;
}

pub returns-clause-ran : goal.returns-clause-ran
returns-clause-ran g c = let t = table_in c.args.codes.now in
    items_over (expr_to t c.args.self.now.left) (λ nu. here_in nu c.args.here) c.in_ok-array.array c.args.es.now c.loop-e.e-index c.loop-e-test.false c.loop-e.invariant.rest
