use Rattle.js_tree.specs.Expressions.{fields, object_row}
use Rattle.js_tree.specs.Rows.{expr_to}
use Rattle.run_host.proofs.Exits.{value_exit}
use Rattle.run_host.proofs.Fits.{runs_left}
use Rattle.run_host.specs.Told.{here_in}
use Rattle.std.proofs.Common.{arith}
use Rattle.tree_rows.proofs.Items.{fields_next, fields_out, fields_over}
use Rattle.tree_rows.specs.Codes.{table_in}
use Rattle.tree_rows.proofs.below.Below.object.Goals as goal

pub returns-in_err-object-clause-ran : goal.returns-in_err-object-clause-ran
unfolding object_row
returns-in_err-object-clause-ran g c = let t = table_in c.args.codes.now in
    value_exit _ _ c.from_residual.ensures.1 (runs_left (λ nu a. fields (expr_to t c.args.self.now.left) (here_in nu c.args.here) a c.args.all.now) c.in_err-object.ensures.did)

pub loop-one-init : goal.loop-one-init
unfolding object_row
loop-one-init g c = let t = table_in c.args.codes.now in record {
  rest = c.in_ok-object.ensures.did.goes (λ nu a. fields (expr_to t c.args.self.now.left) (here_in nu c.args.here) a c.args.all.now);
  more = c.in_ok-object.ensures.more;
  exists = c.in_ok-object.ensures.exists;
  sound = c.in_ok-object.ensures.sound;
}

pub returns-in_err-field-clause-ran : goal.returns-in_err-field-clause-ran
returns-in_err-field-clause-ran g c = let t = table_in c.args.codes.now in
    value_exit _ _ c.from_residual-in_err-field.ensures.1 (fields_out (expr_to t c.args.self.now.left) (λ nu. here_in nu c.args.here) c.in_ok-object.object c.args.all.now c.loop-one.one-index c.one-item.result _ c.loop-one-test.true c.one-item.is c.loop-one.invariant.rest c.in_err-field.ensures.did)

pub loop-one-preserved : goal.loop-one-preserved
loop-one-preserved g c = let t = table_in c.args.codes.now in record {
  rest = fields_next (expr_to t c.args.self.now.left) (λ nu. here_in nu c.args.here) c.in_ok-object.object c.args.all.now c.loop-one.one-index c.one-item.result c.loop-one-test.true c.one-item.is c.loop-one.invariant.rest c.in_ok-field.ensures.did;
  more = omega (arith, c.loop-one.invariant.more, c.in_ok-field.ensures.more);
  exists = omega (arith, c.loop-one.invariant.exists, c.in_ok-field.ensures.more);
  sound = c.in_ok-field.ensures.sound;
}

pub returns-clause-ran : goal.returns-clause-ran
returns-clause-ran g c = let t = table_in c.args.codes.now in
    fields_over (expr_to t c.args.self.now.left) (λ nu. here_in nu c.args.here) c.in_ok-object.object c.args.all.now c.loop-one.one-index c.loop-one-test.false c.loop-one.invariant.rest
