use Rattle.turk_base.specs.Prog.{Then}
use Rattle.js_tree.specs.Expressions.{binary_row}
use Rattle.js_tree.specs.Operate.{operate_values}
use Rattle.js_tree.specs.Rows.{expr_to}
use Rattle.value_cells.specs.Seen.{val_in}
use Rattle.run_host.specs.Told.{here_in}
use Rattle.run_host.proofs.Sequence.{then_on}
use Rattle.run_host.proofs.Exits.{value_exit, first_out}
use Rattle.tree_rows.specs.Codes.{table_in}
use Rattle.operator_rows.proofs.operations.binary.Goals as goal

pub returns-in_err-x-clause-ran : goal.returns-in_err-x-clause-ran
unfolding binary_row
returns-in_err-x-clause-ran g c = let e = expr_to (table_in c.args.codes.now) c.args.below.now.left in
    value_exit _ _ c.from_residual.ensures.1 (first_out (λ nu x. Then (e (here_in nu c.args.here) c.args.b.now) (λ y. operate_values c.args.operator x y)) _ c.in_err-x.ensures.ran)

pub returns-in_err-y-clause-ran : goal.returns-in_err-y-clause-ran
unfolding binary_row
returns-in_err-y-clause-ran g c = let e = expr_to (table_in c.args.codes.now) c.args.below.now.left in
    value_exit _ _ c.from_residual-in_err-y.ensures.1 (then_on (λ nu x. Then (e (here_in nu c.args.here) c.args.b.now) (λ y. operate_values c.args.operator x y)) c.in_ok-x.ensures.ran
    (first_out (λ nu y. operate_values c.args.operator (val_in nu c.in_ok-x.x) y) _ c.in_err-y.ensures.ran))

pub returns-clause-ran : goal.returns-clause-ran
unfolding binary_row
returns-clause-ran g c = let e = expr_to (table_in c.args.codes.now) c.args.below.now.left in
    then_on (λ nu x. Then (e (here_in nu c.args.here) c.args.b.now) (λ y. operate_values c.args.operator x y)) c.in_ok-x.ensures.ran
    (then_on (λ nu y. operate_values c.args.operator (val_in nu c.in_ok-x.x) y) c.in_ok-y.ensures.ran c.operate_values.ensures.ran)
