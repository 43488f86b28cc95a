use Rattle.std.proofs.Common.{true, subst}
use Rattle.turk_base.specs.Cells.{put}
use Rattle.turk_base.specs.State.{change}
use Rattle.turk_base.specs.Steps.{give, step, element}
use Rattle.value_cells.specs.Seen.{val_in}
use Rattle.value_cells.specs.Does.{Says, told_stop}
use Rattle.run_heap.specs.Works.{Works}
use Rattle.run_heap.proofs.Turn.{err_exit}
use Rattle.run_data.proofs.Puts.{paid_ends, paid_out}
use Rattle.run_data.proofs.filling.put_paid.Goals as goal

pub returns-in_err-set-clause-did : goal.returns-in_err-set-clause-did
returns-in_err-set-clause-did c =
    let x = c.in_err-set.field-0.0 in
    err_exit (λ nu. element true (nu c.args.cell) c.args.index (val_in nu c.args.value) (give (tt {0}))) (λ nu u. u) c.from_residual-in_err-set.result x c.args.heap.now c.set.new.self c.from_residual-in_err-set.ensures.1
    (paid_out c.args.cell c.args.index c.args.value x c.args.heap.now c.set.new.self
    (subst (λ k. Works (λ nu. step (change true (nu c.args.cell) (put k (val_in nu c.args.value))) give) (λ nu. told_stop x) c.args.heap.now c.set.new.self) c.in_ok-key.ensures c.in_err-set.ensures.did))

pub returns-clause-did : goal.returns-clause-did
returns-clause-did c =
    paid_ends c.args.cell c.args.index c.args.value c.grow.result c.args.heap.now c.set.new.self c.grow.new.self
    (subst (λ k. Works (λ nu. step (change true (nu c.args.cell) (put k (val_in nu c.args.value))) give) (λ nu. Says tt) c.args.heap.now c.set.new.self) c.in_ok-key.ensures c.in_ok-set.ensures.did)
    c.grow.ensures.did
