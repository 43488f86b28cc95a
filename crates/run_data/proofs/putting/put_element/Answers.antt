use Rattle.std.proofs.Common.{false, subst, ◌<◌, arith}
use Rattle.turk_base.specs.Cells.{put}
use Rattle.turk_base.specs.State.{change}
use Rattle.turk_base.specs.Steps.{give, step, element}
use Rattle.value_cells.specs.Seen.{val_in}
use Rattle.value_cells.specs.Does.{Says, told, told_stop}
use Rattle.run_heap.specs.Core.{count}
use Rattle.run_heap.specs.Works.{Works}
use Rattle.run_heap.proofs.Turn.{err_exit}
use Rattle.run_heap.proofs.Free.{grow_free}
use Rattle.run_data.proofs.Puts.{element_ends, element_out}
use Rattle.run_data.proofs.putting.put_element.Goals as goal

pub returns-in_err-set_free-clause-did : goal.returns-in_err-set_free-clause-did
returns-in_err-set_free-clause-did c =
    let x = c.in_err-set_free.field-0.0 in
    err_exit (λ nu. element false (nu c.args.cell) c.args.index (val_in nu c.args.value) (give (tt {0}))) (λ nu u. u) c.from_residual-in_err-set_free.result x c.args.heap.now c.set_free.new.self c.from_residual-in_err-set_free.ensures.1
    (element_out c.args.cell c.args.index c.args.value x c.args.heap.now c.set_free.new.self
    (subst (λ k. Works (λ nu. step (change false (nu c.args.cell) (put k (val_in nu c.args.value))) give) (λ nu. told_stop x) c.args.heap.now c.set_free.new.self) c.in_ok-key.ensures c.in_err-set_free.ensures.did))

pub returns-clause-did : goal.returns-clause-did
returns-clause-did c =
    let here : c.args.cell < count c.set_free.new.self = omega (arith, c.requires.cell, c.set_free.ensures.count) in
    element_ends c.args.cell c.args.index c.args.value c.grow.result c.args.heap.now c.set_free.new.self c.grow.new.self
    (subst (λ k. Works (λ nu. step (change false (nu c.args.cell) (put k (val_in nu c.args.value))) give) (λ nu. Says tt) c.args.heap.now c.set_free.new.self) c.in_ok-key.ensures c.in_ok-set_free.ensures.did)
    (grow_free c.args.cell c.set_free.new.self c.known.ensures.cells here c.args.index (λ nu. told (λ u. u) c.grow.result) c.grow.new.self c.grow.ensures.did)
