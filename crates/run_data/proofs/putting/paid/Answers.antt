use Rattle.turk_base.specs.State.{charge}
use Rattle.turk_base.specs.Steps.{give, pays, step}
use Rattle.value_cells.specs.Seen.{Naming, val_in}
use Rattle.value_cells.specs.Does.{Says}
use Rattle.run_heap.proofs.Turn.{err_exit, works_then, works_give}
use Rattle.run_data.proofs.Puts.{unpaid}
use Rattle.run_data.proofs.putting.paid.Goals as goal

pub returns-in_err-pay-clause-did : goal.returns-in_err-pay-clause-did
returns-in_err-pay-clause-did c =
    let x = c.in_err-pay.field-0.0 in
    err_exit (λ (nu : Naming). pays c.args.units (give (val_in nu c.args.value))) (λ nu. val_in nu) c.from_residual.result x c.args.heap.now c.pay.new.self c.from_residual.ensures.1
    (unpaid c.args.units (λ nu. give (val_in nu c.args.value)) x c.args.heap.now c.pay.new.self c.in_err-pay.ensures.did)

pub returns-clause-did : goal.returns-clause-did
returns-clause-did c =
    works_then (λ (nu : Naming). step (charge c.args.units) give) (λ nu. tt) (λ nu _. give (val_in nu c.args.value)) (λ nu. Says (val_in nu c.args.value)) c.args.heap.now c.pay.new.self c.pay.new.self
    c.in_ok-pay.ensures.did (works_give (λ nu. val_in nu c.args.value) c.pay.new.self)
