use Rattle.std.proofs.Common.{sym, subst}
use Rattle.turk_base.specs.Data.{Data}
use Rattle.turk_base.specs.Node.{data_of}
use Rattle.turk_base.specs.Steps.{give, pays}
use Rattle.value_cells.specs.Seen.{Naming}
use Rattle.value_cells.specs.Does.{Says}
use Rattle.run_heap.specs.Works.{Works}
use Rattle.run_heap.proofs.Turn.{works_give}
use Rattle.run_data.proofs.Takes.{taken_err, paid_then, paid_out}
use Rattle.run_data.proofs.taking.taken.Goals as goal

pub returns-in_err-pay-clause-did : goal.returns-in_err-pay-clause-did
returns-in_err-pay-clause-did c =
    let x = c.in_err-pay.field-0.0 in
    taken_err (λ nu. pays c.args.units (give (data_of c.args.node))) (λ d. d) c.from_residual.result x c.args.heap.now c.pay.new.self c.from_residual.ensures.1
    (paid_out c.args.units (λ nu. give (data_of c.args.node)) x c.args.heap.now c.pay.new.self c.in_err-pay.ensures.did)

pub returns-clause-did : goal.returns-clause-did
returns-clause-did c =
    subst (λ (d : Data). Works (λ (nu : Naming). pays c.args.units (give (data_of c.args.node))) (λ nu. Says d) c.args.heap.now c.pay.new.self) (sym c.make.ensures)
    (paid_then c.args.units (λ nu. give (data_of c.args.node)) (λ nu. Says (data_of c.args.node)) c.args.heap.now c.pay.new.self c.pay.new.self c.in_ok-pay.ensures.did (works_give (λ nu. data_of c.args.node) c.pay.new.self))
