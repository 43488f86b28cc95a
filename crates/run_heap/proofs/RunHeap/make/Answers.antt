use Rattle.std.proofs.Common.{false, subst, sym}
use Rattle.turk_base.specs.State.{make as make_cell}
use Rattle.turk_base.specs.Steps.{give, step, steps_of}
use Rattle.turk_base.specs.Prog.{Make}
use Rattle.value_cells.specs.Seen.{Naming, kind_in}
use Rattle.value_cells.specs.Does.{told, told_stop}
use Rattle.value_cells.specs.declared.OpStop.TheVariants as stop
use Rattle.run_heap.specs.Core.{Core}
use Rattle.run_heap.specs.Works.{Works}
use Rattle.run_heap.proofs.Turn.{err_exit}
use Rattle.run_heap.proofs.Made.{makes_spends, makes_paid}
use Rattle.run_heap.proofs.RunHeap.make.Goals as goal

pub returns-in_err-pay-clause-did : goal.returns-in_err-pay-clause-did
returns-in_err-pay-clause-did c =
    let old = c.args.self.now in
    let g = λ (nu : Naming). steps_of (Make (kind_in nu c.args.kind)) in
    let h = c.in_err-pay.ensures.spent in
    err_exit g (λ nu. nu) c.from_residual.result c.in_err-pay.field-0.0 old c.pay.new.self c.from_residual.ensures.1
    (subst (λ e. Works g (λ nu. told_stop e) old c.pay.new.self) (sym h.0)
    (subst (λ (s : Core). Works g (λ nu. told_stop stop.Spent) old s) (sym h.2) (makes_spends old c.args.kind h.1)))

pub returns-clause-did : goal.returns-clause-did
returns-clause-did c =
    let h = c.in_ok-pay.ensures.paid in
    makes_paid c.args.self.now c.add.new.self c.args.kind (λ nu. told nu c.add.result) h.0
    (subst (λ (s : Core). Works (λ nu. step (make_cell false (kind_in nu c.args.kind)) give) (λ nu. told nu c.add.result) s c.add.new.self) h.1 c.add.ensures.did)
