use Rattle.std.proofs.Common.{◌≡◌, ◌<◌, ◌≤◌, false, subst, sym, arith}
use Rattle.turk_base.specs.State.{make as make_cell}
use Rattle.turk_base.specs.Steps.{give, step}
use Rattle.value_cells.specs.declared.CellKind.TheVariants.{Array}
use Rattle.value_cells.specs.Seen.{Naming, kind_in}
use Rattle.value_cells.specs.Does.{told_stop, Fails}
use Rattle.value_cells.specs.declared.OpStop.TheVariants as stop
use Rattle.run_heap.specs.Core.{Core, count}
use Rattle.run_heap.specs.Works.{Works}
use Rattle.run_heap.proofs.Turn.{err_exit}
use Rattle.run_heap.proofs.Made.{array_adds, array_works, array_fails, adds_count, last_bare}
use Rattle.run_heap.proofs.RunHeap.add_array.Goals as goal

pub returns-in_err-begin_array-clause-did : goal.returns-in_err-begin_array-clause-did
returns-in_err-begin_array-clause-did c =
    let g = λ (nu : Naming). step (make_cell false (kind_in nu Array)) give in
    let h = c.in_err-begin_array.ensures.err in
    err_exit g (λ nu. nu) c.from_residual-in_err-begin_array.result c.in_err-begin_array.field-0.0 c.args.self.now c.begin_array.new.self c.from_residual-in_err-begin_array.ensures.1
    (subst (λ e. Works g (λ nu. told_stop e) c.args.self.now c.begin_array.new.self) (sym h.0)
    (subst (λ (s : Core). Works g (λ nu. Fails) c.args.self.now s) (sym h.1) (array_fails c.in_ok-cell.cell c.args.self.now c.add_cell.new.self c.known.ensures.cells c.in_ok-cell.ensures.adds g)))

pub returns-clause-did : goal.returns-clause-did
returns-clause-did c = array_works c.in_ok-cell.cell c.args.self.now c.add_cell.new.self c.begin_array.new.self c.known.ensures.cells c.in_ok-cell.ensures.adds c.in_ok-begin_array.ensures.ok

pub returns-clause-more : goal.returns-clause-more
returns-clause-more c =
    let a = array_adds c.in_ok-cell.cell c.args.self.now c.add_cell.new.self c.begin_array.new.self c.in_ok-cell.ensures.adds c.in_ok-begin_array.ensures.ok in
    omega (arith, adds_count a.what c.args.self.now c.begin_array.new.self a.adds)

pub returns-clause-number : goal.returns-clause-number
returns-clause-number c =
    let a = array_adds c.in_ok-cell.cell c.args.self.now c.add_cell.new.self c.begin_array.new.self c.in_ok-cell.ensures.adds c.in_ok-begin_array.ensures.ok in
    omega (arith, adds_count a.what c.args.self.now c.begin_array.new.self a.adds, a.number_is)
