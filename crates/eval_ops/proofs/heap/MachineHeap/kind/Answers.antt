use Rattle.std.proofs.Common.{◌<◌, sym, subst}
use Rattle.turk_base.specs.Prog.{KindOf}
use Rattle.value_cells.specs.Seen.{Naming, count, kind_in}
use Rattle.value_cells.specs.Does.{Does, Says}
use Rattle.eval_ops.specs.Run.{Run, seen_of}
use Rattle.eval_ops.specs.Stored.{run_of}
use Rattle.eval_ops.proofs.Machines.{kind_does}
use Rattle.eval_ops.proofs.heap.MachineHeap.kind.Goals as goal

pub returns-clause-did : goal.returns-clause-did
returns-clause-did c =
    let m = run_of c.self.inside in
    let kind = c.kind.result.now in
    let here : c.args.cell < count (seen_of m) = subst (λ (s : Run). c.args.cell < count (seen_of s)) (sym c.self.view_is) c.requires in
    subst (λ (s : Run). Does (λ (nu : Naming). KindOf (nu c.args.cell)) (λ nu. Says (kind_in nu kind)) (seen_of s) (seen_of s)) c.self.view_is
    (kind_does m c.known.ensures.cells c.args.cell here kind c.kind.ensures.kind)
