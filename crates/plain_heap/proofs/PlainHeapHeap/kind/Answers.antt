use Rattle.std.proofs.Common.{◌≡◌, ◌<◌, ap, sym, ◌∙◌, subst, arith}
use Rattle.turk_base.specs.Prog.{KindOf}
use Rattle.value_cells.specs.Seen.{Naming, count, kind_in}
use Rattle.value_cells.specs.Does.{Does, Says}
use Rattle.run_heap.specs.Core.{Core}
use Rattle.run_heap.specs.Core as core
use Rattle.plain_heap.specs.Plain.{plain_seen}
use Rattle.plain_heap.proofs.Alone.{kind_is, many}
use Rattle.plain_heap.proofs.PlainHeapHeap.kind.Goals as goal

pub returns-clause-did : goal.returns-clause-did
returns-clause-did c =
    let h = c.self.inside.heap in
    let here : c.args.cell < core.count h = subst (λ n. c.args.cell < n) (many h) (subst (λ (s : Core). c.args.cell < count (plain_seen s)) (sym c.self.view_is) c.requires) in
    subst (λ (s : Core). Does (λ (nu : Naming). KindOf (nu c.args.cell)) (λ nu. Says (kind_in nu c.kind.result.now)) (plain_seen s) (plain_seen s)) c.self.view_is
    (kind_is h c.known.ensures.cells c.args.cell here c.kind.result.now c.kind.ensures.kind)
