use Rattle.std.proofs.Common.{ap, subst, length, arith}
use Rattle.turk_base.specs.Steps.{taking}
use Rattle.value_cells.specs.Held.{Held}
use Rattle.value_cells.specs.Seen.{Naming, val_in}
use Rattle.run_heap.specs.Works.{Performs}
use Rattle.run_data.specs.Taken.{told_taken}
use Rattle.eval_ops.specs.Run.{Run, seen_of}
use Rattle.eval_ops.specs.Stored.{run_of}
use Rattle.eval_ops.proofs.Machines.{with_heap, heap_did, run_kept, room_kept}
use Rattle.eval_ops.proofs.Machine.take.Goals as goal

pub invariant_of-self : goal.invariant_of-self
invariant_of-self c =
    let m = run_of c.self.inside in
    let h = c.take.new.heap in
    let same = ap (λ (h : Held). length h.now) c.take.ensures.cells in
    record { run = run_kept m h c.self.invariant.run c.take.ensures.rests (omega (arith, same)); room = room_kept m h _ c.self.invariant.room }

pub returns-clause-did : goal.returns-clause-did
returns-clause-did c =
    let m = run_of c.self.inside in
    let h = c.take.new.heap in
    subst (λ (s : Run). Performs (λ (nu : Naming). taking (val_in nu c.args.value.now)) (λ nu. told_taken (λ d. d) c.take.result) (seen_of s) (seen_of (with_heap m h))) c.self.view_is
    (heap_did m h c.take.ensures.rests (λ (nu : Naming). taking (val_in nu c.args.value.now)) (λ nu. told_taken (λ d. d) c.take.result) c.take.ensures.did)
