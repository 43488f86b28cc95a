use Rattle.std.proofs.Common.{subst}
use Rattle.turk_base.specs.Steps.{put_data}
use Rattle.value_cells.specs.Seen.{Naming, val_in}
use Rattle.value_cells.specs.Does.{told}
use Rattle.run_heap.specs.Works.{Performs}
use Rattle.eval_ops.specs.Run.{Run, seen_of}
use Rattle.eval_ops.specs.Stored.{run_of}
use Rattle.eval_ops.proofs.Machines.{with_heap, heap_did, run_kept, room_kept}
use Rattle.eval_ops.proofs.Machine.put_data.Goals as goal

pub invariant_of-self : goal.invariant_of-self
invariant_of-self c =
    let m = run_of c.self.inside in
    let h = c.put_data.new.heap in
    record { run = run_kept m h c.self.invariant.run c.put_data.ensures.rests c.put_data.ensures.more; room = room_kept m h _ c.self.invariant.room }

pub returns-clause-did : goal.returns-clause-did
returns-clause-did c =
    let m = run_of c.self.inside in
    let h = c.put_data.new.heap in
    subst (λ (s : Run). Performs (λ (nu : Naming). put_data c.args.from.now) (λ nu. told (val_in nu) c.put_data.result) (seen_of s) (seen_of (with_heap m h))) c.self.view_is
    (heap_did m h c.put_data.ensures.rests (λ (nu : Naming). put_data c.args.from.now) (λ nu. told (val_in nu) c.put_data.result) c.put_data.ensures.did)
