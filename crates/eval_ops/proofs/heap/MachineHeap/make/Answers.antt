use Rattle.std.proofs.Common.{◌≤◌, subst}
use Rattle.turk_base.specs.Prog.{Make}
use Rattle.turk_base.specs.Steps.{steps_of}
use Rattle.value_cells.specs.Seen.{Naming, kind_in, count}
use Rattle.value_cells.specs.Does.{Does, told}
use Rattle.eval_ops.specs.Run.{Run, around, seen_of}
use Rattle.eval_ops.specs.Stored.{run_of}
use Rattle.eval_ops.proofs.Machines.{with_heap, heap_did, more, more_seen, run_kept, room_kept}
use Rattle.eval_ops.proofs.heap.MachineHeap.make.Goals as goal

pub invariant_of-self : goal.invariant_of-self
invariant_of-self c =
    let m = run_of c.self.inside in
    let h = c.make.new.self in
    let l = more (λ (nu : Naming). steps_of (Make (kind_in nu c.args.kind))) (λ nu. told nu c.make.result) (around m) m.heap h c.make.ensures.did in
    record { run = run_kept m h c.self.invariant.run c.make.ensures.rests l; room = room_kept m h _ c.self.invariant.room }

pub returns-clause-did : goal.returns-clause-did
returns-clause-did c =
    let m = run_of c.self.inside in
    let h = c.make.new.self in
    subst (λ (s : Run). Does (λ (nu : Naming). Make (kind_in nu c.args.kind)) (λ nu. told nu c.make.result) (seen_of s) (seen_of (with_heap m h))) c.self.view_is
    (let l = heap_did m h c.make.ensures.rests (λ (nu : Naming). steps_of (Make (kind_in nu c.args.kind))) (λ nu. told nu c.make.result) c.make.ensures.did in record { stays = l.stays; did = l.did })

pub returns-clause-more : goal.returns-clause-more
returns-clause-more c =
    let m = run_of c.self.inside in
    let h = c.make.new.self in
    subst (λ (s : Run). count (seen_of s) ≤ count (seen_of (with_heap m h))) c.self.view_is (more_seen (λ (nu : Naming). steps_of (Make (kind_in nu c.args.kind))) (λ nu. told nu c.make.result) (around m) m.heap h c.make.ensures.did)
