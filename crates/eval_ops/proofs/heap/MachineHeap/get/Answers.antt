use Rattle.std.proofs.Common.{◌≤◌, subst}
use Rattle.std.specs.Option.{option_map}
use Rattle.turk_base.specs.Prog.{Get}
use Rattle.turk_base.specs.Steps.{steps_of}
use Rattle.value_cells.specs.Seen.{Naming, val_in, count}
use Rattle.value_cells.specs.Does.{Does, told}
use Rattle.eval_ops.specs.Run.{Run, around, seen_of}
use Rattle.eval_ops.specs.Stored.{run_of}
use Rattle.eval_ops.proofs.Machines.{with_heap, heap_did, more, more_seen, run_kept, room_kept}
use Rattle.eval_ops.proofs.heap.MachineHeap.get.Goals as goal

pub invariant_of-self : goal.invariant_of-self
invariant_of-self c =
    let m = run_of c.self.inside in
    let h = c.get.new.self in
    let l = more (λ (nu : Naming). steps_of (Get (nu c.args.cell) c.args.key.now)) (λ nu. told (option_map (val_in nu)) c.get.result) (around m) m.heap h c.get.ensures.did in
    record { run = run_kept m h c.self.invariant.run c.get.ensures.rests l; room = room_kept m h _ c.self.invariant.room }

pub returns-clause-did : goal.returns-clause-did
returns-clause-did c =
    let m = run_of c.self.inside in
    let h = c.get.new.self in
    subst (λ (s : Run). Does (λ (nu : Naming). Get (nu c.args.cell) c.args.key.now) (λ nu. told (option_map (val_in nu)) c.get.result) (seen_of s) (seen_of (with_heap m h))) c.self.view_is
    (let l = heap_did m h c.get.ensures.rests (λ (nu : Naming). steps_of (Get (nu c.args.cell) c.args.key.now)) (λ nu. told (option_map (val_in nu)) c.get.result) c.get.ensures.did in record { stays = l.stays; did = l.did })

pub returns-clause-more : goal.returns-clause-more
returns-clause-more c =
    let m = run_of c.self.inside in
    let h = c.get.new.self in
    subst (λ (s : Run). count (seen_of s) ≤ count (seen_of (with_heap m h))) c.self.view_is (more_seen (λ (nu : Naming). steps_of (Get (nu c.args.cell) c.args.key.now)) (λ nu. told (option_map (val_in nu)) c.get.result) (around m) m.heap h c.get.ensures.did)
