use Rattle.std.proofs.Common.{◌≤◌, subst}
use Rattle.turk_base.specs.Prog.{Keys}
use Rattle.turk_base.specs.Steps.{steps_of}
use Rattle.value_cells.specs.Seen.{Naming}
use Rattle.value_cells.specs.Does.{Does, told}
use Rattle.eval_ops.specs.Run.{Run, around, seen_of, count}
use Rattle.eval_ops.specs.Stored.{run_of}
use Rattle.eval_ops.proofs.Machines.{with_heap, heap_did, more, run_kept, room_kept}
use Rattle.eval_ops.proofs.Machine.listed.Goals as goal

pub invariant_of-self : goal.invariant_of-self
invariant_of-self c =
    let m = run_of c.self.inside in
    let h = c.listed.new.self in
    let l = more (λ (nu : Naming). steps_of (Keys (nu c.args.cell))) (λ nu. told (λ keys. keys.items) c.listed.result) (around m) m.heap h c.listed.ensures.did in
    record { run = run_kept m h c.self.invariant.run c.listed.ensures.rests l; room = room_kept m h _ c.self.invariant.room }

pub returns-clause-did : goal.returns-clause-did
returns-clause-did c =
    let m = run_of c.self.inside in
    let h = c.listed.new.self in
    subst (λ (s : Run). Does (λ (nu : Naming). Keys (nu c.args.cell)) (λ nu. told (λ keys. keys.items) c.listed.result) (seen_of s) (seen_of (with_heap m h))) c.self.view_is
    (let l = heap_did m h c.listed.ensures.rests (λ (nu : Naming). steps_of (Keys (nu c.args.cell))) (λ nu. told (λ keys. keys.items) c.listed.result) c.listed.ensures.did in record { stays = l.stays; did = l.did })

pub returns-clause-more : goal.returns-clause-more
returns-clause-more c =
    let m = run_of c.self.inside in
    let h = c.listed.new.self in
    subst (λ (s : Run). count s ≤ count (with_heap m h)) c.self.view_is (more (λ (nu : Naming). steps_of (Keys (nu c.args.cell))) (λ nu. told (λ keys. keys.items) c.listed.result) (around m) m.heap h c.listed.ensures.did)
