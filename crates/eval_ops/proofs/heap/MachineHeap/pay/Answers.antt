use Rattle.std.proofs.Common.{◌≤◌, subst}
use Rattle.turk_base.specs.Prog.{Pay}
use Rattle.turk_base.specs.State.{charge}
use Rattle.turk_base.specs.Steps.{give, step}
use Rattle.value_cells.specs.Seen.{Naming, count}
use Rattle.value_cells.specs.Does.{Does, told}
use Rattle.eval_ops.specs.Run.{Run, around, seen_of}
use Rattle.eval_ops.specs.Stored.{run_of}
use Rattle.eval_ops.proofs.Machines.{with_heap, pay_does, more, more_seen, run_kept, room_kept}
use Rattle.eval_ops.proofs.heap.MachineHeap.pay.Goals as goal

pub invariant_of-self : goal.invariant_of-self
invariant_of-self c =
    let m = run_of c.self.inside in
    let h = c.pay.new.self in
    let l = more (λ (nu : Naming). step (charge c.args.units) give) (λ nu. told (λ u. u) c.pay.result) (around m) m.heap h c.pay.ensures.did in
    record { run = run_kept m h c.self.invariant.run c.pay.ensures.rests l; room = room_kept m h _ c.self.invariant.room }

pub returns-clause-did : goal.returns-clause-did
returns-clause-did c =
    let m = run_of c.self.inside in
    let h = c.pay.new.self in
    subst (λ (s : Run). Does (λ (nu : Naming). Pay c.args.units) (λ nu. told (λ u. u) c.pay.result) (seen_of s) (seen_of (with_heap m h))) c.self.view_is
    (pay_does m h c.pay.ensures.rests c.args.units (λ nu. told (λ u. u) c.pay.result) c.pay.ensures.did)

pub returns-clause-more : goal.returns-clause-more
returns-clause-more c =
    let m = run_of c.self.inside in
    let h = c.pay.new.self in
    subst (λ (s : Run). count (seen_of s) ≤ count (seen_of (with_heap m h))) c.self.view_is (more_seen (λ (nu : Naming). step (charge c.args.units) give) (λ nu. told (λ u. u) c.pay.result) (around m) m.heap h c.pay.ensures.did)
