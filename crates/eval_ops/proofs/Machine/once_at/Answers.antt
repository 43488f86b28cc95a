use Rattle.std.proofs.Common.{subst}
use Rattle.turk_base.specs.Names.{path_in}
use Rattle.turk_base.specs.State.{once_call}
use Rattle.branch_check.specs.Watch.{after_once}
use Rattle.eval_ops.specs.Run.{Run, seen_of}
use Rattle.eval_ops.specs.Stored.{run_of}
use Rattle.eval_ops.specs.Calls.{Changes}
use Rattle.eval_ops.proofs.Machines.{with_heap, run_same, room_kept}
use Rattle.eval_ops.proofs.Rules.{turns}
use Rattle.eval_ops.proofs.Machine.once_at.Goals as goal

pub invariant_of-self : goal.invariant_of-self
invariant_of-self c =
    let m = run_of c.self.inside in
    let h = c.once_at.new.self in
    record { run = run_same m h c.self.invariant.run c.once_at.ensures.did.cells c.once_at.ensures.rests.outer; room = room_kept m h _ c.self.invariant.room }

pub returns-clause-did : goal.returns-clause-did
returns-clause-did c =
    let m = run_of c.self.inside in
    let h = c.once_at.new.self in
    subst (λ (s : Run). Changes (λ nu σ. once_call (seen_of s).scope.branch σ) (seen_of s) (seen_of (with_heap m h))) c.self.view_is
    (turns m h c.once_at.ensures.rests (λ w. after_once (path_in m.heap.place.branch) w) c.once_at.ensures.did)
