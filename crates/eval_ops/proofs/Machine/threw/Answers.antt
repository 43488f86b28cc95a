use Rattle.std.proofs.Common.{◌≡◌, ap, subst}
use Rattle.turk_base.specs.Names.{path_in}
use Rattle.turk_base.specs.State.{threw}
use Rattle.branch_check.specs.Watch.{after_throw}
use Rattle.run_heap.specs.Core.{Core}
use Rattle.eval_ops.specs.Run.{Run, seen_of}
use Rattle.eval_ops.specs.Stored.{run_of}
use Rattle.eval_ops.specs.Calls.{Changes}
use Rattle.eval_ops.proofs.Machines.{with_heap, run_same, room_kept}
use Rattle.eval_ops.proofs.Rules.{turns}
use Rattle.eval_ops.proofs.Machine.threw.Goals as goal

pub invariant_of-self : goal.invariant_of-self
invariant_of-self c =
    let m = run_of c.self.inside in
    let h = c.threw.new.self in
    let e : h ≡ m.heap = c.in_err-threw.ensures.same in
    record { run = run_same m h c.self.invariant.run (ap (λ (s : Core). s.cells) e) (ap (λ (s : Core). s.outer) e); room = room_kept m h _ c.self.invariant.room }

pub invariant_of-self-2 : goal.invariant_of-self-2
invariant_of-self-2 c =
    let m = run_of c.self.inside in
    let h = c.threw.new.self in
    record { run = run_same m h c.self.invariant.run c.in_ok-threw.ensures.did.cells c.threw.ensures.rests.outer; room = room_kept m h _ c.self.invariant.room }

pub returns-clause-ok : goal.returns-clause-ok
returns-clause-ok c =
    let m = run_of c.self.inside in
    let h = c.threw.new.self in
    subst (λ (s : Run). Changes (λ nu σ. threw (path_in c.args.branch.now) σ) (seen_of s) (seen_of (with_heap m h))) c.self.view_is
    (turns m h c.threw.ensures.rests (λ w. after_throw (path_in c.args.branch.now) w) c.in_ok-threw.ensures.did)
