use Rattle.std.proofs.Common.{◌≡◌, ap, sym, subst}
use Rattle.turk_base.specs.State.{next_call}
use Rattle.run_heap.specs.Core.{Core}
use Rattle.eval_ops.specs.Run.{Run, seen_of}
use Rattle.eval_ops.specs.Stored.{run_of}
use Rattle.eval_ops.specs.Calls.{Changes}
use Rattle.eval_ops.proofs.Machines.{with_heap, run_same, room_kept}
use Rattle.eval_ops.proofs.Rules.{calls_next}
use Rattle.eval_ops.proofs.Machine.next_call.Goals as goal

pub invariant_of-self : goal.invariant_of-self
invariant_of-self c =
    let m = run_of c.self.inside in
    let h = c.next_call.new.self in
    let e : h ≡ m.heap = c.in_err-path.ensures.same in
    record { run = run_same m h c.self.invariant.run (ap (λ (s : Core). s.cells) e) (ap (λ (s : Core). s.outer) e); room = room_kept m h _ c.self.invariant.room }

pub invariant_of-self-2 : goal.invariant_of-self-2
invariant_of-self-2 c =
    let m = run_of c.self.inside in
    let h = c.next_call.new.self in
    let e = c.in_ok-path.ensures.counted in
    record { run = run_same m h c.self.invariant.run (ap (λ (s : Core). s.cells) e) (ap (λ (s : Core). s.outer) e); room = room_kept m h _ c.self.invariant.room }

pub returns-clause-ok : goal.returns-clause-ok
returns-clause-ok c =
    let m = run_of c.self.inside in
    subst (λ (s : Run). Changes (λ nu σ. next_call σ) (seen_of s) (seen_of (with_heap m c.next_call.new.self))) c.self.view_is
    (subst (λ (h : Core). Changes (λ nu σ. next_call σ) (seen_of m) (seen_of (with_heap m h))) (sym c.in_ok-path.ensures.counted) (calls_next m))
