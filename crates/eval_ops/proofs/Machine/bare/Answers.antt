use Rattle.std.proofs.Common.{◌≡◌, sym, subst, false, None}
use Rattle.std.specs.Prelude.{vec_capacity}
use Rattle.eval_ops.specs.Run.{Run, seen_of}
use Rattle.eval_ops.specs.Stored.{IsRun, HasRoom}
use Rattle.eval_ops.specs.Calls.{IsBare}
use Rattle.eval_ops.proofs.Starts.{bare, bare_run, bare_room, is_bare}
use Rattle.eval_ops.proofs.Machine.bare.Goals as goal

pub invariant_of-result : goal.invariant_of-result
invariant_of-result c =
    let b = c.in_ok-heap.ensures in
    let m' : Run = record { heap = c.in_ok-heap.heap; body = false; values = c.new-2.result.items; text = c.new-3.result; gone = c.new-4.result.items; outer = c.new-5.result.items; left_back = None } in
    let e : m' ≡ bare c.args.fuel c.in_ok-heap.heap b = λ i. record { heap = c.in_ok-heap.heap; body = false; values = c.new-2.ensures.items i; text = c.new-3.ensures i; gone = c.new-4.ensures.items i; outer = c.new-5.ensures.items i; left_back = None } in
    record {
      run = subst IsRun (sym e) (bare_run c.args.fuel c.in_ok-heap.heap b);
      room = subst (λ (m : Run). HasRoom m (vec_capacity c.new-4.result)) (sym e) (bare_room c.args.fuel c.in_ok-heap.heap b (vec_capacity c.new-4.result));
    }

pub returns-clause-bare : goal.returns-clause-bare
returns-clause-bare c =
    let b = c.in_ok-heap.ensures in
    let m' : Run = record { heap = c.in_ok-heap.heap; body = false; values = c.new-2.result.items; text = c.new-3.result; gone = c.new-4.result.items; outer = c.new-5.result.items; left_back = None } in
    let e : m' ≡ bare c.args.fuel c.in_ok-heap.heap b = λ i. record { heap = c.in_ok-heap.heap; body = false; values = c.new-2.ensures.items i; text = c.new-3.ensures i; gone = c.new-4.ensures.items i; outer = c.new-5.ensures.items i; left_back = None } in
    subst (λ (m : Run). IsBare c.args.fuel (seen_of m)) (sym e) (is_bare c.args.fuel c.in_ok-heap.heap b)
