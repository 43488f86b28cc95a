use Rattle.std.proofs.Common.{◌≡◌, ◌+◌, ◌-◌, ◌≤◌, refl, ap, sym, subst, ℕ, suc, List, length, arith}
use Rattle.turk_base.specs.Prog.{Print}
use Rattle.value_cells.specs.declared.OpStop.{OpStop}
use Rattle.value_cells.specs.declared.OpStop.TheVariants.{Spent, Memory}
use Rattle.value_cells.specs.Seen.{Naming}
use Rattle.value_cells.specs.Does.{Says, Fails, Does, told_stop}
use Rattle.run_heap.specs.Core.{Core, names_in}
use Rattle.eval_ops.specs.Run.{Run, seen_of}
use Rattle.eval_ops.specs.Stored.{run_of, IsRun}
use Rattle.eval_ops.proofs.Machines.{with_heap, rests_base, stays_of, does_fail, does_exit, run_kept, room_kept}
use Rattle.eval_ops.proofs.Prints.{print_does, print_spends, printed_run}
use Rattle.eval_ops.proofs.Machine.print.Goals as goal

pub invariant_of-self : goal.invariant_of-self
invariant_of-self c =
    let m = run_of c.self.inside in
    let h = c.pay.new.self in
    let e : length h.cells.now ≡ length m.heap.cells.now = λ i. length (c.pay.ensures.cells i).now in
    let l : length m.heap.cells.now ≤ length h.cells.now = omega (arith, e) in
    record { run = run_kept m h c.self.invariant.run c.pay.ensures.rests l; room = room_kept m h _ c.self.invariant.room }

pub returns-in_err-pay-clause-did : goal.returns-in_err-pay-clause-did
returns-in_err-pay-clause-did c =
    let m = run_of c.self.inside in
    let line = c.args.line.now in
    let x = c.in_err-pay.field-0.0 in
    let q = c.in_err-pay.ensures.spent in
    let n : length c.as_slice.result.now + 1 ≡ suc (length line) = omega (arith, ap length c.as_slice.ensures) in
    does_exit (λ (nu : Naming). Print line) (λ nu u. u) c.from_residual.result x (seen_of c.args.self.now) (seen_of (with_heap m c.pay.new.self)) c.from_residual.ensures.1
    (subst (λ (s : Run). Does (λ (nu : Naming). Print line) (λ nu. told_stop x) (seen_of s) (seen_of (with_heap m c.pay.new.self))) c.self.view_is
    (subst (λ (e : OpStop). Does (λ (nu : Naming). Print line) (λ nu. told_stop e) (seen_of m) (seen_of (with_heap m c.pay.new.self))) (sym q.0)
    (subst (λ (h : Core). Does (λ (nu : Naming). Print line) (λ nu. told_stop Spent) (seen_of m) (seen_of (with_heap m h))) (sym q.2)
    (print_spends m c.self.invariant.run line (length c.as_slice.result.now + 1) m.heap.left n q.1))))

pub invariant_of-self-in_err-add_line : goal.invariant_of-self-in_err-add_line
invariant_of-self-in_err-add_line c =
    let m = run_of c.self.inside in
    let h = c.pay.new.self in
    let e : length h.cells.now ≡ length m.heap.cells.now = λ i. length (c.pay.ensures.cells i).now in
    let l : length m.heap.cells.now ≤ length h.cells.now = omega (arith, e) in
    record {
      run = subst (λ (t : List ℕ). IsRun (record m { heap = h; text = t })) (sym c.in_err-add_line.ensures.err) (run_kept m h c.self.invariant.run c.pay.ensures.rests l);
      room = record { kept = c.self.invariant.room.kept; now = c.self.invariant.room.now };
    }

pub returns-in_err-add_line-clause-did : goal.returns-in_err-add_line-clause-did
returns-in_err-add_line-clause-did c =
    let m = run_of c.self.inside in
    let line = c.args.line.now in
    let h = c.pay.new.self in
    let t = c.add_line.new.text in
    does_exit (λ (nu : Naming). Print line) (λ nu u. u) c.from_residual-in_err-add_line.result Memory (seen_of c.args.self.now) (seen_of (record m { heap = h; text = t })) c.from_residual-in_err-add_line.ensures.1
    (subst (λ (s : Run). Does (λ (nu : Naming). Print line) (λ nu. Fails) (seen_of s) (seen_of (record m { heap = h; text = t }))) c.self.view_is
    (subst (λ (t : List ℕ). Does (λ (nu : Naming). Print line) (λ nu. Fails) (seen_of m) (seen_of (record m { heap = h; text = t }))) (sym c.in_err-add_line.ensures.err)
    (does_fail (λ (nu : Naming). Print line) (seen_of m) (seen_of (with_heap m h)) (stays_of m (with_heap m h) (rests_base m h c.pay.ensures.rests).scopes c.pay.ensures.rests.path c.pay.ensures.rests.branch (λ i. names_in (c.pay.ensures.cells i).now)))))

pub invariant_of-self-2 : goal.invariant_of-self-2
invariant_of-self-2 c =
    let m = run_of c.self.inside in
    let line = c.args.line.now in
    let q = c.in_ok-pay.ensures.paid in
    let n : length c.as_slice.result.now + 1 ≡ suc (length line) = omega (arith, ap length c.as_slice.ensures) in
    record {
      run = subst (λ (h : Core). IsRun (record m { heap = h; text = c.add_line.new.text })) (sym q.1)
          (subst (λ (t : List ℕ). IsRun (record m { heap = record m.heap { left = m.heap.left - (length c.as_slice.result.now + 1) }; text = t })) (sym c.in_ok-add_line.ensures.ok)
          (printed_run m c.self.invariant.run line (length c.as_slice.result.now + 1) (m.heap.left - (length c.as_slice.result.now + 1)) n));
      room = record { kept = c.self.invariant.room.kept; now = c.self.invariant.room.now };
    }

pub returns-clause-did : goal.returns-clause-did
returns-clause-did c =
    let m = run_of c.self.inside in
    let line = c.args.line.now in
    let q = c.in_ok-pay.ensures.paid in
    let left = m.heap.left - (length c.as_slice.result.now + 1) in
    let n : length c.as_slice.result.now + 1 ≡ suc (length line) = omega (arith, ap length c.as_slice.ensures) in
    let new : Core → List ℕ → Run = λ h t. record m { heap = h; text = t } in
    subst (λ (s : Run). Does (λ (nu : Naming). Print line) (λ nu. Says tt) (seen_of s) (seen_of (new c.pay.new.self c.add_line.new.text))) c.self.view_is
    (subst (λ (h : Core). Does (λ (nu : Naming). Print line) (λ nu. Says tt) (seen_of m) (seen_of (new h c.add_line.new.text))) (sym q.1)
    (subst (λ (t : List ℕ). Does (λ (nu : Naming). Print line) (λ nu. Says tt) (seen_of m) (seen_of (new (record m.heap { left = left }) t))) (sym c.in_ok-add_line.ensures.ok)
    (print_does m c.self.invariant.run line (length c.as_slice.result.now + 1) left n q.0 refl)))
