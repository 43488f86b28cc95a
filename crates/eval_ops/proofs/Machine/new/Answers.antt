use Rattle.std.proofs.Common.{◌≡◌, sym, ap, ◌∙◌, subst, List, false, length, None, arith}
use Rattle.std.specs.Prelude.{vec_capacity}
use Rattle.turk_base.specs.Names.{Name}
use Rattle.turk_base.specs.Values as model
use Rattle.turk_base.specs.Prog.{Make}
use Rattle.value_cells.specs.Seen.{Naming}
use Rattle.value_cells.specs.Does.{Does, Says}
use Rattle.run_heap.proofs.Tables.{count_names}
use Rattle.eval_ops.specs.Run.{Run, seen_of}
use Rattle.eval_ops.specs.Stored.{IsRun, HasRoom}
use Rattle.eval_ops.specs.Calls.{at_start}
use Rattle.eval_ops.proofs.Starts.{begun, begun_does, begun_run, begun_room}
use Rattle.eval_ops.proofs.Machine.new.Goals as goal

pub invariant_of-result : goal.invariant_of-result
invariant_of-result c =
    let b = c.in_ok-heap.ensures in
    let r = c.make.ensures.rests in
    let m' : Run = record { heap = c.make.new.self; body = false; values = c.new-2.result.items; text = c.new-3.result; gone = c.new-4.result.items; outer = c.new-5.result.items; left_back = None } in
    let e : m' ≡ begun c.args.fuel c.in_ok-heap.heap c.make.new.self b r = λ i. record { heap = c.make.new.self; body = false; values = c.new-2.ensures.items i; text = c.new-3.ensures i; gone = c.new-4.ensures.items i; outer = c.new-5.ensures.items i; left_back = None } in
    record {
      run = subst IsRun (sym e) (begun_run c.args.fuel c.in_ok-heap.heap c.make.new.self b r);
      room = subst (λ (m : Run). HasRoom m (vec_capacity c.new-4.result)) (sym e) (begun_room c.args.fuel c.in_ok-heap.heap c.make.new.self b r (vec_capacity c.new-4.result));
    }

pub returns-clause-did : goal.returns-clause-did
returns-clause-did c =
    let b = c.in_ok-heap.ensures in
    let r = c.make.ensures.rests in
    let m' : Run = record { heap = c.make.new.self; body = false; values = c.new-2.result.items; text = c.new-3.result; gone = c.new-4.result.items; outer = c.new-5.result.items; left_back = None } in
    let e : m' ≡ begun c.args.fuel c.in_ok-heap.heap c.make.new.self b r = λ i. record { heap = c.make.new.self; body = false; values = c.new-2.ensures.items i; text = c.new-3.ensures i; gone = c.new-4.ensures.items i; outer = c.new-5.ensures.items i; left_back = None } in
    let seven : c.in-Ok.field-0 ≡ 7 = c.in-Ok.ensures.place ∙ sym (count_names c.in_ok-heap.heap.cells.now) ∙ ap (λ (l : List Name). length l) b.names in
    subst (λ (m : Run). Does (λ (nu : Naming). Make (model.Frame None)) (λ nu. Says (nu 7)) (at_start c.args.fuel) (seen_of m)) (sym e)
    (begun_does c.args.fuel c.in_ok-heap.heap c.make.new.self b r c.in-Ok.field-0 seven c.in-Ok.ensures.did)

pub returns-clause-count : goal.returns-clause-count
returns-clause-count c =
    let b = c.in_ok-heap.ensures in
    let seven : c.in-Ok.field-0 ≡ 7 = c.in-Ok.ensures.place ∙ sym (count_names c.in_ok-heap.heap.cells.now) ∙ ap (λ (l : List Name). length l) b.names in
    omega (arith, seven, c.in-Ok.ensures.number)
