use Rattle.std.proofs.Common.{◌≡◌, true, ap, sym, subst, suc, ◌+◌, drop, map, arith}
use Rattle.turk_base.specs.Steps.{give, element, fill}
use Rattle.value_cells.specs.declared.Value.{Value}
use Rattle.value_cells.specs.declared.Value.TheVariants.{Object}
use Rattle.value_cells.specs.Needs.{needs}
use Rattle.value_cells.specs.Seen.{Naming, val_in}
use Rattle.value_cells.specs.Does.{Says, Fails, told_stop}
use Rattle.run_heap.specs.Works.{Works}
use Rattle.run_heap.proofs.Index_keys.{drop_next, no_more}
use Rattle.run_heap.proofs.Turn.{err_exit, works_fails, works_give, keeps_same}
use Rattle.run_heap.proofs.Whole.{rests_then, rests_same}
use Rattle.run_data.proofs.Parts.{read_at, needs_at}
use Rattle.run_data.proofs.Puts.{failed, fill_on, fill_out}
use Rattle.run_data.proofs.filling.fill.Goals as goal

pub loop-place-init : goal.loop-place-init
loop-place-init c = record { more = omega arith; rests = rests_same c.args.heap.now; leads = λ said last y. y }

pub put_paid-requires-clause-value : goal.put_paid-requires-clause-value
put_paid-requires-clause-value c =
    let here = read_at c.args.values.now c.loop-place.place c.index-values-place.result (omega (arith, c.loop-place-test.true)) c.index-values-place.is in
    omega (arith, needs_at c.args.values.now c.loop-place.place c.index-values-place.result here, ap needs c.in_ok-value.ensures, c.loop-place.invariant.more, c.requires.values)

pub returns-in_err-put_paid-clause-did : goal.returns-in_err-put_paid-clause-did
returns-in_err-put_paid-clause-did c =
    let vs = c.args.values.now in
    let v = c.index-values-place.result in
    let i = c.loop-place.place in
    let here = read_at vs i v (omega (arith, c.loop-place-test.true)) c.index-values-place.is in
    let x = c.in_err-put_paid.field-0.0 in
    err_exit (λ nu. fill (nu c.args.cell) 0 (map (val_in nu) vs)) (λ nu. val_in nu) c.from_residual-in_err-put_paid.result x c.args.heap.now c.put_paid.new.heap c.from_residual-in_err-put_paid.ensures.1
    (c.loop-place.invariant.leads (λ nu. told_stop x) c.put_paid.new.heap
    (subst (λ l. Works (λ nu. fill (nu c.args.cell) i (map (val_in nu) l)) (λ nu. told_stop x) c.loop-place.heap c.put_paid.new.heap) (sym (drop_next vs i v here))
    (fill_out c.args.cell i v (λ nu. map (val_in nu) (drop (suc i) vs)) x c.loop-place.heap c.put_paid.new.heap
    (subst (λ (v : Value). Works (λ nu. element true (nu c.args.cell) i (val_in nu v) (give (tt {0}))) (λ nu. told_stop x) c.loop-place.heap c.put_paid.new.heap) c.in_ok-value.ensures c.in_err-put_paid.ensures.did))))

pub loop-place-preserved : goal.loop-place-preserved
loop-place-preserved c =
    let vs = c.args.values.now in
    let v = c.index-values-place.result in
    let i = c.loop-place.place in
    let here = read_at vs i v (omega (arith, c.loop-place-test.true)) c.index-values-place.is in
    let next : suc i ≡ i + 1 = omega arith in
    record {
      more = omega (arith, c.loop-place.invariant.more, c.put_paid.ensures.count);
      rests = rests_then c.args.heap.now c.loop-place.heap c.put_paid.new.heap c.loop-place.invariant.rests c.put_paid.ensures.rests;
      leads = λ said last y. c.loop-place.invariant.leads said last
          (subst (λ l. Works (λ nu. fill (nu c.args.cell) i (map (val_in nu) l)) said c.loop-place.heap last) (sym (drop_next vs i v here))
          (fill_on c.args.cell i v (λ nu. map (val_in nu) (drop (suc i) vs)) said c.loop-place.heap c.put_paid.new.heap last
          (subst (λ (v : Value). Works (λ nu. element true (nu c.args.cell) i (val_in nu v) (give (tt {0}))) (λ nu. Says tt) c.loop-place.heap c.put_paid.new.heap) c.in_ok-value.ensures c.in_ok-put_paid.ensures.did)
          (subst (λ n. Works (λ nu. fill (nu c.args.cell) n (map (val_in nu) (drop n vs))) said c.put_paid.new.heap last) (sym next) y)));
    }

pub returns-in_err-value-clause-did : goal.returns-in_err-value-clause-did
returns-in_err-value-clause-did c =
    let vs = c.args.values.now in
    let i = c.loop-place.place in
    let h = c.loop-place.heap in
    let g = λ (nu : Naming). fill (nu c.args.cell) 0 (map (val_in nu) vs) in
    failed g (λ nu. val_in nu) c.from_residual.result c.args.heap.now h c.from_residual.ensures.1
    (c.loop-place.invariant.leads (λ nu. Fails) h (works_fails (λ nu. fill (nu c.args.cell) i (map (val_in nu) (drop i vs))) h h (keeps_same h)))

pub returns-clause-did : goal.returns-clause-did
returns-clause-did c =
    let vs = c.args.values.now in
    let i = c.loop-place.place in
    let h = c.loop-place.heap in
    c.loop-place.invariant.leads (λ nu. Says (val_in nu (Object c.args.cell))) h
    (subst (λ l. Works (λ nu. fill (nu c.args.cell) i (map (val_in nu) l)) (λ nu. Says (val_in nu (Object c.args.cell))) h h) (sym (no_more i vs (omega (arith, c.loop-place-test.false))))
    (works_give (λ nu. val_in nu (Object c.args.cell)) h))
