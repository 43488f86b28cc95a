use Rattle.std.proofs.Common.{◌≡◌, ◌∷◌, ◌<◌, ◌≤◌, [], refl, ap, sym, ◌∙◌, subst, true, suc, ◌+◌, Some, slice_get, length, drop, arith}
use Rattle.std.proofs.lemmas.Option.{slice_get_read}
use Rattle.std.specs.Map.{keys_of, remove_entry}
use Rattle.turk_base.specs.Cells.{doomed, trim, remove}
use Rattle.turk_base.specs.State.{change}
use Rattle.turk_base.specs.Steps.{give, step}
use Rattle.value_cells.specs.Held.{props_at, key_eq}
use Rattle.value_cells.specs.Seen.{Naming}
use Rattle.value_cells.specs.Does.{Says, told_stop}
use Rattle.run_heap.specs.Core.{Core, count}
use Rattle.run_heap.proofs.Index_keys.{drop_next, no_more}
use Rattle.run_heap.proofs.Shorter.{doomed_there, doomed_rest, trims_on, trims_out, trims_none}
use Rattle.run_heap.proofs.Tables.{at_same}
use Rattle.run_heap.proofs.Turn.{err_exit}
use Rattle.run_heap.proofs.Whole.{rests_then}
use Rattle.run_heap.proofs.RunHeap.trim.Goals as goal

pub drop_there-requires-clause-there : goal.drop_there-requires-clause-there
drop_there-requires-clause-there c =
    let k = c.index.result.now in
    let here = slice_get_read c.in-Ok.keys.items (length c.in-Ok.keys.items) c.loop-place.place k refl (omega (arith, c.loop-place-test.true)) c.index.ensures in
    doomed_there c.args.length (props_at c.loop-place.self.cells.now c.args.cell) k (drop (suc c.loop-place.place) c.in-Ok.keys.items) (c.loop-place.invariant.left ∙ drop_next c.in-Ok.keys.items c.loop-place.place k here)

pub returns-in_err-drop_there-clause-did : goal.returns-in_err-drop_there-clause-did
returns-in_err-drop_there-clause-did c =
    let k = c.index.result.now in
    let here = slice_get_read c.in-Ok.keys.items (length c.in-Ok.keys.items) c.loop-place.place k refl (omega (arith, c.loop-place-test.true)) c.index.ensures in
    let x = c.in_err-drop_there.field-0.0 in
    err_exit (λ (nu : Naming). step (change true (nu c.args.cell) (trim c.args.length)) give) (λ nu u. u) c.from_residual.result x c.args.self.now c.drop_there.new.self c.from_residual.ensures.1
    (c.loop-place.invariant.leads (λ nu. told_stop x) c.drop_there.new.self
    (trims_out c.args.cell c.loop-place.self c.known.ensures.cells c.loop-place.invariant.here c.args.length k (drop (suc c.loop-place.place) c.in-Ok.keys.items) x c.drop_there.new.self c.keys_differ.ensures
    (c.loop-place.invariant.left ∙ drop_next c.in-Ok.keys.items c.loop-place.place k here) c.in_err-drop_there.ensures.did))

pub loop-place-preserved : goal.loop-place-preserved
loop-place-preserved c =
    let k = c.index.result.now in
    let here = slice_get_read c.in-Ok.keys.items (length c.in-Ok.keys.items) c.loop-place.place k refl (omega (arith, c.loop-place-test.true)) c.index.ensures in
    let rest = drop (suc c.loop-place.place) c.in-Ok.keys.items in
    let d = c.loop-place.invariant.left ∙ drop_next c.in-Ok.keys.items c.loop-place.place k here in
    let next : suc c.loop-place.place ≡ c.loop-place.place + 1 = omega arith in
    let ps = props_at c.loop-place.self.cells.now c.args.cell in
    let now = ap (λ cells. props_at cells c.args.cell) c.in_ok-drop_there.ensures.cells ∙ at_same c.loop-place.self.cells.now c.args.cell (remove_entry (key_eq k) ps) c.loop-place.invariant.here in
    record {
      here = omega (arith, c.loop-place.invariant.here, c.drop_there.ensures.count);
      same = c.drop_there.ensures.count ∙ c.loop-place.invariant.same;
      rests = rests_then c.args.self.now c.loop-place.self c.drop_there.new.self c.loop-place.invariant.rests c.drop_there.ensures.rests;
      left = ap (λ ps. doomed c.args.length (keys_of ps)) now ∙ doomed_rest c.args.length ps k rest d ∙ ap (λ n. drop n c.in-Ok.keys.items) next;
      leads = λ said last y. c.loop-place.invariant.leads said last
          (trims_on c.args.cell c.loop-place.self c.known.ensures.cells c.loop-place.invariant.here c.args.length k rest said c.drop_there.new.self last c.keys_differ.ensures d c.in_ok-drop_there.ensures.did y);
    }

pub returns-clause-did : goal.returns-clause-did
returns-clause-did c =
    c.loop-place.invariant.leads (λ nu. Says tt) c.loop-place.self
    (trims_none c.args.cell c.loop-place.self c.known-2.ensures.cells c.loop-place.invariant.here c.args.length
    (c.loop-place.invariant.left ∙ no_more c.loop-place.place c.in-Ok.keys.items (omega (arith, c.loop-place-test.false))))
