use Rattle.std.proofs.Common.{◌≡◌, ◌-◌, ◌<◌, ◌≤◌, ℕ, ap, sym, ◌∙◌, subst, true, false, None, Some, slice_get, length, is_some, arith}
use Rattle.std.specs.Option.{option_copied}
use Rattle.std.specs.Map.{keys_of}
use Rattle.value_cells.specs.Held.{Cell, Key, props_at}
use Rattle.run_heap.specs.Core.{Core}
use Rattle.run_heap.proofs.Index_keys.{keys_begin, key_there, keys_add, keys_skip}
use Rattle.run_heap.proofs.RunHeap.doomed.Goals as goal

pub loop-place-init : goal.loop-place-init
loop-place-init c =
    keys_begin c.args.length c.keys-place.result 4294967295 (props_at c.args.self.now.cells.now c.args.cell) c.new-keys.result.items
    (c.keys-place.ensures.len ∙ ap (λ (s : Core). length (props_at s.cells.now c.args.cell)) c.self.view_is) c.new-keys.ensures.items

pub unreachable-requires : goal.unreachable-requires
unreachable-requires c =
    key_there (keys_of (props_at c.args.self.now.cells.now c.args.cell)) (c.loop-place.place - 1) (omega (arith, c.loop-place-test.true, c.loop-place.invariant.0))
    (subst (λ o. option_copied o ≡ slice_get (keys_of (props_at c.self.inside.cells.now c.args.cell)) (c.loop-place.place - 1)) c.in_default.is c.key_at.ensures
    ∙ ap (λ (s : Core). slice_get (keys_of (props_at s.cells.now c.args.cell)) (c.loop-place.place - 1)) c.self.view_is)

pub loop-place-preserved-then-at-lowest : goal.loop-place-preserved-then-at-lowest
loop-place-preserved-then-at-lowest c =
    let ks = keys_of (props_at c.args.self.now.cells.now c.args.cell) in
    let here : slice_get ks (c.loop-place.place - 1) ≡ Some c.in-Some.key.now =
    ap (λ (s : Core). slice_get (keys_of (props_at s.cells.now c.args.cell)) (c.loop-place.place - 1)) (sym c.self.view_is)
    ∙ sym (subst (λ o. option_copied o ≡ slice_get (keys_of (props_at c.self.inside.cells.now c.args.cell)) (c.loop-place.place - 1)) c.in-Some.is c.key_at.ensures) in
    keys_add c.args.length c.loop-place.place ks c.in-Some.key.now c.loop-place.keys.items c.loop-place-test.true c.loop-place.invariant.0 here c.loop-place.invariant.1
    c.in-Some-element_past.at c.loop-place.lowest c.in-Some-element_past.at c.in_ok-key.key c.add_down.new.keys.items c.in_ok-key.ensures c.in-Some-element_past.ensures.index
    (c.element_past.ensures.past ∙ ap is_some c.in-Some-element_past.is) c.in_ok-add_down.ensures.ok c.loop-place.invariant.2 (omega arith) (omega (arith, c.if-at-lowest.true))

pub loop-place-preserved-else-at-lowest : goal.loop-place-preserved-else-at-lowest
loop-place-preserved-else-at-lowest c =
    let ks = keys_of (props_at c.args.self.now.cells.now c.args.cell) in
    let here : slice_get ks (c.loop-place.place - 1) ≡ Some c.in-Some.key.now =
    ap (λ (s : Core). slice_get (keys_of (props_at s.cells.now c.args.cell)) (c.loop-place.place - 1)) (sym c.self.view_is)
    ∙ sym (subst (λ o. option_copied o ≡ slice_get (keys_of (props_at c.self.inside.cells.now c.args.cell)) (c.loop-place.place - 1)) c.in-Some.is c.key_at.ensures) in
    keys_add c.args.length c.loop-place.place ks c.in-Some.key.now c.loop-place.keys.items c.loop-place-test.true c.loop-place.invariant.0 here c.loop-place.invariant.1
    c.in-Some-element_past.at c.loop-place.lowest c.loop-place.lowest c.in_ok-key.key c.add_down.new.keys.items c.in_ok-key.ensures c.in-Some-element_past.ensures.index
    (c.element_past.ensures.past ∙ ap is_some c.in-Some-element_past.is) c.in_ok-add_down.ensures.ok c.loop-place.invariant.2 (omega (arith, c.if-at-lowest.false)) (omega arith)

pub loop-place-preserved : goal.loop-place-preserved
loop-place-preserved c =
    let ks = keys_of (props_at c.args.self.now.cells.now c.args.cell) in
    let here : slice_get ks (c.loop-place.place - 1) ≡ Some c.in-Some.key.now =
    ap (λ (s : Core). slice_get (keys_of (props_at s.cells.now c.args.cell)) (c.loop-place.place - 1)) (sym c.self.view_is)
    ∙ sym (subst (λ o. option_copied o ≡ slice_get (keys_of (props_at c.self.inside.cells.now c.args.cell)) (c.loop-place.place - 1)) c.in-Some.is c.key_at.ensures) in
    keys_skip c.args.length c.loop-place.place ks c.in-Some.key.now c.loop-place.keys.items c.loop-place-test.true c.loop-place.invariant.0 here c.loop-place.invariant.1 c.loop-place.lowest
    (c.element_past.ensures.past ∙ ap is_some c.in_default-element_past.is) c.loop-place.invariant.2
