use Rattle.std.proofs.Common.{rules, ◌≡◌, ap, sym, ◌∙◌, subst, Some, slice_get, ◌++◌, ◌∷◌, []}
use Rattle.std.specs.Option.{option_copied}
use Rattle.std.specs.Map.{keys_of}
use Rattle.value_cells.specs.Held.{Cell, Key, props_at}
use Rattle.run_heap.specs.Core.{Core}
use Rattle.run_heap.proofs.Listed.{take_next}
use Rattle.run_heap.proofs.RunHeap.keys.Goals as goal

pub loop-place-preserved : goal.loop-place-preserved
loop-place-preserved c =
    let ks = keys_of (props_at c.args.self.now.cells.now c.args.cell) in
    let here : slice_get ks c.loop-place.place ≡ Some c.in-Some.key.now =
    ap (λ (s : Core). slice_get (keys_of (props_at s.cells.now c.args.cell)) c.loop-place.place) (sym c.self.view_is)
    ∙ sym (subst (λ o. option_copied o ≡ slice_get (keys_of (props_at c.self.inside.cells.now c.args.cell)) c.loop-place.place) c.in-Some.is c.key_at.ensures) in
    let pushed : c.push.new.self.items ≡ c.loop-place.keys.items ++ c.in_ok-key.key ∷ [] = search rules in
    pushed ∙ (λ i. c.loop-place.invariant i ++ c.in_ok-key.ensures i ∷ []) ∙ sym (take_next ks c.loop-place.place c.in-Some.key.now here)
