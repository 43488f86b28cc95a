use Rattle.std.proofs.Common.{◌≡◌, ◌<◌, ◌≤◌, ℕ, zero, suc, ap, sym, ◌∙◌, subst, true, false, Some, slice_get, length, arith}
use Rattle.std.proofs.lemmas.Option.{slice_get_read}
use Rattle.turk_base.specs.Cells.{class_of, index, lower_than}
use Rattle.value_cells.specs.Held.{Key}
use Rattle.run_heap.proofs.Index_keys.{put_after, put_last, lower_next}
use Rattle.run_heap.proofs.classes.place_down.Goals as goal

pub returns-then-not-is_lower-clause-place : goal.returns-then-not-is_lower-clause-place
returns-then-not-is_lower-clause-place c =
    put_after c.args.at c.args.keys.now c.loop-place.place c.index-keys-place.result c.loop-place-test.true c.index-keys-place.is c.loop-place.invariant (λ k e. sym (c.is_lower.ensures k e) ∙ c.if-not-is_lower.true)

pub loop-place-preserved : goal.loop-place-preserved
loop-place-preserved c = lower_next c.args.at c.args.keys.now c.loop-place.place c.index-keys-place.result c.loop-place-test.true c.index-keys-place.is c.loop-place.invariant (λ k e. sym (c.is_lower.ensures k e) ∙ c.if-not-is_lower.false)

pub returns-clause-place : goal.returns-clause-place
returns-clause-place c = put_last c.args.at c.args.keys.now c.loop-place.place (omega (arith, c.loop-place-test.false)) c.loop-place.invariant
