use Rattle.std.proofs.Common.{sym, ◌∙◌}
use Rattle.run_heap.proofs.Listed.{has_found, has_next}
use Rattle.run_heap.proofs.listing.has_key.Goals as goal

pub returns-then-eq : goal.returns-then-eq
returns-then-eq c = has_found c.args.key.now c.index-keys-place.result c.args.keys.now c.loop-place.place c.loop-place-test.true c.index-keys-place.is (sym c.eq.ensures ∙ c.if-eq.true) c.loop-place.invariant

pub loop-place-preserved : goal.loop-place-preserved
loop-place-preserved c = has_next c.args.key.now c.index-keys-place.result c.args.keys.now c.loop-place.place c.loop-place-test.true c.index-keys-place.is (sym c.eq.ensures ∙ c.if-eq.false) c.loop-place.invariant
