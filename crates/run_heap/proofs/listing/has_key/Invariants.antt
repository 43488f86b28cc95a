use Rattle.std.proofs.Common.{◌≡◌, drop}
use Rattle.turk_base.specs.Steps.{has_key}
use Rattle.run_heap.proofs.listing.has_key.Given as goal

abbrev pub invariant-loop-place : goal.invariant-loop-place
invariant-loop-place l = has_key l.key (drop l.place l.keys) ≡ has_key l.key l.keys
