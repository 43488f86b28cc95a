use Rattle.std.proofs.Common.{◌≡◌, ◌+◌, length}
use Rattle.turk_base.specs.BuiltIns as spec
use Rattle.builtin_calls.proofs.texts.place_from.Given as goal

abbrev pub invariant-loop-rest : goal.invariant-loop-rest
invariant-loop-rest l = record {
  same : spec.place_from l.part l.rest l.at ≡ spec.place_from l.part l.text l.place;
  fits : l.at + length l.rest ≡ l.place + length l.text;
}

abbrev pub decreases-loop-rest : goal.decreases-loop-rest
decreases-loop-rest l = length l.rest
