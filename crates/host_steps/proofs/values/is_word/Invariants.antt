use Rattle.std.proofs.Common.{◌≡◌, length}
use Rattle.turk_base.specs.Conversions.{same_units}
use Rattle.host_steps.proofs.values.is_word.Given as goal

abbrev pub invariant-loop-bytes : goal.invariant-loop-bytes
invariant-loop-bytes l = same_units l.bytes l.units ≡ same_units l.fn.word l.fn.text

abbrev pub decreases-loop-bytes : goal.decreases-loop-bytes
decreases-loop-bytes l = length l.bytes
