use Rattle.std.proofs.Common.{◌≡◌, ◌++◌, [], length}
use Rattle.turk_base.specs.BuiltIns as spec
use Rattle.builtin_calls.proofs.texts.cut.Given as goal

abbrev pub invariant-loop-rest : goal.invariant-loop-rest
invariant-loop-rest l = l.pieces.items ++ spec.cut_at l.part l.skip l.piece l.rest ≡ spec.cut_at l.part 0 [] l.text

abbrev pub decreases-loop-rest : goal.decreases-loop-rest
decreases-loop-rest l = length l.rest
