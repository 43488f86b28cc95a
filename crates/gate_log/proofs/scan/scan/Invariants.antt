use Rattle.std.proofs.Common.{length, ◌-◌}
use Rattle.gate_log.proofs.Blocks.{Grown}
use Rattle.gate_log.proofs.scan.scan.Given as goal

abbrev pub invariant-loop-at : goal.invariant-loop-at
invariant-loop-at l = Grown l.bytes l.found.items l.at

abbrev pub decreases-loop-at : goal.decreases-loop-at
decreases-loop-at l = length l.bytes - l.at
