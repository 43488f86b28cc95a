use Rattle.std.proofs.Common.{◌≡◌, drop}
use Rattle.branch_check.specs.Numbers.{first_met}
use Rattle.branch_check.proofs.opens.first.Given as goal

abbrev pub invariant-loop-place : goal.invariant-loop-place
invariant-loop-place l = first_met l.by l.slots ≡ first_met l.by (drop l.place l.slots)
