use Rattle.std.proofs.Common.{◌≡◌}
use Rattle.branch_check.specs.Steps.{Leads}
use Rattle.branch_check.proofs.Pairs.{joined_first}
use Rattle.branch_check.proofs.opens.shorten.Given as goal

abbrev pub invariant-loop-place : goal.invariant-loop-place
invariant-loop-place l = (l.opens.slots ≡ joined_first l.scope l.place l.initial.opens.slots) × Leads l.initial.opens l.opens
