use Rattle.std.proofs.Common.{◌≤◌, length}
use Rattle.branch_check.specs.Steps.{Leads}
use Rattle.branch_check.proofs.steps.undo_from.Given as goal

-- what is still to be taken back leads to what there was at first
abbrev pub invariant-loop-opens : goal.invariant-loop-opens
invariant-loop-opens l = Leads l.opens l.initial.opens × (l.place ≤ length l.opens.steps.items)

abbrev pub decreases-loop-opens : goal.decreases-loop-opens
decreases-loop-opens l = length l.opens.steps.items
