-- what was added, with what the units that are left come to, is what all come to
use Rattle.std.proofs.Common.{◌≡◌, ◌++◌, ◌-◌, ◌≤◌, length, drop}
use Rattle.run_texts.specs.Texts.{escaped}
use Rattle.run_texts.proofs.quotes.push_escaped.Given as goal

abbrev pub invariant-loop-at : goal.invariant-loop-at
invariant-loop-at l = (l.text ++ escaped (drop l.at l.units) ≡ l.initial.text ++ escaped l.units) × (l.at ≤ length l.units)

abbrev pub decreases-loop-at : goal.decreases-loop-at
decreases-loop-at l = length l.units - l.at
