use Rattle.js_tree.specs.Calls.{has}
use Rattle.std.proofs.Common.{length, ◌≡◌}
use Rattle.call_steps.proofs.names.is_among.Given as goal

abbrev pub invariant-loop-rest : goal.invariant-loop-rest
invariant-loop-rest l = has l.rest l.name ≡ has l.fn.names l.name

abbrev pub decreases-loop-rest : goal.decreases-loop-rest
decreases-loop-rest l = length l.rest
