use Rattle.js_tree.specs.Calls.{has}
use Rattle.js_tree.specs.Trees.{declared_name}
use Rattle.std.proofs.Common.{length, ◌≡◌}
use Rattle.std.specs.Prelude.{map}
use Rattle.call_steps.proofs.names.is_declared.Given as goal

abbrev pub invariant-loop-rest : goal.invariant-loop-rest
invariant-loop-rest l = has (map declared_name l.rest) l.name ≡ has (map declared_name l.fn.functions) l.name

abbrev pub decreases-loop-rest : goal.decreases-loop-rest
decreases-loop-rest l = length l.rest
