use Rattle.std.proofs.Common.{◌≡◌, take, ◌++◌}
use Rattle.std.specs.Prelude.{map}
use Rattle.js_tree.specs.declared.Variable.{out-Variable}
use Rattle.code_table.proofs.hoist.named.Given as goal

abbrev pub invariant-loop-variable : goal.invariant-loop-variable
invariant-loop-variable l = l.all.items ≡ l.fn.names.items ++ map (λ x. (out-Variable x).named.name) (take l.variable-index l.variables)
