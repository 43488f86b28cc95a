use Rattle.std.proofs.Common.{◌≡◌, take}
use Rattle.std.specs.Prelude.{map}
use Rattle.js_tree.specs.declared.Variable.{out-Variable}
use Rattle.scope_names.specs.Gathered.{gathered}
use Rattle.scope_names.proofs.hoist.named.Given as goal

abbrev pub invariant-loop-variable : goal.invariant-loop-variable
invariant-loop-variable l = l.all ≡ gathered l.fn.names (map (λ x. (out-Variable x).named.name) (take l.variable-index l.variables))
