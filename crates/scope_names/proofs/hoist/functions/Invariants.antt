use Rattle.std.proofs.Common.{◌≡◌, take}
use Rattle.std.specs.Prelude.{map}
use Rattle.js_tree.specs.Trees.{declared_name}
use Rattle.scope_names.specs.Gathered.{gathered}
use Rattle.scope_names.proofs.hoist.functions.Given as goal

abbrev pub invariant-loop-declaration : goal.invariant-loop-declaration
invariant-loop-declaration l = l.all ≡ gathered l.fn.names (map declared_name (take l.declaration-index l.declarations))
