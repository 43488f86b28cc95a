-- What the head of `for` .. `in` sets.
use Rattle.js_tree.specs.declared.Expr as expr
use Rattle.js_tree.specs.declared.ForTarget.{ForTarget}
use Rattle.js_tree.specs.declared.ForTarget.TheVariants as target
use Rattle.js_tree.specs.Trees.{Units, unbound}

abbrev pub Target : expr.Expr → ForTarget
Target e = target.TargetEach e

abbrev pub Var : Units → ForTarget
Var name = target.VarEach (unbound name)
