-- What stands first in the head of `for`.
use Rattle.std.specs.Prelude.{List}
use Rattle.js_tree.specs.declared.Expr as expr
use Rattle.js_tree.specs.declared.ForStart.{ForStart}
use Rattle.js_tree.specs.declared.ForStart.TheVariants as start
use Rattle.js_tree.specs.declared.Variable as variable
use Rattle.script_grammar.specs.Stmts as s

abbrev pub Nothing : ForStart
Nothing = start.NoStart

abbrev pub Expr : expr.Expr → ForStart
Expr e = start.ValueStart e

abbrev pub Var : List variable.Variable → ForStart
Var all = start.VarStart (s.Var all)
