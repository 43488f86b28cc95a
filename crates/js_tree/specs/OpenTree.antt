-- A word for proofs over trees whose parts are variables: a line `unfolding opens_tree` opens one level of each type of a tree.
use Rattle.js_tree.specs.declared.ExprNode.{out-ExprNode}
use Rattle.js_tree.specs.declared.ExprNode.TheBlock.{shown-the_row-Expr-0, shown-the_row-Field-1, shown-the_row-Expr-2, shown-the_row-Stmt-3, shown-the_row-Stmt-4, shown-the_row-Variable-5, shown-the_row-Case-6, shown-the_row-Declaration-7}
use Rattle.js_tree.specs.declared.StmtNode.{out-StmtNode}
use Rattle.js_tree.specs.declared.Key.{out-Key}
use Rattle.js_tree.specs.declared.ForStart.{out-ForStart}
use Rattle.js_tree.specs.declared.ForTarget.{out-ForTarget}
use Rattle.js_tree.specs.declared.Variable.{out-Variable, roll-Variable}
use Rattle.js_tree.specs.declared.Case.{out-Case, roll-Case}
use Rattle.js_tree.specs.declared.Catch.{out-Catch, roll-Catch}
use Rattle.js_tree.specs.declared.Declaration.{out-Declaration, roll-Declaration}
use Rattle.js_tree.specs.declared.Script.{Script, out-Script, roll-Script}
use denote.Hole.Carrier.{out, roll, shown, hidden}

unfoldable pub opens_tree : Script → Script
unfolding out-ExprNode out-StmtNode out-Key out-ForStart out-ForTarget out-Variable roll-Variable out-Case roll-Case out-Catch roll-Catch out-Declaration roll-Declaration out-Script roll-Script shown-the_row-Expr-0 shown-the_row-Field-1 shown-the_row-Expr-2 shown-the_row-Stmt-3 shown-the_row-Stmt-4 shown-the_row-Variable-5 shown-the_row-Case-6 shown-the_row-Declaration-7 out roll shown hidden
opens_tree script = script
