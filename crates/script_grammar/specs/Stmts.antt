-- The kinds of statement as statements, and what stands in the head of `for`.
use Rattle.std.specs.Prelude.{List, Option}
use Rattle.js_tree.specs.declared.StmtNode.TheVariants as node
use Rattle.js_tree.specs.declared.Case as case
use Rattle.js_tree.specs.declared.Catch as catch
use Rattle.js_tree.specs.declared.Expr as expr
use Rattle.js_tree.specs.declared.ForStart.{ForStart}
use Rattle.js_tree.specs.declared.ForTarget.{ForTarget}
use Rattle.js_tree.specs.declared.Stmt.{Stmt}
use Rattle.js_tree.specs.declared.Variable as variable
use Rattle.js_tree.specs.Trees.{stmt_of}

abbrev pub Block : List Stmt → Stmt
Block all = stmt_of (node.Block all)

abbrev pub Var : List variable.Variable → Stmt
Var all = stmt_of (node.Var all)

abbrev pub Empty : Stmt
Empty = stmt_of (node.Empty)

abbrev pub Expression : expr.Expr → Stmt
Expression e = stmt_of (node.Expression e)

abbrev pub If : expr.Expr → Stmt → Option Stmt → Stmt
If test first second = stmt_of (node.If test first second)

abbrev pub DoWhile : Stmt → expr.Expr → Stmt
DoWhile body test = stmt_of (node.DoWhile body test)

abbrev pub While : expr.Expr → Stmt → Stmt
While test body = stmt_of (node.While test body)

abbrev pub For : ForStart → Option expr.Expr → Option expr.Expr → Stmt → Stmt
For start test step body = stmt_of (node.For start test step body)

abbrev pub ForIn : ForTarget → expr.Expr → Stmt → Stmt
ForIn target e body = stmt_of (node.ForIn target e body)

abbrev pub Continue : Stmt
Continue = stmt_of (node.Continue)

abbrev pub Break : Stmt
Break = stmt_of (node.Break)

abbrev pub Return : Option expr.Expr → Stmt
Return e = stmt_of (node.Return e)

abbrev pub Switch : expr.Expr → List case.Case → Stmt
Switch e cases = stmt_of (node.Switch e cases)

abbrev pub Throw : expr.Expr → Stmt
Throw e = stmt_of (node.Throw e)

abbrev pub Try : Stmt → Option catch.Catch → Option Stmt → Stmt
Try body caught last = stmt_of (node.Try body caught last)
