use Rattle.std.proofs.Common.{◌≡◌, List, length}
use Rattle.js_tree.specs.declared.Expr.{Expr}
use Rattle.js_tree.specs.declared.Stmt.{Stmt}
use Rattle.js_tree.specs.Calls.{Code}
use Rattle.js_tree.specs.Pieces.{Here}
use Rattle.js_tree.specs.Statements.{default_of}
use Rattle.turk_base.specs.Prog.{Prog}
use Rattle.tree_rows.proofs.switches.default_from.Given as goal

abbrev pub invariant-loop-rest : goal.invariant-loop-rest
invariant-loop-rest l = (table : List Code) (expr : Here → Expr → Prog) (stmt : Here → Stmt → Prog) (here : Here) → default_of table expr stmt here l.cases ≡ default_of table expr stmt here l.rest

abbrev pub decreases-loop-rest : goal.decreases-loop-rest
decreases-loop-rest l = length l.rest
