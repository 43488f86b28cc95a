-- The deletion of a member.
use Rattle.std.specs.Prelude.{Option, Some, None}
use Rattle.js_tree.specs.declared.Expr.{Expr}
use Rattle.js_tree.specs.declared.ExprNode.TheOpen.{ExprNode-F}
use Rattle.js_tree.specs.declared.ExprNode.TheVariants as node
use Rattle.js_tree.specs.Trees.{ExprLevel, expr_of}

-- what deletes a member; nothing else is deleted
abbrev pub delete_of : ExprLevel → Option Expr
delete_of (ExprNode-F.Member base key) = Some (expr_of (node.Delete base key))
delete_of _ = None
