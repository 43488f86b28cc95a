-- The kinds of expression as expressions; a name is bound to nothing.
use Rattle.std.specs.Prelude.{List, Option}
use Rattle.js_tree.specs.declared.BinaryOperator.{BinaryOperator}
use Rattle.js_tree.specs.declared.ExprNode.TheVariants as node
use Rattle.js_tree.specs.declared.Expr as expr
use Rattle.js_tree.specs.declared.Field as field
use Rattle.js_tree.specs.declared.Fix.{Fix}
use Rattle.js_tree.specs.declared.Key as key
use Rattle.js_tree.specs.declared.Literal as literal
use Rattle.js_tree.specs.declared.Script as script
use Rattle.js_tree.specs.declared.Sign.{Sign}
use Rattle.js_tree.specs.declared.UnaryOperator.{UnaryOperator}
use Rattle.js_tree.specs.Trees.{Units, expr_of, unbound}

abbrev pub This : expr.Expr
This = expr_of (node.This)

abbrev pub Name : Units → expr.Expr
Name units = expr_of (node.Name (unbound units))

abbrev pub Literal : literal.Literal → expr.Expr
Literal x = expr_of (node.Literal x)

abbrev pub Array : List expr.Expr → expr.Expr
Array es = expr_of (node.Array es)

abbrev pub Object : List field.Field → expr.Expr
Object fs = expr_of (node.Object fs)

abbrev pub Function : Option Units → List Units → script.Script → expr.Expr
Function own names body = expr_of (node.Function own names body)

abbrev pub Member : expr.Expr → key.Key → expr.Expr
Member base k = expr_of (node.Member base k)

abbrev pub Call : expr.Expr → List expr.Expr → expr.Expr
Call e es = expr_of (node.Call e es)

abbrev pub New : expr.Expr → List expr.Expr → expr.Expr
New e es = expr_of (node.New e es)

abbrev pub Update : expr.Expr → Sign → Fix → expr.Expr
Update e sign fix = expr_of (node.Update e sign fix)

abbrev pub Delete : expr.Expr → key.Key → expr.Expr
Delete base k = expr_of (node.Delete base k)

abbrev pub Void : expr.Expr → expr.Expr
Void e = expr_of (node.Void e)

abbrev pub Typeof : expr.Expr → expr.Expr
Typeof e = expr_of (node.Typeof e)

abbrev pub Unary : UnaryOperator → expr.Expr → expr.Expr
Unary op e = expr_of (node.Unary op e)

abbrev pub Binary : BinaryOperator → expr.Expr → expr.Expr → expr.Expr
Binary op a b = expr_of (node.Binary op a b)

abbrev pub And : expr.Expr → expr.Expr → expr.Expr
And a b = expr_of (node.And a b)

abbrev pub Or : expr.Expr → expr.Expr → expr.Expr
Or a b = expr_of (node.Or a b)

abbrev pub Conditional : expr.Expr → expr.Expr → expr.Expr → expr.Expr
Conditional a b c = expr_of (node.Conditional a b c)

abbrev pub Assign : Option BinaryOperator → expr.Expr → expr.Expr → expr.Expr
Assign op a b = expr_of (node.Assign op a b)

abbrev pub Comma : expr.Expr → expr.Expr → expr.Expr
Comma a b = expr_of (node.Comma a b)

abbrev pub Print : List expr.Expr → expr.Expr
Print es = expr_of (node.Print es)

abbrev pub Post : expr.Expr → expr.Expr
Post e = expr_of (node.Post e)

abbrev pub Reply : expr.Expr → expr.Expr
Reply e = expr_of (node.Reply e)

abbrev pub Prompt : expr.Expr → expr.Expr
Prompt e = expr_of (node.Prompt e)

abbrev pub Random : expr.Expr → expr.Expr
Random e = expr_of (node.Random e)

abbrev pub Once : expr.Expr → expr.Expr
Once e = expr_of (node.Once e)

abbrev pub Fork : expr.Expr → expr.Expr
Fork e = expr_of (node.Fork e)

abbrev pub Join : expr.Expr
Join = expr_of (node.Join)

abbrev pub Crash : expr.Expr
Crash = expr_of (node.Crash)
