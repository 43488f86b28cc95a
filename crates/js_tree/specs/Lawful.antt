-- Lawful scripts: what the grammar promises of a tree, whichever way it was made. A text or a name has at most 1,048,576 units, and no node or declaration is more than 200 deep.
use Rattle.std.specs.Prelude.{◌≡◌, ℕ, zero, suc, ◌≤◌, Bool, true, false, ◌||◌, List, [], ◌∷◌, Option, Some, None, length, count_by, is_none}
use Rattle.js_tree.specs.declared.Literal.{Literal}
use Rattle.js_tree.specs.declared.Literal.TheVariants as literal
use Rattle.js_tree.specs.declared.ExprNode.TheOpen.{ExprNode-F, StmtNode-F, Key-F, ForStart-F, ForTarget-F}
use Rattle.js_tree.specs.declared.Key.{out-Key}
use Rattle.js_tree.specs.declared.Field.{Field, out-Field}
use Rattle.js_tree.specs.declared.Variable.{Variable, out-Variable}
use Rattle.js_tree.specs.declared.Declaration.{Declaration}
use Rattle.js_tree.specs.declared.Script.{Script}
use Rattle.js_tree.specs.declared.Case.{Case, out-Case}
use Rattle.js_tree.specs.declared.Catch.{Catch, out-Catch}
use Rattle.js_tree.specs.declared.ForStart.{out-ForStart}
use Rattle.js_tree.specs.declared.ForTarget.{out-ForTarget}
use Rattle.js_tree.specs.declared.Expr.{Expr}
use Rattle.js_tree.specs.declared.Stmt.{Stmt}
use Rattle.js_tree.specs.Trees.{Units, ExprLevel, StmtLevel, KeyLevel, StartLevel, TargetLevel, expr_level, stmt_level, declared_name, declared_parameters, declared_body, functions_of, statements_of}

-- how many levels of nodes and declarations a script has at most (own rule)
abbrev pub depth_limit : ℕ
depth_limit = 200

-- how many units a text or a name has at most (own rule)
abbrev pub unit_limit : ℕ
unit_limit = 1048576

-- What stands round a statement, up to the innermost function: a function, a loop, a switch (ECMA-262 3rd ed. 12.7 to 12.9).
pub record Around : Type 0 where
  pub in_function : Bool
  pub in_loop : Bool
  pub in_switch : Bool

abbrev pub around_script : Around
around_script = record { in_function = false; in_loop = false; in_switch = false }

abbrev pub around_body : Around
around_body = record { in_function = true; in_loop = false; in_switch = false }

abbrev pub loop_round : Around → Around
loop_round c = record c { in_loop = true }

abbrev pub switch_round : Around → Around
switch_round c = record c { in_switch = true }

abbrev pub Short : Units → Type 0
Short units = length units ≤ unit_limit

-- each item of a list is such
abbrev pub Each : {A : Type 0} → (A → Type 0) → List A → Type 0
Each P [] = Unit {0}
Each P (x ∷ xs) = P x × Each P xs

-- what stands is such
abbrev pub IfThere : {A : Type 0} → (A → Type 0) → Option A → Type 0
IfThere P (Some x) = P x
IfThere P None = Unit {0}

-- A target is a name or a member (ECMA-262 3rd ed. 11.13.1, 11.3, 12.6.4).
abbrev pub TargetNode : ExprLevel → Type 0
TargetNode (ExprNode-F.Name x) = Unit {0}
TargetNode (ExprNode-F.Member b k) = Unit {0}
TargetNode node = ⊥

abbrev pub Target : Expr → Type 0
Target e = TargetNode (expr_level e)

abbrev pub BlockNode : StmtLevel → Type 0
BlockNode (StmtNode-F.Block ss) = Unit {0}
BlockNode node = ⊥

abbrev pub IsBlock : Stmt → Type 0
IsBlock s = BlockNode (stmt_level s)

abbrev pub VarNode : StmtLevel → Type 0
VarNode (StmtNode-F.Var xs) = Unit {0}
VarNode node = ⊥

abbrev pub IsVar : Stmt → Type 0
IsVar s = VarNode (stmt_level s)

-- a try has a catch or a finally (ECMA-262 3rd ed. 12.14)
abbrev pub CatchOrFinally : Option Catch → Option Stmt → Type 0
CatchOrFinally None None = ⊥
CatchOrFinally (Some c) f = Unit {0}
CatchOrFinally None (Some s) = Unit {0}

abbrev pub is_default : Case → Bool
is_default x = is_none (out-Case x).test

-- a switch has at most one default (ECMA-262 3rd ed. 12.11)
abbrev pub AtMostOneDefault : List Case → Type 0
AtMostOneDefault cases = count_by is_default cases ≤ 1

-- what is said of one level, where these are said of the trees below it
module _ (expr : Expr → Type 0) (stmt : Around → Stmt → Type 0) (declared : Declaration → Type 0) where
  -- the declarations and statements of a script or a body
  abbrev pub LawfulElements : Around → Script → Type 0
  LawfulElements c b = Each declared (functions_of b) × Each (stmt c) (statements_of b)

  -- a function's body begins anew
  abbrev pub LawfulBody : Script → Type 0
  LawfulBody b = LawfulElements around_body b

  abbrev pub LawfulLiteral : Literal → Type 0
  LawfulLiteral (literal.Text units) = Short units
  LawfulLiteral _ = Unit {0}

  abbrev pub LawfulKey : KeyLevel → Type 0
  LawfulKey (Key-F.Fixed units) = Short units
  LawfulKey (Key-F.Computed e) = expr e

  abbrev pub LawfulField : Field → Type 0
  LawfulField x = Short (out-Field x).key × expr (out-Field x).value

  abbrev pub LawfulExpr : ExprLevel → Type 0
  LawfulExpr ExprNode-F.This = Unit {0}
  LawfulExpr (ExprNode-F.Name x) = Short x.name
  LawfulExpr (ExprNode-F.Literal x) = LawfulLiteral x
  LawfulExpr (ExprNode-F.Array es) = Each expr es
  LawfulExpr (ExprNode-F.Object xs) = Each LawfulField xs
  LawfulExpr (ExprNode-F.Function own parameters b) = IfThere Short own × Each Short parameters × LawfulBody b
  LawfulExpr (ExprNode-F.Member b k) = expr b × LawfulKey (out-Key k)
  LawfulExpr (ExprNode-F.Call e es) = expr e × Each expr es
  LawfulExpr (ExprNode-F.New e es) = expr e × Each expr es
  LawfulExpr (ExprNode-F.Update e s f) = Target e × expr e
  LawfulExpr (ExprNode-F.Delete b k) = expr b × LawfulKey (out-Key k)
  LawfulExpr (ExprNode-F.Void e) = expr e
  LawfulExpr (ExprNode-F.Typeof e) = expr e
  LawfulExpr (ExprNode-F.Unary o e) = expr e
  LawfulExpr (ExprNode-F.Binary o a b) = expr a × expr b
  LawfulExpr (ExprNode-F.And a b) = expr a × expr b
  LawfulExpr (ExprNode-F.Or a b) = expr a × expr b
  LawfulExpr (ExprNode-F.Conditional t a b) = expr t × expr a × expr b
  LawfulExpr (ExprNode-F.Assign o t e) = Target t × expr t × expr e
  LawfulExpr (ExprNode-F.Comma a b) = expr a × expr b
  LawfulExpr (ExprNode-F.Print es) = Each expr es
  LawfulExpr (ExprNode-F.Post e) = expr e
  LawfulExpr (ExprNode-F.Reply e) = expr e
  LawfulExpr (ExprNode-F.Prompt e) = expr e
  LawfulExpr (ExprNode-F.Random e) = expr e
  LawfulExpr (ExprNode-F.Once e) = expr e
  LawfulExpr (ExprNode-F.Fork e) = expr e
  LawfulExpr ExprNode-F.Join = Unit {0}
  LawfulExpr ExprNode-F.Crash = Unit {0}

  abbrev pub LawfulVariable : Variable → Type 0
  LawfulVariable x = Short (out-Variable x).named.name × IfThere expr (out-Variable x).value

  abbrev pub LawfulStart : StartLevel → Around → Type 0
  LawfulStart ForStart-F.NoStart c = Unit {0}
  LawfulStart (ForStart-F.ValueStart e) c = expr e
  LawfulStart (ForStart-F.VarStart s) c = IsVar s × stmt c s

  abbrev pub LawfulTarget : TargetLevel → Type 0
  LawfulTarget (ForTarget-F.TargetEach e) = Target e × expr e
  LawfulTarget (ForTarget-F.VarEach x) = Short x.name

  abbrev pub LawfulCase : Around → Case → Type 0
  LawfulCase c x = IfThere expr (out-Case x).test × Each (stmt c) (out-Case x).statements

  abbrev pub LawfulCatch : Around → Catch → Type 0
  LawfulCatch c x = Short (out-Catch x).name × IsBlock (out-Catch x).body × stmt c (out-Catch x).body

  abbrev pub LawfulStmt : Around → StmtLevel → Type 0
  LawfulStmt c (StmtNode-F.Block ss) = Each (stmt c) ss
  LawfulStmt c (StmtNode-F.Var xs) = Each LawfulVariable xs
  LawfulStmt c StmtNode-F.Empty = Unit {0}
  LawfulStmt c (StmtNode-F.Expression e) = expr e
  LawfulStmt c (StmtNode-F.If e a b) = expr e × stmt c a × IfThere (stmt c) b
  LawfulStmt c (StmtNode-F.DoWhile s e) = stmt (loop_round c) s × expr e
  LawfulStmt c (StmtNode-F.While e s) = expr e × stmt (loop_round c) s
  LawfulStmt c (StmtNode-F.For begin test step s) = LawfulStart (out-ForStart begin) c × IfThere expr test × IfThere expr step × stmt (loop_round c) s
  LawfulStmt c (StmtNode-F.ForIn into e s) = LawfulTarget (out-ForTarget into) × expr e × stmt (loop_round c) s
  LawfulStmt c StmtNode-F.Continue = c.in_loop ≡ true
  LawfulStmt c StmtNode-F.Break = c.in_loop || c.in_switch ≡ true
  LawfulStmt c (StmtNode-F.Return e) = (c.in_function ≡ true) × IfThere expr e
  LawfulStmt c (StmtNode-F.Switch e cases) = expr e × AtMostOneDefault cases × Each (LawfulCase (switch_round c)) cases
  LawfulStmt c (StmtNode-F.Throw e) = expr e
  LawfulStmt c (StmtNode-F.Try s caught last) =
      IsBlock s × stmt c s × CatchOrFinally caught last × IfThere (LawfulCatch c) caught × IfThere (λ x. IsBlock x × stmt c x) last

  abbrev pub LawfulDeclaration : Declaration → Type 0
  LawfulDeclaration d = Short (declared_name d) × Each Short (declared_parameters d) × LawfulBody (declared_body d)

-- such trees, with at most so many levels of nodes and declarations
unfoldable mutual
  pub ExprWithin : ℕ → Expr → Type 0
  ExprWithin zero e = ⊥
  ExprWithin (suc levels) e = LawfulExpr (ExprWithin levels) (StmtWithin levels) (DeclarationWithin levels) (expr_level e)

  pub StmtWithin : ℕ → Around → Stmt → Type 0
  StmtWithin zero c s = ⊥
  StmtWithin (suc levels) c s = LawfulStmt (ExprWithin levels) (StmtWithin levels) (DeclarationWithin levels) c (stmt_level s)

  pub DeclarationWithin : ℕ → Declaration → Type 0
  DeclarationWithin zero d = ⊥
  DeclarationWithin (suc levels) d = LawfulDeclaration (ExprWithin levels) (StmtWithin levels) (DeclarationWithin levels) d

-- A script that the grammar reads has this property; binding its names keeps it.
unfoldable pub LawfulScript : Script → Type 0
LawfulScript script =
    LawfulElements (ExprWithin depth_limit) (StmtWithin depth_limit) (DeclarationWithin depth_limit) around_script script
