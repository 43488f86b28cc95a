-- A script with its bindings, numbers and marks of own names taken away, as the parser makes it. So binding changes nothing else where two scripts are the same without these.
use Rattle.std.specs.Prelude.{ℕ, zero, suc, map}
use Rattle.std.specs.Option.{option_map}
use Rattle.js_tree.specs.declared.Named.{Named}
use Rattle.js_tree.specs.declared.ExprNode.{ExprNode}
use Rattle.js_tree.specs.declared.ExprNode.TheOpen.{ExprNode-F, StmtNode-F, Key-F, ForStart-F, ForTarget-F}
use Rattle.js_tree.specs.declared.ExprNode.TheVariants as e
use Rattle.js_tree.specs.declared.StmtNode.{StmtNode}
use Rattle.js_tree.specs.declared.StmtNode.TheVariants as s
use Rattle.js_tree.specs.declared.Key.{Key, out-Key}
use Rattle.js_tree.specs.declared.Key.TheVariants as key
use Rattle.js_tree.specs.declared.ForStart.{ForStart, out-ForStart}
use Rattle.js_tree.specs.declared.ForStart.TheVariants as start
use Rattle.js_tree.specs.declared.ForTarget.{ForTarget, out-ForTarget}
use Rattle.js_tree.specs.declared.ForTarget.TheVariants as target
use Rattle.js_tree.specs.declared.Field.{Field, out-Field}
use Rattle.js_tree.specs.declared.Variable.{Variable, out-Variable}
use Rattle.js_tree.specs.declared.Declaration.{Declaration}
use Rattle.js_tree.specs.declared.Script.{Script}
use Rattle.js_tree.specs.declared.Case.{Case, out-Case}
use Rattle.js_tree.specs.declared.Catch.{Catch, out-Catch}
use Rattle.js_tree.specs.declared.Expr.{Expr}
use Rattle.js_tree.specs.declared.Stmt.{Stmt}
use Rattle.js_tree.specs.Trees.{ExprLevel, StmtLevel, KeyLevel, StartLevel, TargetLevel, expr_level, stmt_level, expr_of, stmt_of, unbound, field_of, variable_of, case_of, catch_of, declaration_of, script_of, declared_name, declared_parameters, declared_body, functions_of, statements_of}
use Rattle.js_tree.specs.Lawful.{depth_limit}

abbrev pub bare_named : Named → Named
bare_named x = unbound x.name

module _ (expr : Expr → Expr) (stmt : Stmt → Stmt) (declaration : Declaration → Declaration) where
  abbrev pub bare_body : Script → Script
  bare_body b = script_of (map declaration (functions_of b)) (map stmt (statements_of b))

  abbrev pub bare_declaration : Declaration → Declaration
  bare_declaration d = declaration_of (declared_name d) (declared_parameters d) (bare_body (declared_body d))

  abbrev pub bare_key : KeyLevel → Key
  bare_key (Key-F.Fixed units) = key.Fixed units
  bare_key (Key-F.Computed x) = key.Computed (expr x)

  abbrev pub bare_field : Field → Field
  bare_field x = field_of (out-Field x).key (expr (out-Field x).value)

  abbrev pub bare_expr : ExprLevel → ExprNode
  bare_expr ExprNode-F.This = e.This
  bare_expr (ExprNode-F.Name x) = e.Name (bare_named x)
  bare_expr (ExprNode-F.Literal x) = e.Literal x
  bare_expr (ExprNode-F.Array xs) = e.Array (map expr xs)
  bare_expr (ExprNode-F.Object xs) = e.Object (map bare_field xs)
  bare_expr (ExprNode-F.Function own parameters b) = e.Function own parameters (bare_body b)
  bare_expr (ExprNode-F.Member b k) = e.Member (expr b) (bare_key (out-Key k))
  bare_expr (ExprNode-F.Call x xs) = e.Call (expr x) (map expr xs)
  bare_expr (ExprNode-F.New x xs) = e.New (expr x) (map expr xs)
  bare_expr (ExprNode-F.Update x sign fix) = e.Update (expr x) sign fix
  bare_expr (ExprNode-F.Delete b k) = e.Delete (expr b) (bare_key (out-Key k))
  bare_expr (ExprNode-F.Void x) = e.Void (expr x)
  bare_expr (ExprNode-F.Typeof x) = e.Typeof (expr x)
  bare_expr (ExprNode-F.Unary o x) = e.Unary o (expr x)
  bare_expr (ExprNode-F.Binary o a b) = e.Binary o (expr a) (expr b)
  bare_expr (ExprNode-F.And a b) = e.And (expr a) (expr b)
  bare_expr (ExprNode-F.Or a b) = e.Or (expr a) (expr b)
  bare_expr (ExprNode-F.Conditional t a b) = e.Conditional (expr t) (expr a) (expr b)
  bare_expr (ExprNode-F.Assign o t x) = e.Assign o (expr t) (expr x)
  bare_expr (ExprNode-F.Comma a b) = e.Comma (expr a) (expr b)
  bare_expr (ExprNode-F.Print xs) = e.Print (map expr xs)
  bare_expr (ExprNode-F.Post x) = e.Post (expr x)
  bare_expr (ExprNode-F.Reply x) = e.Reply (expr x)
  bare_expr (ExprNode-F.Prompt x) = e.Prompt (expr x)
  bare_expr (ExprNode-F.Random x) = e.Random (expr x)
  bare_expr (ExprNode-F.Once x) = e.Once (expr x)
  bare_expr (ExprNode-F.Fork x) = e.Fork (expr x)
  bare_expr ExprNode-F.Join = e.Join
  bare_expr ExprNode-F.Crash = e.Crash

  abbrev pub bare_variable : Variable → Variable
  bare_variable x = variable_of (bare_named (out-Variable x).named) (option_map expr (out-Variable x).value)

  abbrev pub bare_start : StartLevel → ForStart
  bare_start ForStart-F.NoStart = start.NoStart
  bare_start (ForStart-F.ValueStart x) = start.ValueStart (expr x)
  bare_start (ForStart-F.VarStart x) = start.VarStart (stmt x)

  abbrev pub bare_target : TargetLevel → ForTarget
  bare_target (ForTarget-F.TargetEach x) = target.TargetEach (expr x)
  bare_target (ForTarget-F.VarEach x) = target.VarEach (bare_named x)

  abbrev pub bare_case : Case → Case
  bare_case x = case_of (option_map expr (out-Case x).test) (map stmt (out-Case x).statements)

  abbrev pub bare_catch : Catch → Catch
  bare_catch x = catch_of (out-Catch x).name (stmt (out-Catch x).body)

  abbrev pub bare_stmt : StmtLevel → StmtNode
  bare_stmt (StmtNode-F.Block xs) = s.Block (map stmt xs)
  bare_stmt (StmtNode-F.Var xs) = s.Var (map bare_variable xs)
  bare_stmt StmtNode-F.Empty = s.Empty
  bare_stmt (StmtNode-F.Expression x) = s.Expression (expr x)
  bare_stmt (StmtNode-F.If x a b) = s.If (expr x) (stmt a) (option_map stmt b)
  bare_stmt (StmtNode-F.DoWhile a x) = s.DoWhile (stmt a) (expr x)
  bare_stmt (StmtNode-F.While x a) = s.While (expr x) (stmt a)
  bare_stmt (StmtNode-F.For begin test step a) = s.For (bare_start (out-ForStart begin)) (option_map expr test) (option_map expr step) (stmt a)
  bare_stmt (StmtNode-F.ForIn into x a) = s.ForIn (bare_target (out-ForTarget into)) (expr x) (stmt a)
  bare_stmt StmtNode-F.Continue = s.Continue
  bare_stmt StmtNode-F.Break = s.Break
  bare_stmt (StmtNode-F.Return x) = s.Return (option_map expr x)
  bare_stmt (StmtNode-F.Switch x cases) = s.Switch (expr x) (map bare_case cases)
  bare_stmt (StmtNode-F.Throw x) = s.Throw (expr x)
  bare_stmt (StmtNode-F.Try a caught last) = s.Try (stmt a) (option_map bare_catch caught) (option_map stmt last)

-- to so many levels; a lawful script has no more than its limit
unfoldable mutual
  pub expr_bare : ℕ → Expr → Expr
  expr_bare zero x = x
  expr_bare (suc levels) x = expr_of (bare_expr (expr_bare levels) (stmt_bare levels) (declaration_bare levels) (expr_level x))

  pub stmt_bare : ℕ → Stmt → Stmt
  stmt_bare zero x = x
  stmt_bare (suc levels) x = stmt_of (bare_stmt (expr_bare levels) (stmt_bare levels) (declaration_bare levels) (stmt_level x))

  pub declaration_bare : ℕ → Declaration → Declaration
  declaration_bare zero d = d
  declaration_bare (suc levels) d = bare_declaration (expr_bare levels) (stmt_bare levels) (declaration_bare levels) d

unfoldable pub bare : Script → Script
bare script = bare_body (expr_bare depth_limit) (stmt_bare depth_limit) (declaration_bare depth_limit) script
