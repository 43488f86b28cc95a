-- How many names a script declares: parameters, functions, variables, the names of catches and the own names of function expressions, each once for its frame.
use Rattle.std.specs.Prelude.{ℕ, zero, suc, ◌+◌, List, [], ◌∷◌, sum_by, Option, Some, None, if◌then◌else◌}
use Rattle.js_tree.specs.declared.ExprNode.TheOpen.{ExprNode-F, StmtNode-F, Key-F, ForStart-F, ForTarget-F}
use Rattle.js_tree.specs.declared.Key.{out-Key}
use Rattle.js_tree.specs.declared.Field.{Field, out-Field}
use Rattle.js_tree.specs.declared.Variable.{Variable, out-Variable}
use Rattle.js_tree.specs.declared.Declaration.{Declaration}
use Rattle.js_tree.specs.declared.Script.{Script}
use Rattle.js_tree.specs.declared.Case.{Case, out-Case}
use Rattle.js_tree.specs.declared.Catch.{Catch, out-Catch}
use Rattle.js_tree.specs.declared.ForStart.{out-ForStart}
use Rattle.js_tree.specs.declared.ForTarget.{out-ForTarget}
use Rattle.js_tree.specs.declared.Expr.{Expr}
use Rattle.js_tree.specs.declared.Stmt.{Stmt}
use Rattle.turk_base.specs.Names.{Units}
use Rattle.js_tree.specs.Trees.{ExprLevel, StmtLevel, KeyLevel, StartLevel, TargetLevel, expr_level, stmt_level, declared_parameters, declared_body, functions_of, statements_of}
use Rattle.js_tree.specs.Calls.{has}
use Rattle.js_tree.specs.Lawful.{depth_limit}
use Rattle.js_tree.specs.Binds.{frame_of}

-- how many names a script may declare (own rule)
abbrev pub name_limit : ℕ
name_limit = 65535

-- how many different names stand in a list
abbrev pub distinct : List Units → ℕ
distinct [] = 0
distinct (x ∷ xs) = if has xs x then distinct xs else suc (distinct xs)

abbrev pub count_there : {A : Type 0} → (A → ℕ) → Option A → ℕ
count_there f (Some x) = f x
count_there f None = 0

module _ (expr : Expr → ℕ) (stmt : Stmt → ℕ) (declaration : Declaration → ℕ) where
  -- the names of the frame, and of the frames within
  abbrev pub count_function : List Units → Script → ℕ
  count_function parameters b = distinct (frame_of parameters b).names + (sum_by declaration (functions_of b) + sum_by stmt (statements_of b))

  abbrev pub count_declaration : Declaration → ℕ
  count_declaration d = count_function (declared_parameters d) (declared_body d)

  abbrev pub count_key : KeyLevel → ℕ
  count_key (Key-F.Fixed units) = 0
  count_key (Key-F.Computed e) = expr e

  abbrev pub count_field : Field → ℕ
  count_field x = expr (out-Field x).value

  abbrev pub count_expr : ExprLevel → ℕ
  count_expr ExprNode-F.This = 0
  count_expr (ExprNode-F.Name x) = 0
  count_expr (ExprNode-F.Literal x) = 0
  count_expr (ExprNode-F.Array es) = sum_by expr es
  count_expr (ExprNode-F.Object xs) = sum_by count_field xs
  count_expr (ExprNode-F.Function own parameters b) = count_there (λ _. 1) own + count_function parameters b
  count_expr (ExprNode-F.Member b k) = expr b + count_key (out-Key k)
  count_expr (ExprNode-F.Call e es) = expr e + sum_by expr es
  count_expr (ExprNode-F.New e es) = expr e + sum_by expr es
  count_expr (ExprNode-F.Update e s f) = expr e
  count_expr (ExprNode-F.Delete b k) = expr b + count_key (out-Key k)
  count_expr (ExprNode-F.Void e) = expr e
  count_expr (ExprNode-F.Typeof e) = expr e
  count_expr (ExprNode-F.Unary o e) = expr e
  count_expr (ExprNode-F.Binary o a b) = expr a + expr b
  count_expr (ExprNode-F.And a b) = expr a + expr b
  count_expr (ExprNode-F.Or a b) = expr a + expr b
  count_expr (ExprNode-F.Conditional t a b) = expr t + (expr a + expr b)
  count_expr (ExprNode-F.Assign o t e) = expr t + expr e
  count_expr (ExprNode-F.Comma a b) = expr a + expr b
  count_expr (ExprNode-F.Print es) = sum_by expr es
  count_expr (ExprNode-F.Post e) = expr e
  count_expr (ExprNode-F.Reply e) = expr e
  count_expr (ExprNode-F.Prompt e) = expr e
  count_expr (ExprNode-F.Random e) = expr e
  count_expr (ExprNode-F.Once e) = expr e
  count_expr (ExprNode-F.Fork e) = expr e
  count_expr ExprNode-F.Join = 0
  count_expr ExprNode-F.Crash = 0

  abbrev pub count_variable : Variable → ℕ
  count_variable x = count_there expr (out-Variable x).value

  abbrev pub count_start : StartLevel → ℕ
  count_start ForStart-F.NoStart = 0
  count_start (ForStart-F.ValueStart e) = expr e
  count_start (ForStart-F.VarStart s) = stmt s

  abbrev pub count_target : TargetLevel → ℕ
  count_target (ForTarget-F.TargetEach e) = expr e
  count_target (ForTarget-F.VarEach x) = 0

  abbrev pub count_case : Case → ℕ
  count_case x = count_there expr (out-Case x).test + sum_by stmt (out-Case x).statements

  abbrev pub count_catch : Catch → ℕ
  count_catch x = 1 + stmt (out-Catch x).body

  abbrev pub count_stmt : StmtLevel → ℕ
  count_stmt (StmtNode-F.Block ss) = sum_by stmt ss
  count_stmt (StmtNode-F.Var xs) = sum_by count_variable xs
  count_stmt StmtNode-F.Empty = 0
  count_stmt (StmtNode-F.Expression e) = expr e
  count_stmt (StmtNode-F.If e a b) = expr e + (stmt a + count_there stmt b)
  count_stmt (StmtNode-F.DoWhile s e) = stmt s + expr e
  count_stmt (StmtNode-F.While e s) = expr e + stmt s
  count_stmt (StmtNode-F.For begin test step s) = count_start (out-ForStart begin) + (count_there expr test + (count_there expr step + stmt s))
  count_stmt (StmtNode-F.ForIn into e s) = count_target (out-ForTarget into) + (expr e + stmt s)
  count_stmt StmtNode-F.Continue = 0
  count_stmt StmtNode-F.Break = 0
  count_stmt (StmtNode-F.Return e) = count_there expr e
  count_stmt (StmtNode-F.Switch e cases) = expr e + sum_by count_case cases
  count_stmt (StmtNode-F.Throw e) = expr e
  count_stmt (StmtNode-F.Try s caught last) = stmt s + (count_there count_catch caught + count_there stmt last)

-- to so many levels; a lawful script has no more than its limit
unfoldable mutual
  pub expr_count : ℕ → Expr → ℕ
  expr_count zero e = 0
  expr_count (suc levels) e = count_expr (expr_count levels) (stmt_count levels) (declaration_count levels) (expr_level e)

  pub stmt_count : ℕ → Stmt → ℕ
  stmt_count zero s = 0
  stmt_count (suc levels) s = count_stmt (expr_count levels) (stmt_count levels) (declaration_count levels) (stmt_level s)

  pub declaration_count : ℕ → Declaration → ℕ
  declaration_count zero d = 0
  declaration_count (suc levels) d = count_declaration (expr_count levels) (stmt_count levels) (declaration_count levels) d

unfoldable pub declared_count : Script → ℕ
declared_count script = count_function (expr_count depth_limit) (stmt_count depth_limit) (declaration_count depth_limit) [] script
