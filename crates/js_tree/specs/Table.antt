-- The table of a script's functions: their codes, each before those inside it, in the order of the text but declarations first.
use Rattle.std.specs.Prelude.{ℕ, zero, suc, List, [], ◌∷◌, ◌++◌, Option, Some, None}
use Rattle.js_tree.specs.declared.ExprNode.TheOpen.{ExprNode-F, StmtNode-F, Key-F, ForStart-F, ForTarget-F}
use Rattle.js_tree.specs.declared.Key.{out-Key}
use Rattle.js_tree.specs.declared.Field.{out-Field}
use Rattle.js_tree.specs.declared.Variable.{out-Variable}
use Rattle.js_tree.specs.declared.Script.{Script}
use Rattle.js_tree.specs.declared.Case.{Case, out-Case}
use Rattle.js_tree.specs.declared.Catch.{out-Catch}
use Rattle.js_tree.specs.declared.ForStart.{out-ForStart}
use Rattle.js_tree.specs.declared.ForTarget.{out-ForTarget}
use Rattle.js_tree.specs.declared.Expr.{Expr}
use Rattle.js_tree.specs.declared.Stmt.{Stmt}
use Rattle.js_tree.specs.Trees.{Units, ExprLevel, StmtLevel, KeyLevel, StartLevel, TargetLevel, expr_level, stmt_level, declared_parameters, declared_body, functions_of, statements_of}
use Rattle.js_tree.specs.Calls.{Code}

abbrev pub Codes : Type 0
Codes = List Code

abbrev pub all_in : {A : Type 0} → (A → Codes) → List A → Codes
all_in f [] = []
all_in f (x ∷ xs) = f x ++ all_in f xs

abbrev pub if_there : {A : Type 0} → (A → Codes) → Option A → Codes
if_there f (Some x) = f x
if_there f None = []

module _ (expr : Expr → Codes) (stmt : Stmt → Codes) (body : List Units → Script → Codes) where
  abbrev pub in_key : KeyLevel → Codes
  in_key (Key-F.Fixed k) = []
  in_key (Key-F.Computed e) = expr e

  abbrev pub in_expr : ExprLevel → Codes
  in_expr (ExprNode-F.Array es) = all_in expr es
  in_expr (ExprNode-F.Object xs) = all_in (λ x. expr (out-Field x).value) xs
  in_expr (ExprNode-F.Function own parameters b) = body parameters b
  in_expr (ExprNode-F.Member b k) = expr b ++ in_key (out-Key k)
  in_expr (ExprNode-F.Call e es) = expr e ++ all_in expr es
  in_expr (ExprNode-F.New e es) = expr e ++ all_in expr es
  in_expr (ExprNode-F.Update e s f) = expr e
  in_expr (ExprNode-F.Delete b k) = expr b ++ in_key (out-Key k)
  in_expr (ExprNode-F.Void e) = expr e
  in_expr (ExprNode-F.Typeof e) = expr e
  in_expr (ExprNode-F.Unary o e) = expr e
  in_expr (ExprNode-F.Binary o a b) = expr a ++ expr b
  in_expr (ExprNode-F.And a b) = expr a ++ expr b
  in_expr (ExprNode-F.Or a b) = expr a ++ expr b
  in_expr (ExprNode-F.Conditional t a b) = expr t ++ expr a ++ expr b
  in_expr (ExprNode-F.Assign o t e) = expr t ++ expr e
  in_expr (ExprNode-F.Comma a b) = expr a ++ expr b
  in_expr (ExprNode-F.Print es) = all_in expr es
  in_expr (ExprNode-F.Post e) = expr e
  in_expr (ExprNode-F.Reply e) = expr e
  in_expr (ExprNode-F.Prompt e) = expr e
  in_expr (ExprNode-F.Random e) = expr e
  in_expr (ExprNode-F.Once e) = expr e
  in_expr (ExprNode-F.Fork e) = expr e
  in_expr node = []

  abbrev pub in_start : StartLevel → Codes
  in_start ForStart-F.NoStart = []
  in_start (ForStart-F.ValueStart e) = expr e
  in_start (ForStart-F.VarStart s) = stmt s

  abbrev pub in_target : TargetLevel → Codes
  in_target (ForTarget-F.TargetEach e) = expr e
  in_target (ForTarget-F.VarEach x) = []

  abbrev pub in_case : Case → Codes
  in_case c = if_there expr (out-Case c).test ++ all_in stmt (out-Case c).statements

  abbrev pub in_stmt : StmtLevel → Codes
  in_stmt (StmtNode-F.Block ss) = all_in stmt ss
  in_stmt (StmtNode-F.Var xs) = all_in (λ x. if_there expr (out-Variable x).value) xs
  in_stmt (StmtNode-F.Expression e) = expr e
  in_stmt (StmtNode-F.If e a b) = expr e ++ stmt a ++ if_there stmt b
  in_stmt (StmtNode-F.DoWhile s e) = stmt s ++ expr e
  in_stmt (StmtNode-F.While e s) = expr e ++ stmt s
  in_stmt (StmtNode-F.For begin test step s) = in_start (out-ForStart begin) ++ if_there expr test ++ if_there expr step ++ stmt s
  in_stmt (StmtNode-F.ForIn into e s) = in_target (out-ForTarget into) ++ expr e ++ stmt s
  in_stmt (StmtNode-F.Return e) = if_there expr e
  in_stmt (StmtNode-F.Switch e cases) = expr e ++ all_in in_case cases
  in_stmt (StmtNode-F.Throw e) = expr e
  in_stmt (StmtNode-F.Try s c f) = stmt s ++ if_there (λ c. stmt (out-Catch c).body) c ++ if_there stmt f
  in_stmt node = []

  abbrev pub in_script : Script → Codes
  in_script b = all_in (λ d. body (declared_parameters d) (declared_body d)) (functions_of b) ++ all_in stmt (statements_of b)

-- so many levels deep; a lawful script has at most 200
unfoldable mutual
  pub expr_codes : ℕ → Expr → Codes
  expr_codes zero e = []
  expr_codes (suc depth) e = in_expr (expr_codes depth) (stmt_codes depth) (body_codes depth) (expr_level e)

  pub stmt_codes : ℕ → Stmt → Codes
  stmt_codes zero s = []
  stmt_codes (suc depth) s = in_stmt (expr_codes depth) (stmt_codes depth) (body_codes depth) (stmt_level s)

  pub body_codes : ℕ → List Units → Script → Codes
  body_codes zero parameters b = []
  body_codes (suc depth) parameters b = record { parameters = parameters; body = b } ∷ in_script (expr_codes depth) (stmt_codes depth) (body_codes depth) b

unfoldable pub table_of : Script → Codes
table_of script = in_script (expr_codes 400) (stmt_codes 400) (body_codes 400) script
