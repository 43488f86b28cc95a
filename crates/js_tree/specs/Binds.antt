-- Which declaration each name of a script has, and the numbers of its functions (ECMA-262 3rd ed.; sections in numbers).
use Rattle.std.specs.Prelude.{◌≡◌, ℕ, zero, suc, ◌<◌, Bool, true, false, ◌||◌, List, [], ◌∷◌, ◌++◌, map, slice_get, Option, Some, None}
use Rattle.js_tree.specs.declared.Binding.{Binding}
use Rattle.js_tree.specs.declared.Binding.TheVariants as binding
use Rattle.js_tree.specs.declared.Named.{Named}
use Rattle.js_tree.specs.declared.ExprNode.TheOpen.{ExprNode-F, StmtNode-F, Key-F, ForStart-F, ForTarget-F}
use Rattle.js_tree.specs.declared.Key.{out-Key}
use Rattle.js_tree.specs.declared.Field.{Field, out-Field}
use Rattle.js_tree.specs.declared.Variable.{Variable, out-Variable}
use Rattle.js_tree.specs.declared.Declaration.{Declaration}
use Rattle.js_tree.specs.declared.Script.{Script}
use Rattle.js_tree.specs.declared.Case.{Case, out-Case}
use Rattle.js_tree.specs.declared.Catch.{Catch, out-Catch}
use Rattle.js_tree.specs.declared.ForStart.{out-ForStart}
use Rattle.js_tree.specs.declared.ForTarget.{out-ForTarget}
use Rattle.js_tree.specs.declared.Expr.{Expr}
use Rattle.js_tree.specs.declared.Stmt.{Stmt}
use Rattle.turk_base.specs.Names.{Units}
use Rattle.turk_base.specs.Errors.{is_key}
use Rattle.js_tree.specs.Trees.{ExprLevel, StmtLevel, KeyLevel, StartLevel, TargetLevel, expr_level, stmt_level, declared_name, declared_parameters, declared_body, number_of, functions_of, statements_of}
use Rattle.js_tree.specs.Calls.{Code, has, variables}
use Rattle.js_tree.specs.Lawful.{depth_limit, Each, IfThere}
use Rattle.js_tree.specs.Table.{table_of}

-- ---- frames

-- What a frame declares, and whether it holds the own name of a function expression, where writing does nothing (13).
pub record FrameNames : Type 0 where
  pub names : List Units
  pub own : Bool

-- the frames round a place, the innermost first (10.1.4)
abbrev pub Frames : Type 0
Frames = List FrameNames

-- the frame of a function: parameters, functions, variables (10.1.3). That of a script has no parameters
abbrev pub frame_of : List Units → Script → FrameNames
frame_of parameters b = record { names = parameters ++ (map declared_name (functions_of b) ++ variables (statements_of b)); own = false }

-- 12.14
abbrev pub catch_frame : Units → FrameNames
catch_frame name = record { names = name ∷ []; own = false }

-- 13
abbrev pub own_frame : Units → FrameNames
own_frame name = record { names = name ∷ []; own = true }

-- the frames round a function expression, with that of its own name
abbrev pub with_own : Option Units → Frames → Frames
with_own None frames = frames
with_own (Some name) frames = own_frame name ∷ frames

-- ---- the declaration of a name (10.1.4)

-- The frame so many out declares the name, and none within it does.
pub record Nearest (frames : Frames) (name : Units) (out : ℕ) (own : Bool) : Type 0 where
  pub frame : FrameNames
  pub stands : slice_get frames out ≡ Some frame
  pub declared : has frame.names name ≡ true
  pub marked : own ≡ frame.own
  pub first : (k : ℕ) (f : FrameNames) → k < out → slice_get frames k ≡ Some f → has f.names name ≡ false

-- No frame declares the name.
abbrev pub Undeclared : Frames → Units → Type 0
Undeclared frames name = (k : ℕ) (f : FrameNames) → slice_get frames k ≡ Some f → has f.names name ≡ false

-- the names that are there without a declaration (15.1, 15.11.6)
abbrev pub is_built_in : Units → Bool
is_built_in name = is_key "undefined" name || (is_key "Error" name || (is_key "TypeError" name || (is_key "ReferenceError" name || is_key "String" name)))

abbrev pub BindsTo : Frames → Units → Bool → Binding → Type 0
BindsTo frames name own (binding.Out out) = Nearest frames name out own
BindsTo frames name own binding.BuiltIn = Undeclared frames name × (is_built_in name ≡ true) × (own ≡ false)
BindsTo frames name own binding.Nothing = Undeclared frames name × (is_built_in name ≡ false) × (own ≡ false)

-- A name that stands within these frames carries the place of its declaration.
abbrev pub BoundName : Frames → Named → Type 0
BoundName frames x = BindsTo frames x.name x.own x.binding

-- A function's number is its place in the table of functions.
abbrev pub IsPlaced : List Code → List Units → Script → Type 0
IsPlaced table parameters b = slice_get table (number_of b) ≡ Some (record { parameters = parameters; body = b })

-- what is said of one level, where these are said of the trees below it
module _ (table : List Code) (expr : Frames → Expr → Type 0) (stmt : Frames → Stmt → Type 0) (declaration : Frames → Declaration → Type 0) where
  -- the declarations and statements of a script or a function, within its frame
  abbrev pub BoundElements : Frames → Script → Type 0
  BoundElements frames b = Each (declaration frames) (functions_of b) × Each (stmt frames) (statements_of b)

  abbrev pub BoundFunction : Frames → List Units → Script → Type 0
  BoundFunction frames parameters b = IsPlaced table parameters b × BoundElements (frame_of parameters b ∷ frames) b

  abbrev pub BoundDeclaration : Frames → Declaration → Type 0
  BoundDeclaration frames d = BoundFunction frames (declared_parameters d) (declared_body d)

  abbrev pub BoundKey : Frames → KeyLevel → Type 0
  BoundKey frames (Key-F.Fixed units) = Unit {0}
  BoundKey frames (Key-F.Computed e) = expr frames e

  abbrev pub BoundField : Frames → Field → Type 0
  BoundField frames x = expr frames (out-Field x).value

  abbrev pub BoundExpr : Frames → ExprLevel → Type 0
  BoundExpr frames ExprNode-F.This = Unit {0}
  BoundExpr frames (ExprNode-F.Name x) = BoundName frames x
  BoundExpr frames (ExprNode-F.Literal x) = Unit {0}
  BoundExpr frames (ExprNode-F.Array es) = Each (expr frames) es
  BoundExpr frames (ExprNode-F.Object xs) = Each (BoundField frames) xs
  BoundExpr frames (ExprNode-F.Function own parameters b) = BoundFunction (with_own own frames) parameters b
  BoundExpr frames (ExprNode-F.Member b k) = expr frames b × BoundKey frames (out-Key k)
  BoundExpr frames (ExprNode-F.Call e es) = expr frames e × Each (expr frames) es
  BoundExpr frames (ExprNode-F.New e es) = expr frames e × Each (expr frames) es
  BoundExpr frames (ExprNode-F.Update e s f) = expr frames e
  BoundExpr frames (ExprNode-F.Delete b k) = expr frames b × BoundKey frames (out-Key k)
  BoundExpr frames (ExprNode-F.Void e) = expr frames e
  BoundExpr frames (ExprNode-F.Typeof e) = expr frames e
  BoundExpr frames (ExprNode-F.Unary o e) = expr frames e
  BoundExpr frames (ExprNode-F.Binary o a b) = expr frames a × expr frames b
  BoundExpr frames (ExprNode-F.And a b) = expr frames a × expr frames b
  BoundExpr frames (ExprNode-F.Or a b) = expr frames a × expr frames b
  BoundExpr frames (ExprNode-F.Conditional t a b) = expr frames t × expr frames a × expr frames b
  BoundExpr frames (ExprNode-F.Assign o t e) = expr frames t × expr frames e
  BoundExpr frames (ExprNode-F.Comma a b) = expr frames a × expr frames b
  BoundExpr frames (ExprNode-F.Print es) = Each (expr frames) es
  BoundExpr frames (ExprNode-F.Post e) = expr frames e
  BoundExpr frames (ExprNode-F.Reply e) = expr frames e
  BoundExpr frames (ExprNode-F.Prompt e) = expr frames e
  BoundExpr frames (ExprNode-F.Random e) = expr frames e
  BoundExpr frames (ExprNode-F.Once e) = expr frames e
  BoundExpr frames (ExprNode-F.Fork e) = expr frames e
  BoundExpr frames ExprNode-F.Join = Unit {0}
  BoundExpr frames ExprNode-F.Crash = Unit {0}

  -- a variable's name is looked for from the place where it stands, so within a catch it may be the catch's (12.2)
  abbrev pub BoundVariable : Frames → Variable → Type 0
  BoundVariable frames x = BoundName frames (out-Variable x).named × IfThere (expr frames) (out-Variable x).value

  abbrev pub BoundStart : Frames → StartLevel → Type 0
  BoundStart frames ForStart-F.NoStart = Unit {0}
  BoundStart frames (ForStart-F.ValueStart e) = expr frames e
  BoundStart frames (ForStart-F.VarStart s) = stmt frames s

  abbrev pub BoundTarget : Frames → TargetLevel → Type 0
  BoundTarget frames (ForTarget-F.TargetEach e) = expr frames e
  BoundTarget frames (ForTarget-F.VarEach x) = BoundName frames x

  abbrev pub BoundCase : Frames → Case → Type 0
  BoundCase frames x = IfThere (expr frames) (out-Case x).test × Each (stmt frames) (out-Case x).statements

  -- a catch has a frame with its name (12.14)
  abbrev pub BoundCatch : Frames → Catch → Type 0
  BoundCatch frames x = stmt (catch_frame (out-Catch x).name ∷ frames) (out-Catch x).body

  abbrev pub BoundStmt : Frames → StmtLevel → Type 0
  BoundStmt frames (StmtNode-F.Block ss) = Each (stmt frames) ss
  BoundStmt frames (StmtNode-F.Var xs) = Each (BoundVariable frames) xs
  BoundStmt frames StmtNode-F.Empty = Unit {0}
  BoundStmt frames (StmtNode-F.Expression e) = expr frames e
  BoundStmt frames (StmtNode-F.If e a b) = expr frames e × stmt frames a × IfThere (stmt frames) b
  BoundStmt frames (StmtNode-F.DoWhile s e) = stmt frames s × expr frames e
  BoundStmt frames (StmtNode-F.While e s) = expr frames e × stmt frames s
  BoundStmt frames (StmtNode-F.For begin test step s) = BoundStart frames (out-ForStart begin) × IfThere (expr frames) test × IfThere (expr frames) step × stmt frames s
  BoundStmt frames (StmtNode-F.ForIn into e s) = BoundTarget frames (out-ForTarget into) × expr frames e × stmt frames s
  BoundStmt frames StmtNode-F.Continue = Unit {0}
  BoundStmt frames StmtNode-F.Break = Unit {0}
  BoundStmt frames (StmtNode-F.Return e) = IfThere (expr frames) e
  BoundStmt frames (StmtNode-F.Switch e cases) = expr frames e × Each (BoundCase frames) cases
  BoundStmt frames (StmtNode-F.Throw e) = expr frames e
  BoundStmt frames (StmtNode-F.Try s caught last) = stmt frames s × IfThere (BoundCatch frames) caught × IfThere (stmt frames) last

-- so many levels of nodes and declarations are looked at; a lawful script has no more than its limit
unfoldable mutual
  pub ExprBound : List Code → ℕ → Frames → Expr → Type 0
  ExprBound table zero frames e = Unit {0}
  ExprBound table (suc levels) frames e = BoundExpr table (ExprBound table levels) (StmtBound table levels) (DeclarationBound table levels) frames (expr_level e)

  pub StmtBound : List Code → ℕ → Frames → Stmt → Type 0
  StmtBound table zero frames s = Unit {0}
  StmtBound table (suc levels) frames s = BoundStmt table (ExprBound table levels) (StmtBound table levels) (DeclarationBound table levels) frames (stmt_level s)

  pub DeclarationBound : List Code → ℕ → Frames → Declaration → Type 0
  DeclarationBound table zero frames d = Unit {0}
  DeclarationBound table (suc levels) frames d = BoundDeclaration table (ExprBound table levels) (StmtBound table levels) (DeclarationBound table levels) frames d

-- Each name of the script has the place of its declaration, and each function the number of its place in the table of functions.
pub record IsBound (script : Script) : Type 0 where
  pub names : BoundElements (table_of script) (ExprBound (table_of script) depth_limit) (StmtBound (table_of script) depth_limit) (DeclarationBound (table_of script) depth_limit) (frame_of [] script ∷ []) script
  pub numbers : (k : ℕ) (code : Code) → slice_get (table_of script) k ≡ Some code → number_of code.body ≡ k
  pub top : number_of script ≡ 0
