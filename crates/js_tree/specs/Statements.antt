-- The rows of statements (ECMA-262 3rd ed. 12; sections in numbers). `expr` and `stmt` are the meanings of the nodes below.
use Rattle.std.specs.Prelude.{List, [], ◌∷◌, Option, Some, None, is_some}
use Rattle.js_tree.specs.declared.Named.{Named}
use Rattle.js_tree.specs.declared.ExprNode.TheOpen.{ForStart-F, ForTarget-F}
use Rattle.js_tree.specs.declared.Variable.{Variable, out-Variable}
use Rattle.js_tree.specs.declared.Case.{Case, out-Case}
use Rattle.js_tree.specs.declared.Catch.{Catch, out-Catch}
use Rattle.js_tree.specs.declared.ForStart.{ForStart, out-ForStart}
use Rattle.js_tree.specs.declared.ForTarget.{ForTarget, out-ForTarget}
use Rattle.js_tree.specs.declared.Expr.{Expr}
use Rattle.js_tree.specs.declared.Stmt.{Stmt}
use Rattle.js_tree.specs.Trees.{StartLevel, TargetLevel}
use Rattle.turk_base.specs.Names.{Units, Name}
use Rattle.turk_base.specs.Values.{Val, Undefined, Text, Object, Frame, Outcome, Break, Continue, Return, Throw}
use Rattle.turk_base.specs.Conversions.{truth}
use Rattle.turk_base.specs.Operators.{same}
use Rattle.turk_base.specs.Prog.{Make, Get, Keys, Declare, Prog, Done, Ask, Then, Always, Loop, ◌>>=◌, ask, nothing}
use Rattle.turk_base.specs.Errors.{choose}
use Rattle.js_tree.specs.Pieces.{Here, set_variable, has_properties, set_place}
use Rattle.js_tree.specs.Calls.{Code, list}
use Rattle.js_tree.specs.Expressions.{eval, place}

module _ (table : List Code) (expr : Here → Expr → Prog) (stmt : Here → Stmt → Prog) where
  -- 12.1
  unfoldable pub block_row : Here → List Stmt → Prog
  block_row here ss = list table stmt here ss

  -- 12.2
  unfoldable pub variable_row : Here → Named → Option Expr → (Unit {0} → Prog) → Prog
  variable_row here x None go = go tt
  variable_row here x (Some e) go = do
    v ← eval expr here e
    _ ← set_variable here x v
    go tt

  unfoldable pub var_row : Here → List Variable → Prog
  var_row here [] = nothing
  var_row here (x ∷ xs) = do
    _ ← variable_row here (out-Variable x).named (out-Variable x).value
    var_row here xs

  -- 12.4
  unfoldable pub expression_row : Here → Expr → Prog
  expression_row here e = do
    _ ← eval expr here e
    nothing

  -- 12.5
  abbrev pub optional : Here → Option Stmt → Prog
  optional here None = nothing
  optional here (Some s) = stmt here s

  unfoldable pub if_row : Here → Expr → Stmt → Option Stmt → Prog
  if_row here e a b = do
    v ← eval expr here e
    choose (truth v) (stmt here a) (optional here b)

  -- 12.6: a turn ends Normal where the loop goes on
  abbrev pub continued : Outcome → Prog
  continued Continue = nothing
  continued o = Done o

  abbrev pub body_of : Here → Stmt → Prog
  body_of here s = Always (stmt here s) continued

  abbrev pub left_loop : Outcome → Prog
  left_loop Break = nothing
  left_loop o = Done o

  abbrev pub looped : Prog → Prog
  looped turn = Always (Loop turn) left_loop

  abbrev pub tested : Here → Option Expr → Prog → Prog
  tested here None go = go
  tested here (Some e) go = do
    v ← eval expr here e
    choose (truth v) go (Done Break)

  -- 12.6.1
  unfoldable pub do_while_row : Here → Stmt → Expr → Prog
  do_while_row here s e = looped (Then (body_of here s) (λ _. tested here (Some e) nothing))

  -- 12.6.2
  unfoldable pub while_row : Here → Expr → Stmt → Prog
  while_row here e s = looped (tested here (Some e) (body_of here s))

  -- 12.6.3
  abbrev pub started : Here → StartLevel → (Val → Prog) → Prog
  started here ForStart-F.NoStart go = go Undefined
  started here (ForStart-F.ValueStart e) go = Then (expr here e) go
  started here (ForStart-F.VarStart s) go = Then (stmt here s) go

  abbrev pub stepped_by : Here → Option Expr → Prog
  stepped_by here None = nothing
  stepped_by here (Some e) = expression_row here e

  unfoldable pub for_row : Here → ForStart → Option Expr → Option Expr → Stmt → Prog
  for_row here begin test step s = do
    _ ← started here (out-ForStart begin)
    looped (tested here test (Then (body_of here s) (λ _. stepped_by here step)))

  -- 12.6.4: a key that the chain no longer has is skipped; the target is evaluated in each turn
  abbrev pub assigned : Here → TargetLevel → Units → (Unit {0} → Prog) → Prog
  assigned here (ForTarget-F.TargetEach e) key go = do
    p ← place expr here e
    _ ← set_place here p (Text key)
    go tt
  assigned here (ForTarget-F.VarEach x) key go = set_variable here x (Text key) go

  abbrev pub key_turn : Here → TargetLevel → Stmt → Units → Option Val → Prog
  key_turn here into s key None = nothing
  key_turn here into s key (Some v) = do
    _ ← assigned here into key
    body_of here s

  abbrev pub key_turns : Here → TargetLevel → Stmt → Name → List Units → Prog
  key_turns here into s c [] = nothing
  key_turns here into s c (key ∷ keys) = Then (Ask (Get c key) (λ found. key_turn here into s key found)) (λ _. key_turns here into s c keys)

  abbrev pub keys_of : Here → TargetLevel → Stmt → Val → Prog
  keys_of here into s (Object c) = do
    keys ← ask (Keys c)
    Always (key_turns here into s c keys) left_loop
  keys_of here into s v = nothing

  unfoldable pub for_in_row : Here → ForTarget → Expr → Stmt → Prog
  for_in_row here into e s = do
    v ← eval expr here e
    _ ← has_properties v
    keys_of here (out-ForTarget into) s v

  -- 12.9
  unfoldable pub return_row : Here → Option Expr → Prog
  return_row here None = Done (Return Undefined)
  return_row here (Some e) = do
    v ← eval expr here e
    Done (Return v)

  -- 12.11: tests in order, then the default; the statements of the clause and of those after it
  abbrev pub clauses : Here → List Case → Prog
  clauses here [] = nothing
  clauses here (c ∷ cs) = Then (list table stmt here (out-Case c).statements) (λ _. clauses here cs)

  abbrev pub default_of : Here → List Case → Prog
  default_of here [] = nothing
  default_of here (c ∷ cs) = choose (is_some (out-Case c).test) (default_of here cs) (clauses here (c ∷ cs))

  abbrev pub test_clause : Here → Val → Option Expr → Prog → Prog → Prog
  test_clause here v None this others = others
  test_clause here v (Some e) this others = Then (expr here e) (λ w. choose (same v w) this others)

  abbrev pub clause_for : Here → Val → List Case → List Case → Prog
  clause_for here v [] all = default_of here all
  clause_for here v (c ∷ cs) all = test_clause here v (out-Case c).test (clauses here (c ∷ cs)) (clause_for here v cs all)

  unfoldable pub switch_row : Here → Expr → List Case → Prog
  switch_row here e cases = do
    v ← eval expr here e
    Always (clause_for here v cases cases) left_loop

  -- 12.13
  unfoldable pub throw_row : Here → Expr → Prog
  throw_row here e = do
    v ← eval expr here e
    Done (Throw v)

  -- 12.14: a cut passes through; an abrupt finally replaces what the try ended with
  abbrev pub caught : Here → Catch → Outcome → Prog
  caught here c (Throw v) = do
    f ← ask (Make (Frame (Some here.frame)))
    _ ← ask (Declare f (out-Catch c).name v)
    stmt (record here { frame = f }) (out-Catch c).body
  caught here c o = Done o

  abbrev pub catching : Here → Prog → Option Catch → Prog
  catching here body None = body
  catching here body (Some c) = Always body (caught here c)

  abbrev pub finishing : Here → Prog → Option Stmt → Prog
  finishing here body None = body
  finishing here body (Some s) = Always body (λ o. Then (stmt here s) (λ _. Done o))

  unfoldable pub try_row : Here → Stmt → Option Catch → Option Stmt → Prog
  try_row here s c f = finishing here (catching here (stmt here s) c) f
