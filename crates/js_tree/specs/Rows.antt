-- The meaning of a script: which row each kind of node has, the depth of nodes that are open, and the program of a script.
use Rattle.std.specs.Prelude.{ℕ, zero, suc, List, [], None}
use Rattle.js_tree.specs.declared.ExprNode.TheOpen.{ExprNode-F, StmtNode-F}
use Rattle.js_tree.specs.declared.Script.{Script}
use Rattle.js_tree.specs.declared.Expr.{Expr}
use Rattle.js_tree.specs.declared.Stmt.{Stmt}
use Rattle.js_tree.specs.Trees.{ExprLevel, StmtLevel, expr_level, stmt_level, statements_of}
use Rattle.turk_base.specs.Values.{Undefined, Frame, TooDeep, Break, Continue}
use Rattle.turk_base.specs.Prog.{Pay, Make, Prog, Done, Ask, ◌>>=◌, ask, nothing, refuse}
use Rattle.js_tree.specs.Pieces.{Here}
use Rattle.js_tree.specs.Calls.{Code, list, enter}
use Rattle.js_tree.specs.Expressions.{and_row, array_row, assign_row, binary_row, call_row, comma_row, conditional_row, delete_row, function_row, literal_row, member_row, name_row, new_row, object_row, or_row, this_row, typeof_row, unary_row, update_row, void_row}
use Rattle.js_tree.specs.ScriptCalls.{print_row, post_row, reply_row, prompt_row, random_row, join_row, crash_row, once_row, fork_row}
use Rattle.js_tree.specs.Statements.{block_row, do_while_row, expression_row, for_in_row, for_row, if_row, return_row, switch_row, throw_row, try_row, var_row, while_row}

-- ---- the 29 kinds of expressions and the 15 of statements

module _ (table : List Code) (expr : Here → Expr → Prog) (stmt : Here → Stmt → Prog) where
  unfoldable pub expr_row : Here → ExprLevel → Prog
  expr_row here ExprNode-F.This = this_row here
  expr_row here (ExprNode-F.Name x) = name_row here x
  expr_row here (ExprNode-F.Literal l) = literal_row l
  expr_row here (ExprNode-F.Array es) = array_row expr here es
  expr_row here (ExprNode-F.Object xs) = object_row expr here xs
  expr_row here (ExprNode-F.Function own parameters body) = function_row here own body
  expr_row here (ExprNode-F.Member b k) = member_row expr here b k
  expr_row here (ExprNode-F.Call e es) = call_row table expr stmt here e es
  expr_row here (ExprNode-F.New e es) = new_row table expr stmt here e es
  expr_row here (ExprNode-F.Update e s f) = update_row expr here e s f
  expr_row here (ExprNode-F.Delete b k) = delete_row expr here b k
  expr_row here (ExprNode-F.Void e) = void_row expr here e
  expr_row here (ExprNode-F.Typeof e) = typeof_row expr here e
  expr_row here (ExprNode-F.Unary o e) = unary_row expr here o e
  expr_row here (ExprNode-F.Binary o a b) = binary_row expr here o a b
  expr_row here (ExprNode-F.And a b) = and_row expr here a b
  expr_row here (ExprNode-F.Or a b) = or_row expr here a b
  expr_row here (ExprNode-F.Conditional t a b) = conditional_row expr here t a b
  expr_row here (ExprNode-F.Assign o t e) = assign_row expr here o t e
  expr_row here (ExprNode-F.Comma a b) = comma_row expr here a b
  expr_row here (ExprNode-F.Print es) = print_row expr here es
  expr_row here (ExprNode-F.Post e) = post_row expr here e
  expr_row here (ExprNode-F.Reply e) = reply_row expr here e
  expr_row here (ExprNode-F.Prompt e) = prompt_row expr here e
  expr_row here (ExprNode-F.Random e) = random_row expr here e
  expr_row here (ExprNode-F.Once e) = once_row table expr stmt here e
  expr_row here (ExprNode-F.Fork e) = fork_row table expr stmt here e
  expr_row here ExprNode-F.Join = join_row
  expr_row here ExprNode-F.Crash = crash_row

  unfoldable pub stmt_row : Here → StmtLevel → Prog
  stmt_row here (StmtNode-F.Block ss) = block_row table expr stmt here ss
  stmt_row here (StmtNode-F.Var xs) = var_row table expr stmt here xs
  stmt_row here StmtNode-F.Empty = nothing
  stmt_row here (StmtNode-F.Expression e) = expression_row table expr stmt here e
  stmt_row here (StmtNode-F.If e a b) = if_row table expr stmt here e a b
  stmt_row here (StmtNode-F.DoWhile s e) = do_while_row table expr stmt here s e
  stmt_row here (StmtNode-F.While e s) = while_row table expr stmt here e s
  stmt_row here (StmtNode-F.For begin test step s) = for_row table expr stmt here begin test step s
  stmt_row here (StmtNode-F.ForIn into e s) = for_in_row table expr stmt here into e s
  stmt_row here StmtNode-F.Continue = Done Continue
  stmt_row here StmtNode-F.Break = Done Break
  stmt_row here (StmtNode-F.Return e) = return_row table expr stmt here e
  stmt_row here (StmtNode-F.Switch e cases) = switch_row table expr stmt here e cases
  stmt_row here (StmtNode-F.Throw e) = throw_row table expr stmt here e
  stmt_row here (StmtNode-F.Try s c f) = try_row table expr stmt here s c f

-- ---- the tie: a node pays first, and is refused where 800 are open

abbrev pub node_limit : ℕ
node_limit = 800

unfoldable mutual
  pub expr_to : List Code → ℕ → Here → Expr → Prog
  expr_to table zero here e = Ask (Pay 1) (λ _. refuse TooDeep)
  expr_to table (suc left) here e = Ask (Pay 1) (λ _. expr_row table (expr_to table left) (stmt_to table left) here (expr_level e))

  pub stmt_to : List Code → ℕ → Here → Stmt → Prog
  stmt_to table zero here s = Ask (Pay 1) (λ _. refuse TooDeep)
  stmt_to table (suc left) here s = Ask (Pay 1) (λ _. stmt_row table (expr_to table left) (stmt_to table left) here (stmt_level s))

-- a whole script (14): the global frame, functions, variables, statements. Joining at its end is no part of it
unfoldable pub program : List Code → Script → Prog
program table script = do
  f ← ask (Make (Frame None))
  _ ← enter f [] script
  list table (stmt_to table node_limit) (record { frame = f; this = Undefined }) (statements_of script)
