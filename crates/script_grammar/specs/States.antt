-- Statements, declarations and scripts in the form of productions: a constructor for each.
use Rattle.std.specs.Prelude.{◌≡◌, ℕ, ◌+◌, max, Bool, true, false, not, ◌&&◌, ◌||◌, ◌⊎◌, List, [], ◌∷◌, Option, Some, None}
use Rattle.js_lexer.specs.declared.Mark.{Mark}
use Rattle.js_lexer.specs.declared.Mark.TheVariants as m
use Rattle.js_lexer.specs.declared.Reserved.TheVariants as w
use Rattle.js_tree.specs.declared.Expr as tree
use Rattle.js_tree.specs.declared.Variable as decl
use Rattle.js_tree.specs.declared.ForStart.{ForStart}
use Rattle.script_grammar.specs.Starts as from
use Rattle.script_grammar.specs.Targets as over
use Rattle.js_tree.specs.declared.Case as clause
use Rattle.js_tree.specs.declared.Stmt.{Stmt}
use Rattle.script_grammar.specs.Stmts as s
use Rattle.js_tree.specs.declared.Declaration as declaration
use Rattle.js_tree.specs.declared.Script as script
use Rattle.js_lexer.specs.declared.Token.{Token}
use Rattle.script_grammar.specs.Words.{Units, is, is_word, is_end, closes, stops, labels, name_of, kind_names}
use Rattle.script_grammar.specs.declared.classes.Name.TheVariants as ident
use Rattle.script_grammar.specs.declared.classes.Operand.{Operand}
use Rattle.script_grammar.specs.Rules.{Context}
use Rattle.js_tree.specs.Trees.{case_of, catch_of, declaration_of, script_of}
use Rattle.script_grammar.specs.Grammar.{target, decl_of, loop, switch, outer, is_name}
use Rattle.script_grammar.specs.Productions.{Reads}
use Rattle.script_grammar.specs.Productions.{Part as part}

-- A semicolon stands, or may be left out.
pub data Ended : List Token → List Token → Type 0 where
  semicolon : {t : Token} {rest : List Token} → is m.Semicolon t ≡ true → Ended (t ∷ rest) rest
  left_out : {t : Token} {us : List Token} → is m.Semicolon t ≡ false → closes t ≡ true → Ended (t ∷ us) (t ∷ us)

-- After `continue`, `break` and `return` only a semicolon on the same line belongs to the statement.
pub data Halted : List Token → List Token → Type 0 where
  semicolon_here : {t : Token} {rest : List Token} → is m.Semicolon t && not t.after_newline ≡ true → Halted (t ∷ rest) rest
  line_ends : {t : Token} {us : List Token} → is m.Semicolon t && not t.after_newline ≡ false → closes t ≡ true → Halted (t ∷ us) (t ∷ us)

pub data Part : Type 0 where
  Script : Part
  Elements : (in_function : Bool) → Part
  Declaration : Part
  Statements Statement : (c : Context) → Part
  Decls : (no_in : Bool) → Part
  Clauses : (c : Context) (default_stood : Bool) → Part
  -- an expression in parentheses
  Condition : Part
  -- statements in braces
  Block : (c : Context) → Part
  -- the first part of the head of `for`, and an expression or nothing before a mark
  First : Part
  Optional : (mark : Mark) → Part
  Finally : (c : Context) → Part

abbrev pub Of : Part → Type 0
Of Script = script.Script
Of (Elements in_function) = List declaration.Declaration × List Stmt
Of Declaration = declaration.Declaration
Of (Statements c) = List Stmt
Of (Statement c) = Stmt
Of (Decls no_in) = List decl.Variable
Of (Clauses c stood) = List clause.Case
Of Condition = tree.Expr
Of (Block c) = Stmt
Of First = ForStart
Of (Optional mark) = Option tree.Expr
Of (Finally c) = Stmt

pub data States (Body : List Token → script.Script → ℕ → List Token → Type 0) : (n : Part) → List Token → Of n → ℕ → List Token → Type 0 where
  -- Script : Element*
  a_script : {ts us : List Token} {t : Token} {all : List declaration.Declaration × List Stmt} {h : ℕ}
      → States Body (Elements false) ts all h (t ∷ us) → is_end t ≡ true → States Body Script ts (script_of all.0 all.1) h (t ∷ us)
  no_more : {f : Bool} {us : List Token} {t : Token} → stops t ≡ true → States Body (Elements f) (t ∷ us) ([], []) 0 (t ∷ us)
  declared : {f : Bool} {ts us rest : List Token} {x : declaration.Declaration} {all : List declaration.Declaration × List Stmt} {h i : ℕ}
      → States Body Declaration ts x h us → States Body (Elements f) us all i rest → States Body (Elements f) ts (x ∷ all.0, all.1) (max h i) rest
  stated : {f : Bool} {ts us rest : List Token} {x : Stmt} {all : List declaration.Declaration × List Stmt} {h i : ℕ}
      → States Body (Statement (outer f)) ts x h us → States Body (Elements f) us all i rest → States Body (Elements f) ts (all.0, x ∷ all.1) (max h i) rest
  -- function Id ( Ids? ) { Element* }
  a_declaration : {ts us rest : List Token} {t n u v : Token} {units : Units} {names : List Units} {body : script.Script} {h : ℕ}
      → is_word w.Function t ≡ true → name_of n.kind ≡ ident.Named units → Reads Body part.Parameters ts names 0 (u ∷ us) → is m.OpenBrace u ≡ true
      → Body us body h (v ∷ rest) → is m.CloseBrace v ≡ true
      → States Body Declaration (t ∷ n ∷ ts) (declaration_of units names body) (1 + h) rest
  -- Statement*
  none : {c : Context} {us : List Token} {t : Token} → stops t ≡ true → States Body (Statements c) (t ∷ us) [] 0 (t ∷ us)
  one_more : {c : Context} {ts us rest : List Token} {x : Stmt} {all : List Stmt} {h i : ℕ}
      → States Body (Statement c) ts x h us → States Body (Statements c) us all i rest → States Body (Statements c) ts (x ∷ all) (max h i) rest
  -- { Statement* }, ( Expr )
  block : {c : Context} {ts rest : List Token} {t u : Token} {all : List Stmt} {h : ℕ}
      → is m.OpenBrace t ≡ true → States Body (Statements c) ts all h (u ∷ rest) → is m.CloseBrace u ≡ true → States Body (Block c) (t ∷ ts) (s.Block all) (1 + h) rest
  condition : {ts rest : List Token} {t u : Token} {a : Operand} {h : ℕ}
      → is m.OpenParen t ≡ true → Reads Body (part.Expr false) ts a h (u ∷ rest) → is m.CloseParen u ≡ true → States Body Condition (t ∷ ts) a.expr h rest
  -- Decl (, Decl)*
  last_decl : {no_in : Bool} {us : List Token} {t u : Token} {units : Units}
      → name_of t.kind ≡ ident.Named units → is m.Assign u ≡ false → is m.Comma u ≡ false → States Body (Decls no_in) (t ∷ u ∷ us) (decl_of units None ∷ []) 0 (u ∷ us)
  next_decl : {no_in : Bool} {us rest : List Token} {t u : Token} {units : Units} {all : List decl.Variable} {h : ℕ}
      → name_of t.kind ≡ ident.Named units → is m.Comma u ≡ true → States Body (Decls no_in) us all h rest → States Body (Decls no_in) (t ∷ u ∷ us) (decl_of units None ∷ all) h rest
  last_value : {no_in : Bool} {ts us : List Token} {t u v : Token} {units : Units} {a : Operand} {h : ℕ}
      → name_of t.kind ≡ ident.Named units → is m.Assign u ≡ true → Reads Body (part.Assign no_in) ts a h (v ∷ us) → is m.Comma v ≡ false
      → States Body (Decls no_in) (t ∷ u ∷ ts) (decl_of units (Some a.expr) ∷ []) h (v ∷ us)
  value : {no_in : Bool} {ts us rest : List Token} {t u v : Token} {units : Units} {a : Operand} {all : List decl.Variable} {h i : ℕ}
      → name_of t.kind ≡ ident.Named units → is m.Assign u ≡ true → Reads Body (part.Assign no_in) ts a h (v ∷ us) → is m.Comma v ≡ true → States Body (Decls no_in) us all i rest
      → States Body (Decls no_in) (t ∷ u ∷ ts) (decl_of units (Some a.expr) ∷ all) (max h i) rest
  -- Statement
  braces : {c : Context} {ts rest : List Token} {x : Stmt} {h : ℕ} → States Body (Block c) ts x h rest → States Body (Statement c) ts x h rest
  var : {c : Context} {ts us rest : List Token} {t : Token} {all : List decl.Variable} {h : ℕ}
      → is_word w.Var t ≡ true → States Body (Decls false) ts all h us → Ended us rest → States Body (Statement c) (t ∷ ts) (s.Var all) (1 + h) rest
  empty : {c : Context} {rest : List Token} {t : Token} → is m.Semicolon t ≡ true → States Body (Statement c) (t ∷ rest) s.Empty 1 rest
  -- It doesn't begin with `{` or `function`, and an identifier alone before `:` is no statement.
  expression : {c : Context} {ts us rest : List Token} {t u : Token} {a : Operand} {h : ℕ}
      → is m.OpenBrace t ≡ false → is_word w.Function t ≡ false → Reads Body (part.Expr false) (t ∷ ts) a h (u ∷ us) → (is m.Colon u ≡ false) ⊎ ((is_name a.expr ≡ false) ⊎ (kind_names t.kind ≡ false))
      → Ended (u ∷ us) rest → States Body (Statement c) (t ∷ ts) (s.Expression a.expr) (1 + h) rest
  if_alone : {c : Context} {ts us vs : List Token} {t u : Token} {a : tree.Expr} {x : Stmt} {h i : ℕ}
      → is_word w.If t ≡ true → States Body Condition ts a h us → States Body (Statement c) us x i (u ∷ vs) → is_word w.Else u ≡ false
      → States Body (Statement c) (t ∷ ts) (s.If a x None) (1 + max h i) (u ∷ vs)
  if_else : {c : Context} {ts us vs rest : List Token} {t u : Token} {a : tree.Expr} {x y : Stmt} {h i j : ℕ}
      → is_word w.If t ≡ true → States Body Condition ts a h us → States Body (Statement c) us x i (u ∷ vs) → is_word w.Else u ≡ true → States Body (Statement c) vs y j rest
      → States Body (Statement c) (t ∷ ts) (s.If a x (Some y)) (1 + max h (max i j)) rest
  do_while : {c : Context} {ts us vs rest : List Token} {t u : Token} {a : tree.Expr} {x : Stmt} {h i : ℕ}
      → is_word w.Do t ≡ true → States Body (Statement (loop c)) ts x h (u ∷ us) → is_word w.While u ≡ true → States Body Condition us a i vs → Ended vs rest
      → States Body (Statement c) (t ∷ ts) (s.DoWhile x a) (1 + max h i) rest
  while_loop : {c : Context} {ts us rest : List Token} {t : Token} {a : tree.Expr} {x : Stmt} {h i : ℕ}
      → is_word w.While t ≡ true → States Body Condition ts a h us → States Body (Statement (loop c)) us x i rest → States Body (Statement c) (t ∷ ts) (s.While a x) (1 + max h i) rest
  first_none : {rest : List Token} {t : Token} → is m.Semicolon t ≡ true → States Body First (t ∷ rest) from.Nothing 0 rest
  first_expr : {ts rest : List Token} {t : Token} {a : Operand} {h : ℕ}
      → Reads Body (part.Expr true) ts a h (t ∷ rest) → is m.Semicolon t ≡ true → States Body First ts (from.Expr a.expr) h rest
  first_var : {ts rest : List Token} {t u : Token} {all : List decl.Variable} {h : ℕ}
      → is_word w.Var t ≡ true → States Body (Decls true) ts all h (u ∷ rest) → is m.Semicolon u ≡ true → States Body First (t ∷ ts) (from.Var all) (1 + h) rest
  nothing : {mark : Mark} {rest : List Token} {t : Token} → is mark t ≡ true → States Body (Optional mark) (t ∷ rest) None 0 rest
  something : {mark : Mark} {ts rest : List Token} {t : Token} {a : Operand} {h : ℕ}
      → Reads Body (part.Expr false) ts a h (t ∷ rest) → is mark t ≡ true → States Body (Optional mark) ts (Some a.expr) h rest
  for_loop : {c : Context} {ts us vs ws rest : List Token} {t u : Token} {start : ForStart} {test step : Option tree.Expr} {x : Stmt} {h i j k : ℕ}
      → is_word w.For t ≡ true → is m.OpenParen u ≡ true → States Body First ts start h us → States Body (Optional m.Semicolon) us test i vs
      → States Body (Optional m.CloseParen) vs step j ws → States Body (Statement (loop c)) ws x k rest
      → States Body (Statement c) (t ∷ u ∷ ts) (s.For start test step x) (1 + max h (max i (max j k))) rest
  for_in : {c : Context} {ts us vs rest : List Token} {t u v x : Token} {a b : Operand} {y : Stmt} {h i j : ℕ}
      → is_word w.For t ≡ true → is m.OpenParen u ≡ true → Reads Body (part.Whole true) ts a h (v ∷ us) → target a ≡ true → is_word w.In v ≡ true
      → Reads Body (part.Expr false) us b i (x ∷ vs) → is m.CloseParen x ≡ true → States Body (Statement (loop c)) vs y j rest
      → States Body (Statement c) (t ∷ u ∷ ts) (s.ForIn (over.Target a.expr) b.expr y) (1 + max h (max i j)) rest
  for_in_var : {c : Context} {us vs rest : List Token} {t u v n o x : Token} {units : Units} {b : Operand} {y : Stmt} {i j : ℕ}
      → is_word w.For t ≡ true → is m.OpenParen u ≡ true → is_word w.Var v ≡ true → name_of n.kind ≡ ident.Named units → is_word w.In o ≡ true
      → Reads Body (part.Expr false) us b i (x ∷ vs) → is m.CloseParen x ≡ true → States Body (Statement (loop c)) vs y j rest
      → States Body (Statement c) (t ∷ u ∷ v ∷ n ∷ o ∷ us) (s.ForIn (over.Var units) b.expr y) (1 + max i j) rest
  continue : {c : Context} {us rest : List Token} {t u : Token}
      → is_word w.Continue t ≡ true → c.in_loop ≡ true → labels u ≡ false → Halted (u ∷ us) rest → States Body (Statement c) (t ∷ u ∷ us) s.Continue 1 rest
  break : {c : Context} {us rest : List Token} {t u : Token}
      → is_word w.Break t ≡ true → c.in_loop || c.in_switch ≡ true → labels u ≡ false → Halted (u ∷ us) rest → States Body (Statement c) (t ∷ u ∷ us) s.Break 1 rest
  return_alone : {c : Context} {us rest : List Token} {t : Token}
      → is_word w.Return t ≡ true → c.in_function ≡ true → Halted us rest → States Body (Statement c) (t ∷ us) (s.Return None) 1 rest
  return_value : {c : Context} {ts us rest : List Token} {t u : Token} {a : Operand} {h : ℕ}
      → is_word w.Return t ≡ true → c.in_function ≡ true → closes u ≡ false → Reads Body (part.Expr false) (u ∷ ts) a h us → Ended us rest
      → States Body (Statement c) (t ∷ u ∷ ts) (s.Return (Some a.expr)) (1 + h) rest
  throw : {c : Context} {ts us rest : List Token} {t u : Token} {a : Operand} {h : ℕ}
      → is_word w.Throw t ≡ true → u.after_newline ≡ false → Reads Body (part.Expr false) (u ∷ ts) a h us → Ended us rest
      → States Body (Statement c) (t ∷ u ∷ ts) (s.Throw a.expr) (1 + h) rest
  a_switch : {c : Context} {ts us rest : List Token} {t u v : Token} {a : tree.Expr} {all : List clause.Case} {h i : ℕ}
      → is_word w.Switch t ≡ true → States Body Condition ts a h (u ∷ us) → is m.OpenBrace u ≡ true → States Body (Clauses (switch c) false) us all i (v ∷ rest) → is m.CloseBrace v ≡ true
      → States Body (Statement c) (t ∷ ts) (s.Switch a all) (1 + max h i) rest
  no_clause : {c : Context} {stood : Bool} {us : List Token} {t : Token} → is m.CloseBrace t ≡ true → States Body (Clauses c stood) (t ∷ us) [] 0 (t ∷ us)
  case : {c : Context} {stood : Bool} {ts us vs rest : List Token} {t u : Token} {a : Operand} {body : List Stmt} {all : List clause.Case} {h i j : ℕ}
      → is_word w.Case t ≡ true → Reads Body (part.Expr false) ts a h (u ∷ us) → is m.Colon u ≡ true → States Body (Statements c) us body i vs → States Body (Clauses c stood) vs all j rest
      → States Body (Clauses c stood) (t ∷ ts) (case_of (Some a.expr) body ∷ all) (max h (max i j)) rest
  -- at most one
  default : {c : Context} {us vs rest : List Token} {t u : Token} {body : List Stmt} {all : List clause.Case} {i j : ℕ}
      → is_word w.Default t ≡ true → is m.Colon u ≡ true → States Body (Statements c) us body i vs → States Body (Clauses c true) vs all j rest
      → States Body (Clauses c false) (t ∷ u ∷ us) (case_of None body ∷ all) (max i j) rest
  last : {c : Context} {ts rest : List Token} {t : Token} {all : Stmt} {h : ℕ}
      → is_word w.Finally t ≡ true → States Body (Block c) ts all h rest → States Body (Finally c) (t ∷ ts) all h rest
  try_catch : {c : Context} {ts us ws : List Token} {t u v n x y : Token} {units : Units} {body caught : Stmt} {h i : ℕ}
      → is_word w.Try t ≡ true → States Body (Block c) ts body h (u ∷ v ∷ n ∷ x ∷ us) → is_word w.Catch u ≡ true → is m.OpenParen v ≡ true → name_of n.kind ≡ ident.Named units → is m.CloseParen x ≡ true
      → States Body (Block c) us caught i (y ∷ ws) → is_word w.Finally y ≡ false
      → States Body (Statement c) (t ∷ ts) (s.Try body (Some (catch_of units caught)) None) (1 + max h i) (y ∷ ws)
  try_both : {c : Context} {ts us vs rest : List Token} {t u v n x : Token} {units : Units} {body caught ended : Stmt} {h i j : ℕ}
      → is_word w.Try t ≡ true → States Body (Block c) ts body h (u ∷ v ∷ n ∷ x ∷ us) → is_word w.Catch u ≡ true → is m.OpenParen v ≡ true → name_of n.kind ≡ ident.Named units → is m.CloseParen x ≡ true
      → States Body (Block c) us caught i vs → States Body (Finally c) vs ended j rest
      → States Body (Statement c) (t ∷ ts) (s.Try body (Some (catch_of units caught)) (Some ended)) (1 + max h (max i j)) rest
  try_finally : {c : Context} {ts us rest : List Token} {t : Token} {body ended : Stmt} {h j : ℕ}
      → is_word w.Try t ≡ true → States Body (Block c) ts body h us → States Body (Finally c) us ended j rest
      → States Body (Statement c) (t ∷ ts) (s.Try body None (Some ended)) (1 + max h j) rest
