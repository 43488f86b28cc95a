-- The symbols of the grammar, what each is read as, and the form of a rule.
use Rattle.std.specs.Prelude.{ℕ, Bool, List, Result, Option}
use Rattle.script_grammar.specs.declared.Form.{Form}
use Rattle.script_grammar.specs.declared.stop.Stop.{Stop}
use Rattle.js_tree.specs.declared.Expr as expr
use Rattle.js_tree.specs.declared.Stmt as stmt
use Rattle.js_tree.specs.declared.Script as script
use Rattle.js_tree.specs.declared.Declaration as declaration
use Rattle.js_tree.specs.declared.Variable as decl
use Rattle.js_tree.specs.declared.Case as clause
use Rattle.js_tree.specs.declared.Field as field
use Rattle.js_lexer.specs.declared.Token.{Token}
use Rattle.script_grammar.specs.declared.classes.Around.{Around}
use Rattle.script_grammar.specs.declared.classes.Operand.{Operand}
use Rattle.script_grammar.specs.Words.{Units}

-- what stands round a statement, up to the innermost function: a function, a loop, a switch
abbrev pub Context : Type 0
Context = Around

-- A symbol may carry what stands to its left, as a left operand with its height, or the items so far.
pub data Symbol : Type 0 where
  Script : Symbol
  -- declarations and statements of a script or of a function's body
  Elements : (in_function : Bool) (functions : List declaration.Declaration) (statements : List stmt.Stmt) → Symbol
  Declaration : Symbol
  Names : (so_far : List Units) → Symbol
  Statements : (c : Context) (so_far : List stmt.Stmt) → Symbol
  Statement : (c : Context) → Symbol
  -- statements in braces, as a statement
  Block : (c : Context) → Symbol
  Decls : (no_in : Bool) (so_far : List decl.Variable) → Symbol
  Clauses : (c : Context) (default_stood : Bool) (so_far : List clause.Case) → Symbol
  -- In the first part of the head of `for` no `in` stands.
  Expr : (no_in : Bool) → Symbol
  Commas : (no_in : Bool) (left : Operand) (height : ℕ) → Symbol
  Assign : (no_in : Bool) → Symbol
  Conditional : (no_in : Bool) → Symbol
  Binary : (no_in : Bool) (level : ℕ) → Symbol
  More : (no_in : Bool) (level : ℕ) (left : Operand) (height : ℕ) → Symbol
  Unary : Symbol
  Postfix : Symbol
  Left : Symbol
  -- what stands after an operand: with calls, or up to the arguments of a `new`
  Suffixes : (calls : Bool) (left : Operand) (height : ℕ) → Symbol
  -- What stands after the operand of `delete`. The operand is one deeper than `delete`, but a member as written is one node with it.
  Deleted : (left : Operand) (height : ℕ) → Symbol
  -- `new`, a callee, and the arguments
  New : Symbol
  Arguments : (so_far : List expr.Expr) → Symbol
  -- the elements of an array literal, the fields of an object literal
  Items : (so_far : List expr.Expr) → Symbol
  Fields : (so_far : List field.Field) → Symbol
  Primary : Symbol

abbrev pub Value : Symbol → Type 0
Value Script = script.Script
Value (Elements in_function functions statements) = script.Script
Value Declaration = declaration.Declaration
Value (Names so_far) = List Units
Value (Statements c so_far) = List stmt.Stmt
Value (Statement c) = stmt.Stmt
Value (Block c) = stmt.Stmt
Value (Decls no_in so_far) = List decl.Variable
Value (Clauses c default_stood so_far) = List clause.Case
Value (Expr no_in) = Operand
Value (Commas no_in left height) = Operand
Value (Assign no_in) = Operand
Value (Conditional no_in) = Operand
Value (Binary no_in level) = Operand
Value (More no_in level left height) = Operand
Value Unary = Operand
Value Postfix = Operand
Value Left = Operand
Value (Suffixes calls left height) = Operand
Value (Deleted left height) = Operand
Value New = Operand
Value (Arguments so_far) = List expr.Expr
Value (Items so_far) = List expr.Expr
Value (Fields so_far) = List field.Field
Value Primary = Operand

-- How a symbol is read: a row of the grammar, from some place in it on.
pub data Rule (n : Symbol) : Type 0 where
  -- the symbol is read, as this
  give : Value n → Rule n
  -- the next token fits nothing, or is a form that is left out
  refuse : Option Form → Rule n
  -- the row goes on by the next token
  peek : (Token → Rule n) → Rule n
  -- the next token belongs to the row
  eat : Rule n → Rule n
  -- the next token belongs to the row, and with it a node stands, so much deeper than the one that holds the symbol
  node : ℕ → Rule n → Rule n
  -- with the next token a node stands, so much deeper; the token belongs to the next member, and may begin it
  stand : ℕ → Rule n → Rule n
  -- the next member is a symbol, so much deeper; its value and height are known after it
  read : ℕ → (m : Symbol) → (Value m → ℕ → Rule n) → Rule n

-- what was read, how many levels of nodes stand in it, and the tokens after it
pub record Done (n : Symbol) : Type 0 where
  pub value : Value n
  pub height : ℕ
  pub rest : List Token

abbrev pub Outcome : Symbol → Type 0
Outcome n = Result (Done n) Stop
