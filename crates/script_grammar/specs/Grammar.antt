-- The grammar: a row for each symbol.
use Rattle.std.specs.Prelude.{ℕ, zero, suc, max, Bool, true, false, not, ◌&&◌, ◌||◌, ◌+◌, List, [], ◌∷◌, ◌++◌, Option, Some, None}
use Rattle.js_lexer.specs.declared.Mark.{Mark}
use Rattle.js_lexer.specs.declared.Mark.TheVariants as m
use Rattle.js_lexer.specs.declared.Reserved.{Reserved}
use Rattle.js_lexer.specs.declared.Reserved.TheVariants as w
use Rattle.js_lexer.specs.declared.CallWord.{CallWord}
use Rattle.js_lexer.specs.declared.CallWord.TheVariants as c
use Rattle.script_grammar.specs.declared.Form.TheVariants as form
use Rattle.js_tree.specs.declared.BinaryOperator.{BinaryOperator}
use Rattle.js_tree.specs.declared.Sign.{Sign}
use Rattle.js_tree.specs.declared.Fix.TheVariants as side
use Rattle.js_tree.specs.declared.Key as key
use Rattle.js_tree.specs.declared.Key.TheVariants as k
use Rattle.js_tree.specs.declared.Field as field
use Rattle.js_tree.specs.declared.Expr as expr
use Rattle.script_grammar.specs.Exprs as e
use Rattle.js_tree.specs.declared.Variable as declared
use Rattle.js_tree.specs.declared.ForStart.{ForStart}
use Rattle.script_grammar.specs.Starts as from
use Rattle.js_tree.specs.declared.ForTarget.{ForTarget}
use Rattle.script_grammar.specs.Targets as over
use Rattle.js_tree.specs.declared.Case as clause
use Rattle.js_tree.specs.declared.Catch as catch
use Rattle.js_tree.specs.declared.Stmt.{Stmt}
use Rattle.script_grammar.specs.Stmts as s
use Rattle.js_tree.specs.declared.Script as script
use Rattle.js_lexer.specs.declared.Token.{Token}
use Rattle.script_grammar.specs.declared.classes.Name.{Name}
use Rattle.script_grammar.specs.declared.classes.Start.{Start}
use Rattle.script_grammar.specs.declared.classes.Head.{Head}
use Rattle.script_grammar.specs.declared.classes.Prefix.{Prefix}
use Rattle.script_grammar.specs.declared.classes.Tail.{Tail}
use Rattle.script_grammar.specs.declared.classes.Infix.{Infix}
use Rattle.script_grammar.specs.Words.{Units, is, is_word, is_end, closes, stops, labels, name_of, key_of, literal_key_of, start_of, head_of, prefix_of, prefixed, tail_of, step_of, infix_at, assign_of}
use Rattle.script_grammar.specs.declared.classes.Name.TheVariants as ident
use Rattle.script_grammar.specs.declared.classes.Start.TheVariants as start
use Rattle.script_grammar.specs.declared.classes.Head.TheVariants as head
use Rattle.script_grammar.specs.declared.classes.Prefix.TheVariants as prefix
use Rattle.script_grammar.specs.declared.classes.Tail.TheVariants as tail
use Rattle.script_grammar.specs.declared.classes.Infix.TheVariants as between
use Rattle.js_tree.specs.Trees.{unbound, ExprLevel, expr_level, field_of, variable_of, case_of, catch_of, declaration_of, script_of}
use Rattle.js_tree.specs.declared.ExprNode.TheOpen.{ExprNode-F}
use Rattle.script_grammar.specs.declared.classes.Operand.{Operand}
use Rattle.script_grammar.specs.Rules.{Context, Symbol, Value, Rule}
use Rattle.script_grammar.specs.Rules.Symbol.{Script, Elements, Declaration, Names, Statements, Statement, Block, Decls, Clauses, Expr, Commas, Assign, Conditional, Binary, More, Unary, Postfix, Left, Suffixes, Deleted, New, Arguments, Items, Fields, Primary}
use Rattle.script_grammar.specs.Rules.Rule.{give, refuse, peek, eat, node, stand, read}

-- ---- values

abbrev pub plain : expr.Expr → Operand
plain expr = record { expr = expr; target = false }

abbrev pub a_member : expr.Expr → key.Key → Operand
a_member base key = record { expr = e.Member base key; target = true }

-- an expression that is a target as written
abbrev pub a_target : expr.Expr → Operand
a_target expr = record { expr = expr; target = true }

abbrev pub a_name_as : Units → Operand
a_name_as units = record { expr = e.Name units; target = true }

-- a target is a name or a member as written
abbrev pub target : Operand → Bool
target v = v.target

abbrev pub decl_of : Units → Option expr.Expr → declared.Variable
decl_of name value = variable_of (unbound name) value

-- ---- forms that many rows share

-- one row or another, by a test of the next token
abbrev pub either : {n : Symbol} → Bool → Rule n → Rule n → Rule n
either true a b = a
either false a b = b

abbrev pub expect : {n : Symbol} → Mark → Rule n → Rule n
expect mark rule = peek (λ t. either (is mark t) (eat rule) (refuse None))

abbrev pub expect_word : {n : Symbol} → Reserved → Rule n → Rule n
expect_word word rule = peek (λ t. either (is_word word t) (eat rule) (refuse None))

abbrev pub name_by : {n : Symbol} → Name → (Units → Rule n) → Rule n
name_by (ident.Named units) rule = eat (rule units)
name_by (ident.Out form) rule = refuse (Some form)
name_by ident.Other rule = refuse None

-- a name comes next
abbrev pub a_name : {n : Symbol} → (Units → Rule n) → Rule n
a_name rule = peek (λ t. name_by (name_of t.kind) rule)

-- the symbol is read as another one is
abbrev pub as_read : {n : Symbol} (m : Symbol) → (Value m → Value n) → Rule n
as_read m f = read 0 m (λ v _. give (f v))

-- A semicolon, or nothing where it may be left out.
abbrev pub ends : {c : Context} → Stmt → Rule (Statement c)
ends stmt = peek (λ t. either (is m.Semicolon t) (eat (give stmt)) (either (closes t) (give stmt) (refuse None)))

abbrev pub parameters : {n : Symbol} → (List Units → Rule n) → Rule n
parameters rule = expect m.OpenParen (peek (λ t. either (is m.CloseParen t) (eat (rule []))
    (read 0 (Names []) (λ names _. expect m.CloseParen (rule names)))))

-- parameters and a body, which is so much deeper
abbrev pub function : {n : Symbol} → (List Units → script.Script → Rule n) → Rule n
function rule = parameters (λ names. expect m.OpenBrace
    (read 1 (Elements true [] []) (λ body _. expect m.CloseBrace (rule names body))))

-- After `continue`, `break` and `return` the end of the line ends the statement, so a semicolon on a later line is one of its own.
abbrev pub halts : {c : Context} → Stmt → Rule (Statement c)
halts stmt = peek (λ t. either (is m.Semicolon t && not t.after_newline) (eat (give stmt)) (either (closes t) (give stmt) (refuse None)))

-- a block, so much deeper
abbrev pub block : {n : Symbol} → (c : Context) → (Stmt → Rule n) → Rule n
block c rule = read 1 (Block c) (λ body _. rule body)

-- `(` an expression `)`, so much deeper
abbrev pub in_parentheses : {n : Symbol} → (expr.Expr → Rule n) → Rule n
in_parentheses rule = expect m.OpenParen (read 1 (Expr false) (λ v _. expect m.CloseParen (rule v.expr)))

-- ---- statements

abbrev pub loop : Context → Context
loop c = record { in_function = c.in_function; in_loop = true; in_switch = c.in_switch }

abbrev pub switch : Context → Context
switch c = record { in_function = c.in_function; in_loop = c.in_loop; in_switch = true }

abbrev pub outer : (in_function : Bool) → Context
outer in_function = record { in_function = in_function; in_loop = false; in_switch = false }

abbrev pub after_if : {c : Context} → expr.Expr → Rule (Statement c)
after_if {c} test = read 1 (Statement c) (λ first _. peek (λ t. either (is_word w.Else t)
    (eat (read 1 (Statement c) (λ second _. give (s.If test first (Some second)))))
    (give (s.If test first None))))

-- what `continue` and `break` end with
abbrev pub jump : {c : Context} → Stmt → Rule (Statement c)
jump stmt = peek (λ t. either (labels t) (refuse (Some form.Label)) (halts stmt))

abbrev pub after_return : {c : Context} → Rule (Statement c)
after_return = peek (λ t. either (is m.Semicolon t || closes t)
    (halts (s.Return None))
    (read 1 (Expr false) (λ v _. ends (s.Return (Some v.expr)))))

abbrev pub after_throw : {c : Context} → Rule (Statement c)
after_throw = peek (λ t. either t.after_newline (refuse None) (read 1 (Expr false) (λ v _. ends (s.Throw v.expr))))

-- the parts of `for` after its first semicolon
abbrev pub for_body : {c : Context} → ForStart → Option expr.Expr → Option expr.Expr → Rule (Statement c)
for_body {c} from test step = read 1 (Statement (loop c)) (λ body _. give (s.For from test step body))

abbrev pub for_step : {c : Context} → ForStart → Option expr.Expr → Rule (Statement c)
for_step from test = peek (λ t. either (is m.CloseParen t)
    (eat (for_body from test None))
    (read 1 (Expr false) (λ v _. expect m.CloseParen (for_body from test (Some v.expr)))))

abbrev pub for_test : {c : Context} → ForStart → Rule (Statement c)
for_test from = peek (λ t. either (is m.Semicolon t)
    (eat (for_step from None))
    (read 1 (Expr false) (λ v _. expect m.Semicolon (for_step from (Some v.expr)))))

abbrev pub for_in : {c : Context} → ForTarget → Rule (Statement c)
for_in {c} target = read 1 (Expr false) (λ v _. expect m.CloseParen
    (read 1 (Statement (loop c)) (λ body _. give (s.ForIn target v.expr body))))

-- the declarations in the head of `for`
abbrev pub for_decls : {c : Context} → List declared.Variable → Rule (Statement c)
for_decls so_far = read 2 (Decls true so_far) (λ all _. expect m.Semicolon (for_test (from.Var all)))

-- After the first name of declarations in the head of `for`: they are a node where no `in` follows.
abbrev pub for_var : {c : Context} → Units → Rule (Statement c)
for_var units = peek (λ t. either (is_word w.In t) (eat (for_in (over.Var units)))
    (either (is m.Semicolon t) (node 2 (for_test (from.Var (decl_of units None ∷ []))))
    (either (is m.Comma t) (node 2 (for_decls (decl_of units None ∷ [])))
    (either (is m.Assign t) (node 2 (read 2 (Assign true) (λ v _. peek (λ u. either (is m.Comma u)
    (eat (for_decls (decl_of units (Some v.expr) ∷ [])))
    (expect m.Semicolon (for_test (from.Var (decl_of units (Some v.expr) ∷ []))))))))
    (refuse None)))))

abbrev pub for_first : {c : Context} → Rule (Statement c)
for_first = peek (λ t. either (is m.Semicolon t) (eat (for_test from.Nothing))
    (either (is_word w.Var t) (eat (a_name for_var))
    (read 1 (Expr true) (λ v _. peek (λ t. either (is_word w.In t && target v)
    (eat (for_in (over.Target v.expr)))
    (expect m.Semicolon (for_test (from.Expr v.expr))))))))

abbrev pub after_try : {c : Context} → Stmt → Option catch.Catch → Bool → Token → Rule (Statement c)
after_try {c} body caught some t = either (is_word w.Finally t)
    (eat (block c (λ last. give (s.Try body caught (Some last)))))
    (either some (give (s.Try body caught None)) (refuse None))

abbrev pub level_names : ExprLevel → Bool
level_names (ExprNode-F.Name x) = true
level_names _ = false

abbrev pub is_name : expr.Expr → Bool
is_name e = level_names (expr_level e)

-- An expression statement that begins with an identifier isn't a label.
abbrev pub ends_identifier : {c : Context} → expr.Expr → Rule (Statement c)
ends_identifier v = peek (λ t. either (is m.Colon t && is_name v) (refuse (Some form.Label)) (ends (s.Expression v)))

-- the rows of a statement, by what its first token begins
abbrev pub statement_as : (c : Context) → Start → Rule (Statement c)
statement_as c start.Block = as_read (Block c) (λ v. v)
statement_as c start.Var = node 1 (read 1 (Decls false []) (λ all _. ends (s.Var all)))
statement_as c start.Empty = node 1 (give s.Empty)
statement_as c start.If = node 1 (in_parentheses after_if)
statement_as c start.Do = node 1 (read 1 (Statement (loop c)) (λ body _. expect_word w.While (in_parentheses (λ test. ends (s.DoWhile body test)))))
statement_as c start.While = node 1 (in_parentheses (λ test. read 1 (Statement (loop c)) (λ body _. give (s.While test body))))
statement_as c start.For = node 1 (expect m.OpenParen for_first)
statement_as c start.Continue = either c.in_loop (node 1 (jump s.Continue)) (refuse None)
statement_as c start.Break = either (c.in_loop || c.in_switch) (node 1 (jump s.Break)) (refuse None)
statement_as c start.Return = either c.in_function (node 1 after_return) (refuse None)
statement_as c start.Throw = node 1 after_throw
statement_as c start.Switch = node 1 (in_parentheses (λ value. expect m.OpenBrace
    (read 1 (Clauses (switch c) false []) (λ all _. expect m.CloseBrace (give (s.Switch value all))))))
statement_as c start.Try = node 1 (block c (λ body. peek (λ t. either (is_word w.Catch t)
    (eat (expect m.OpenParen (a_name (λ units. expect m.CloseParen (block c (λ inner. peek
    (after_try body (Some (catch_of units inner)) true)))))))
    (after_try body None false t))))
statement_as c start.Identifier = read 1 (Expr false) (λ v _. ends_identifier v.expr)
statement_as c start.Parenthesis = stand 1 (read 1 (Expr false) (λ v _. ends (s.Expression v.expr)))
statement_as c start.Expression = read 1 (Expr false) (λ v _. ends (s.Expression v.expr))
statement_as c start.Neither = refuse None

-- the statements of one clause of a switch, and the clauses after it
abbrev pub case_body : {c : Context} {default_stood : Bool} {so_far : List clause.Case} (stood : Bool) → Option expr.Expr → Rule (Clauses c default_stood so_far)
case_body {c} {default_stood} {so_far} stood test = expect m.Colon (read 0 (Statements c []) (λ body _.
    as_read (Clauses c stood (so_far ++ case_of test body ∷ [])) (λ v. v)))

abbrev pub clauses : (c : Context) (default_stood : Bool) (so_far : List clause.Case) → Rule (Clauses c default_stood so_far)
clauses c default_stood so_far = peek (λ t.
    either (is_word w.Case t) (eat (read 0 (Expr false) (λ v _. case_body default_stood (Some v.expr))))
    (either (is_word w.Default t && not default_stood) (eat (case_body true None))
    (either (is m.CloseBrace t) (give so_far) (refuse None))))

-- ---- lists

-- after an item of a list: a comma and the rest of it, or its end
abbrev pub go_on : {n : Symbol} → Rule n → Rule n → Rule n
go_on more last = peek (λ t. either (is m.Comma t) (eat more) last)

abbrev pub names : (so_far : List Units) → Rule (Names so_far)
names so_far = a_name (λ units. go_on (as_read (Names (so_far ++ units ∷ [])) (λ v. v)) (give (so_far ++ units ∷ [])))

abbrev pub next_decl : {no_in : Bool} {so_far : List declared.Variable} → Units → Option expr.Expr → Rule (Decls no_in so_far)
next_decl {no_in} {so_far} units value =
    let all = so_far ++ decl_of units value ∷ [] in go_on (as_read (Decls no_in all) (λ v. v)) (give all)

abbrev pub decls : (no_in : Bool) (so_far : List declared.Variable) → Rule (Decls no_in so_far)
decls no_in so_far = a_name (λ units. peek (λ t. either (is m.Assign t)
    (eat (read 0 (Assign no_in) (λ v _. next_decl units (Some v.expr))))
    (next_decl units None)))

abbrev pub arguments : (so_far : List expr.Expr) → Rule (Arguments so_far)
arguments so_far = read 0 (Assign false) (λ v _.
    go_on (as_read (Arguments (so_far ++ v.expr ∷ [])) (λ all. all)) (give (so_far ++ v.expr ∷ [])))

-- arguments and `)`, the arguments so much deeper
abbrev pub given_at : {n : Symbol} → ℕ → (List expr.Expr → ℕ → Rule n) → Rule n
given_at k rule = peek (λ t. either (is m.CloseParen t) (eat (rule [] 0))
    (read k (Arguments []) (λ all height. expect m.CloseParen (rule all height))))

abbrev pub given_arguments : {n : Symbol} → (List expr.Expr → ℕ → Rule n) → Rule n
given_arguments rule = given_at 1 rule

-- An element is due: no comma stands here.
abbrev pub items : (so_far : List expr.Expr) → Rule (Items so_far)
items so_far = peek (λ t. either (is m.Comma t) (refuse (Some form.Elision)) (read 0 (Assign false) (λ v _.
    go_on (peek (λ u. either (is m.CloseBracket u) (give (so_far ++ v.expr ∷ [])) (as_read (Items (so_far ++ v.expr ∷ [])) (λ all. all))))
    (give (so_far ++ v.expr ∷ [])))))

abbrev pub field_by : {so_far : List field.Field} → Option Units → Rule (Fields so_far)
field_by {so_far} (Some key) = eat (expect m.Colon (read 0 (Assign false) (λ v _.
    let all = so_far ++ field_of key v.expr ∷ [] in go_on (as_read (Fields all) (λ x. x)) (give all))))
field_by None = refuse None

-- ---- expressions

abbrev pub expr_after : (no_in : Bool) (left : Operand) (height : ℕ) → Token → Rule (Commas no_in left height)
expr_after no_in left height t = either (is m.Comma t)
    (node (height + 1) (read 1 (Assign no_in) (λ right h.
    as_read (Commas no_in (plain (e.Comma left.expr right.expr)) (max (height + 1) (h + 1))) (λ v. v))))
    (give left)

abbrev pub assign_by : {no_in : Bool} (left : Operand) (height : ℕ) → Option (Option BinaryOperator) → Rule (Assign no_in)
assign_by {no_in} left height (Some op) = either (target left)
    (node (height + 1) (read 1 (Assign no_in) (λ value _. give (plain (e.Assign op left.expr value.expr)))))
    (give left)
assign_by left height None = give left

abbrev pub conditional_after : {no_in : Bool} (test : Operand) (height : ℕ) → Token → Rule (Conditional no_in)
conditional_after {no_in} test height t = either (is m.Question t)
    (node (height + 1) (read 1 (Assign no_in) (λ first _. expect m.Colon (read 1 (Assign no_in) (λ second _.
    give (plain (e.Conditional test.expr first.expr second.expr)))))))
    (give test)

abbrev pub binary : (no_in : Bool) (level : ℕ) → Rule (Binary no_in level)
binary no_in zero = as_read Unary (λ v. v)
binary no_in (suc level) = read 0 (Binary no_in level) (λ left height. as_read (More no_in (suc level) left height) (λ v. v))

-- what an operator makes of its operands
abbrev pub joined : Infix → expr.Expr → expr.Expr → expr.Expr
joined (between.Plain op) a b = e.Binary op a b
joined between.And a b = e.And a b
joined between.Or a b = e.Or a b

abbrev pub tighter : ℕ → ℕ
tighter zero = zero
tighter (suc level) = level

abbrev pub more_by : (no_in : Bool) (level : ℕ) (left : Operand) (height : ℕ) → Option Infix → Rule (More no_in level left height)
more_by no_in level left height (Some op) = node (height + 1) (read 1 (Binary no_in (tighter level)) (λ right h.
    as_read (More no_in level (plain (joined op left.expr right.expr)) (max (height + 1) (h + 1))) (λ v. v)))
more_by no_in level left height None = give left

-- the operand of `delete`, and what stands after it
abbrev pub delete_operand : Token → Rule Unary
delete_operand t = either (prefixed t.kind)
    (read 1 Unary (λ v _. refuse (Some form.Delete)))
    (either (is_word w.New t)
    (read 1 New (λ left height. as_read (Deleted left height) (λ v. v)))
    (read 1 Primary (λ left height. as_read (Deleted left height) (λ v. v))))

abbrev pub unary_by : Prefix → Rule Unary
unary_by prefix.Delete = node 1 (peek delete_operand)
unary_by prefix.Void = node 1 (read 1 Unary (λ v _. give (plain (e.Void v.expr))))
unary_by prefix.Typeof = node 1 (read 1 Unary (λ v _. give (plain (e.Typeof v.expr))))
unary_by (prefix.Update step) = node 1 (read 1 Left (λ v _. either (target v) (give (plain (e.Update v.expr step side.Prefix))) (refuse None)))
unary_by (prefix.Signed sign) = node 1 (read 1 Unary (λ v _. give (plain (e.Unary sign v.expr))))
unary_by prefix.Neither = as_read Postfix (λ v. v)

abbrev pub postfix_by : (left : Operand) (height : ℕ) → Option Sign → Rule Postfix
postfix_by left height (Some step) = node (height + 1) (give (plain (e.Update left.expr step side.Postfix)))
postfix_by left height None = give left

abbrev pub postfix_after : (left : Operand) (height : ℕ) → Token → Rule Postfix
postfix_after left height t = either (target left && not t.after_newline) (postfix_by left height (step_of t.kind)) (give left)

abbrev pub fixed : {n : Symbol} → Option Units → (Units → Rule n) → Rule n
fixed (Some key) rule = eat (rule key)
fixed None rule = refuse None

abbrev pub suffixes_by : (calls : Bool) (left : Operand) (height : ℕ) → Tail → Rule (Suffixes calls left height)
suffixes_by calls left height tail.Computed = node (height + 1) (read 1 (Expr false) (λ key h. expect m.CloseBracket
    (as_read (Suffixes calls (a_member left.expr (k.Computed key.expr)) (max (height + 1) (h + 1))) (λ v. v))))
suffixes_by calls left height tail.Fixed = node (height + 1) (peek (λ t. fixed (key_of t.kind) (λ key.
    as_read (Suffixes calls (a_member left.expr (k.Fixed key)) (height + 1)) (λ v. v))))
suffixes_by calls left height tail.Call = either calls
    (node (height + 1) (given_arguments (λ all h.
    as_read (Suffixes calls (plain (e.Call left.expr all)) (max (height + 1) (h + 1))) (λ v. v))))
    (give left)
suffixes_by calls left height tail.Neither = give left

-- A member as written that is the whole operand is one node with `delete`, and nothing else is deleted.
abbrev pub deleted_level : {left : Operand} {height : ℕ} → (target : Bool) → ExprLevel → Rule (Deleted left height)
deleted_level true (ExprNode-F.Member base key) = give (plain (e.Delete base key))
deleted_level _ _ = refuse (Some form.Delete)

abbrev pub deleted : (left : Operand) (height : ℕ) → Rule (Deleted left height)
deleted left height = deleted_level left.target (expr_level left.expr)

abbrev pub deleted_step : (left : Operand) (height : ℕ) → Option Sign → Rule (Deleted left height)
deleted_step left height (Some step) = node (height + 2) (refuse (Some form.Delete))
deleted_step left height None = deleted left height

abbrev pub deleted_end : (left : Operand) (height : ℕ) → Token → Rule (Deleted left height)
deleted_end left height t = either (target left && not t.after_newline) (deleted_step left height (step_of t.kind)) (deleted left height)

-- A member may be the last, and is then one node with `delete`; a call is one deeper.
abbrev pub deleted_by : (left : Operand) (height : ℕ) → Token → Tail → Rule (Deleted left height)
deleted_by left height t tail.Computed = node (height + 1) (read 1 (Expr false) (λ key h. expect m.CloseBracket
    (as_read (Deleted (a_member left.expr (k.Computed key.expr)) (max (height + 1) (h + 1))) (λ v. v))))
deleted_by left height t tail.Fixed = node (height + 1) (peek (λ t. fixed (key_of t.kind) (λ key.
    as_read (Deleted (a_member left.expr (k.Fixed key)) (height + 1)) (λ v. v))))
deleted_by left height t tail.Call = node (height + 2) (given_at 2 (λ all h.
    as_read (Deleted (plain (e.Call left.expr all)) (max (height + 1) (h + 1))) (λ v. v)))
deleted_by left height t tail.Neither = deleted_end left height t

-- an operand with what stands after it, so much deeper
abbrev pub with_suffixes : {n : Symbol} (k : ℕ) (calls : Bool) → (Operand → Rule n) → Token → Rule n
with_suffixes k calls f t = either (is_word w.New t)
    (read k New (λ left height. read k (Suffixes calls left height) (λ v _. f v)))
    (read k Primary (λ left height. read k (Suffixes calls left height) (λ v _. f v)))

abbrev pub new_after : expr.Expr → Token → Rule New
new_after callee t = either (is m.OpenParen t)
    (eat (given_arguments (λ all _. give (plain (e.New callee all)))))
    (give (plain (e.New callee [])))

-- a script call with one argument, and with none
abbrev pub called : CallWord → expr.Expr → expr.Expr
called c.Post v = e.Post v
called c.Reply v = e.Reply v
called c.Prompt v = e.Prompt v
called c.Random v = e.Random v
called c.Once v = e.Once v
called c.Fork v = e.Fork v
called _ v = v

abbrev pub called_alone : CallWord → expr.Expr
called_alone c.Join = e.Join
called_alone _ = e.Crash

abbrev pub primary_by : Head → Rule Primary
primary_by head.This = node 1 (give (plain e.This))
primary_by (head.Identifier (ident.Named units)) = node 1 (give (a_name_as units))
primary_by (head.Identifier (ident.Out form)) = refuse (Some form)
primary_by (head.Identifier ident.Other) = refuse None
primary_by (head.Constant value) = node 1 (give (plain (e.Literal value)))
primary_by head.Parenthesis = eat (read 1 (Expr false) (λ v _. expect m.CloseParen (give (plain v.expr))))
primary_by head.Array = node 1 (peek (λ t. either (is m.CloseBracket t) (eat (give (plain (e.Array []))))
    (read 1 (Items []) (λ all _. expect m.CloseBracket (give (plain (e.Array all)))))))
primary_by head.Object = node 1 (peek (λ t. either (is m.CloseBrace t) (eat (give (plain (e.Object []))))
    (read 1 (Fields []) (λ all _. expect m.CloseBrace (give (plain (e.Object all)))))))
primary_by head.Function = node 1 (peek (λ t. either (is m.OpenParen t)
    (function (λ names body. give (plain (e.Function None names body))))
    (name_by (name_of t.kind) (λ units. function (λ names body. give (plain (e.Function (Some units) names body)))))))
primary_by head.Many = node 1 (expect m.OpenParen (given_arguments (λ all _. give (plain (e.Print all)))))
primary_by (head.One word) = node 1 (expect m.OpenParen (read 1 (Assign false) (λ v _. expect m.CloseParen (give (plain (called word v.expr))))))
primary_by (head.Zero word) = node 1 (expect m.OpenParen (expect m.CloseParen (give (plain (called_alone word)))))
primary_by head.RegExp = refuse (Some form.RegExp)
primary_by head.Neither = refuse None

-- ---- the grammar

abbrev pub grammar : (n : Symbol) → Rule n
grammar Script = read 0 (Elements false [] []) (λ all _. peek (λ t. either (is_end t) (give all) (refuse None)))
grammar (Elements in_function functions statements) = peek (λ t. either (stops t)
    (give (script_of functions statements))
    (either (is_word w.Function t)
    (read 0 Declaration (λ one _. as_read (Elements in_function (functions ++ one ∷ []) statements) (λ v. v)))
    (read 0 (Statement (outer in_function)) (λ one _. as_read (Elements in_function functions (statements ++ one ∷ [])) (λ v. v)))))
grammar Declaration = peek (λ t. either (is_word w.Function t)
    (node 1 (a_name (λ units. function (λ names body. give (declaration_of units names body)))))
    (refuse None))
grammar (Names so_far) = names so_far
grammar (Statements c so_far) = peek (λ t. either (stops t)
    (give so_far)
    (read 0 (Statement c) (λ one _. as_read (Statements c (so_far ++ one ∷ [])) (λ v. v))))
grammar (Statement c) = peek (λ t. statement_as c (start_of t.kind))
grammar (Block c) = peek (λ t. either (is m.OpenBrace t)
    (node 1 (read 1 (Statements c []) (λ all _. expect m.CloseBrace (give (s.Block all)))))
    (refuse None))
grammar (Decls no_in so_far) = decls no_in so_far
grammar (Clauses c default_stood so_far) = clauses c default_stood so_far
grammar (Expr no_in) = read 0 (Assign no_in) (λ left height. as_read (Commas no_in left height) (λ v. v))
grammar (Commas no_in left height) = peek (expr_after no_in left height)
grammar (Assign no_in) = read 0 (Conditional no_in) (λ left height. peek (λ t. assign_by left height (assign_of t.kind)))
grammar (Conditional no_in) = read 0 (Binary no_in 10) (λ test height. peek (conditional_after test height))
grammar (Binary no_in level) = binary no_in level
grammar (More no_in level left height) = peek (λ t. more_by no_in level left height (infix_at no_in level t))
grammar Unary = peek (λ t. unary_by (prefix_of t.kind))
grammar Postfix = read 0 Left (λ left height. peek (postfix_after left height))
grammar Left = peek (with_suffixes 0 true (λ v. give v))
grammar (Suffixes calls left height) = peek (λ t. suffixes_by calls left height (tail_of t.kind))
grammar (Deleted left height) = peek (λ t. deleted_by left height t (tail_of t.kind))
grammar New = peek (λ t. either (is_word w.New t)
    (node 1 (peek (with_suffixes 1 false (λ callee. peek (new_after callee.expr)))))
    (refuse None))
grammar (Arguments so_far) = arguments so_far
grammar (Items so_far) = items so_far
grammar (Fields so_far) = peek (λ t. field_by (literal_key_of t.kind))
grammar Primary = peek (λ t. primary_by (head_of t.kind))
