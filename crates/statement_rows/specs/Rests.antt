-- Rests of the rows of statements, and parts that functions of their own read.
use Rattle.std.specs.Prelude.{ℕ, max, List, Ok, Err, Option, Some, None}
use Rattle.js_lexer.specs.declared.Reserved.TheVariants as w
use Rattle.js_lexer.specs.declared.Token.{Token}
use Rattle.js_tree.specs.declared.Expr as expr
use Rattle.js_tree.specs.declared.Stmt.{Stmt}
use Rattle.script_grammar.specs.Grammar.{either, ends, expect_word, in_parentheses}
use Rattle.script_grammar.specs.Meets.{Has}
use Rattle.script_grammar.specs.Rules.{Context, Symbol, Rule}
use Rattle.script_grammar.specs.Rules.Rule.{give, peek, eat, read}
use Rattle.script_grammar.specs.Rules.Symbol.{Statement}
use Rattle.script_grammar.specs.Stmts as s
use Rattle.script_grammar.specs.Words.{is_word}
use Rattle.script_grammar.specs.declared.stop.Stop.{Stop}

-- after `else`
abbrev pub second_rule : {c : Context} → expr.Expr → Stmt → Rule (Statement c)
second_rule {c} test first = read 1 (Statement c) (λ second _. give (s.If test first (Some second)))

-- after the first statement of an `if`
abbrev pub else_rule : {c : Context} → expr.Expr → Stmt → Rule (Statement c)
else_rule test first = peek (λ t. either (is_word w.Else t) (eat (second_rule test first)) (give (s.If test first None)))

-- `while`, a test in parentheses and the end of the statement, which is made of the test
abbrev pub test_rule : {c : Context} → (expr.Expr → Stmt) → Rule (Statement c)
test_rule made = expect_word w.While (in_parentheses (λ test. ends (made test)))

-- after the body of a `do`
abbrev pub do_rule : {c : Context} → Stmt → Rule (Statement c)
do_rule body = test_rule (λ test. s.DoWhile body test)

pub record TookTest (b : ℕ) (ts : List Token) (test : expr.Expr) (height : ℕ) (rest : List Token) : Type 0 where
  pub row : (c : Context) (h : ℕ) (made : expr.Expr → Stmt) → Has (Statement c) b (test_rule made) ts h (Ok record { value = made test; height = max h height; rest = rest })

pub record MissesTest (b : ℕ) (ts : List Token) (e : Stop) : Type 0 where
  pub row : (c : Context) (h : ℕ) (made : expr.Expr → Stmt) → Has (Statement c) b (test_rule made) ts h (Err e)
