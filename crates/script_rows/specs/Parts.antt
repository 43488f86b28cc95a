-- What the functions for `switch`, `try` and scripts answer: what a row does after a part, it does with the part before it.
use Rattle.std.specs.Prelude.{◌≡◌, ℕ, max, Bool, false, List, [], ◌∷◌, ◌++◌, Ok, Err, Option, Some, None, ◌<◌, length}
use Rattle.js_lexer.specs.declared.Mark.TheVariants as m
use Rattle.js_lexer.specs.declared.Reserved.TheVariants as w
use Rattle.js_lexer.specs.declared.Token.{Token}
use Rattle.js_tree.specs.declared.Case as clause
use Rattle.js_tree.specs.declared.Catch as catch
use Rattle.js_tree.specs.declared.Declaration as declaration
use Rattle.js_tree.specs.declared.Script as script
use Rattle.js_tree.specs.declared.Stmt.{Stmt}
use Rattle.js_tree.specs.Trees.{case_of, catch_of}
use Rattle.part_rows.specs.Lines.{catch_rule}
use Rattle.script_grammar.specs.Goes.{Goes}
use Rattle.script_grammar.specs.Grammar.{grammar, a_name, after_try, block, either, expect}
use Rattle.script_grammar.specs.Meets.{Continues, Has}
use Rattle.script_grammar.specs.Rules.{Context, Symbol, Rule, Outcome}
use Rattle.script_grammar.specs.Rules.Rule.{give, peek, eat, read}
use Rattle.script_grammar.specs.Rules.Symbol.{Clauses, Elements, Expr, Statement, Statements}
use Rattle.script_grammar.specs.Stmts as s
use Rattle.script_grammar.specs.Words.{is_word, stops}
use Rattle.script_grammar.specs.declared.stop.Stop.{Stop}

-- ---- `switch`

-- the clauses in their braces
abbrev pub clauses_rule : {n : Symbol} → (c : Context) → (List clause.Case → Rule n) → Rule n
clauses_rule c rule = expect m.OpenBrace (read 1 (Clauses c false []) (λ all _. expect m.CloseBrace (rule all)))

pub record TookClauses (c : Context) (b : ℕ) (ts : List Token) (all : List clause.Case) (height : ℕ) (rest : List Token) : Type 0 where
  pub row : (n : Symbol) (h : ℕ) (rule : List clause.Case → Rule n) (o : Outcome n) → Has n b (rule all) rest (max h height) o → Has n b (clauses_rule c rule) ts h o

pub record MissesClauses (c : Context) (b : ℕ) (ts : List Token) (e : Stop) : Type 0 where
  pub row : (n : Symbol) (h : ℕ) (rule : List clause.Case → Rule n) → Has n b (clauses_rule c rule) ts h (Err e)

-- a clause with its test, after the word
abbrev pub case_rule : {n : Symbol} → (c : Context) → (clause.Case → Rule n) → Rule n
case_rule c rule = read 0 (Expr false) (λ v _. expect m.Colon (read 0 (Statements c []) (λ body _. rule (case_of (Some v.expr) body))))

pub record TookCase (c : Context) (b : ℕ) (ts : List Token) (one : clause.Case) (height : ℕ) (rest : List Token) : Type 0 where
  pub row : (n : Symbol) (h : ℕ) (rule : clause.Case → Rule n) (o : Outcome n) → Has n b (rule one) rest (max h height) o → Has n b (case_rule c rule) ts h o

pub record MissesCase (c : Context) (b : ℕ) (ts : List Token) (e : Stop) : Type 0 where
  pub row : (n : Symbol) (h : ℕ) (rule : clause.Case → Rule n) → Has n b (case_rule c rule) ts h (Err e)

-- One clause stands first, and so much is read of it.
pub record TookClause (c : Context) (stood : Bool) (b : ℕ) (ts : List Token) (one : clause.Case) (stands : Bool) (height : ℕ) (rest : List Token) : Type 0 where
  pub row : (so_far : List clause.Case) → Continues (List clause.Case) b (Clauses c stands (so_far ++ one ∷ [])) (Clauses c stood so_far) (λ v. v) (λ v. v) height rest ts
  pub shorter : length rest < length ts

pub record MissesClause (c : Context) (stood : Bool) (b : ℕ) (ts : List Token) (e : Stop) : Type 0 where
  pub row : (so_far : List clause.Case) → Goes 200 (Clauses c stood so_far) b (grammar (Clauses c stood so_far)) ts (Err e)

-- The clauses end.
pub record NoClause (c : Context) (stood : Bool) (b : ℕ) (ts : List Token) : Type 0 where
  pub row : (so_far : List clause.Case) → Goes 200 (Clauses c stood so_far) b (grammar (Clauses c stood so_far)) ts (Ok record { value = so_far; height = 0; rest = ts })

-- ---- `try`

-- after the body
abbrev pub handlers_rule : {c : Context} → Stmt → Rule (Statement c)
handlers_rule body = peek (λ t. either (is_word w.Catch t) (eat (catch_rule body)) (after_try body None false t))

-- after `finally`
abbrev pub last_rule : {c : Context} → Stmt → Option catch.Catch → Rule (Statement c)
last_rule {c} body caught = block c (λ last. give (s.Try body caught (Some last)))

-- the name and the block of a catch
abbrev pub caught_rule : {n : Symbol} → (c : Context) → (catch.Catch → Rule n) → Rule n
caught_rule c rule = expect m.OpenParen (a_name (λ units. expect m.CloseParen (block c (λ inner. rule (catch_of units inner)))))

pub record TookCatch (c : Context) (b : ℕ) (ts : List Token) (one : catch.Catch) (height : ℕ) (rest : List Token) : Type 0 where
  pub row : (n : Symbol) (h : ℕ) (rule : catch.Catch → Rule n) (o : Outcome n) → Has n b (rule one) rest (max h height) o → Has n b (caught_rule c rule) ts h o

pub record MissesCatch (c : Context) (b : ℕ) (ts : List Token) (e : Stop) : Type 0 where
  pub row : (n : Symbol) (h : ℕ) (rule : catch.Catch → Rule n) → Has n b (caught_rule c rule) ts h (Err e)

-- ---- declarations and statements in a row

-- Where the next token ends no script and begins a declaration or not, one more of them is read, and the lists are longer by it.
pub record TookElement (f declares : Bool) (functions : List declaration.Declaration) (statements : List Stmt) (b : ℕ) (ts : List Token)
    (more : List declaration.Declaration) (longer : List Stmt) (height : ℕ) (rest : List Token) : Type 0 where
  pub row : (t : Token) (us : List Token) → ts ≡ t ∷ us → stops t ≡ false → is_word w.Function t ≡ declares
      → Continues script.Script b (Elements f more longer) (Elements f functions statements) (λ v. v) (λ v. v) height rest ts
  pub shorter : length rest < length ts

pub record MissesElement (f declares : Bool) (functions : List declaration.Declaration) (statements : List Stmt) (b : ℕ) (ts : List Token) (e : Stop) : Type 0 where
  pub row : (t : Token) (us : List Token) → ts ≡ t ∷ us → stops t ≡ false → is_word w.Function t ≡ declares
      → Goes 200 (Elements f functions statements) b (grammar (Elements f functions statements)) ts (Err e)
