-- Clauses, statements and declarations, each as a step of the row that holds it.
use Rattle.std.proofs.Common.{◌≡◌, ◌≢◌, ℕ, ◌+◌, ◌<◌, ◌≤◌, max, Bool, true, false, not, ◌&&◌, None, List, [], ◌∷◌, ◌++◌, length, Result, Ok, Err, MatchResult, refl, ap, sym, ◌∙◌, subst, arith}
use Rattle.std.specs.Borrow.{Bor}
use Rattle.js_lexer.specs.declared.Kind.{Kind}
use Rattle.js_lexer.specs.declared.Kind.TheVariants as kind
use Rattle.js_lexer.specs.declared.Mark.{Mark}
use Rattle.js_lexer.specs.declared.Mark.TheVariants as m
use Rattle.js_lexer.specs.declared.Reserved.{Reserved}
use Rattle.js_lexer.specs.declared.Reserved.TheVariants as w
use Rattle.js_lexer.specs.declared.Token.{Token}
use Rattle.js_tree.specs.declared.Case as clause
use Rattle.js_tree.specs.declared.Declaration as declaration
use Rattle.js_tree.specs.declared.Script as script
use Rattle.js_tree.specs.declared.Stmt.{Stmt}
use Rattle.js_tree.specs.Trees.{case_of}
use Rattle.part_rows.specs.Lines.{Opened, TookBody, MissesBody}
use Rattle.part_rows.proofs.Hungry.{declaration_shorter, statement_shorter}
use Rattle.part_rows.proofs.Joints.{left_true}
use Rattle.part_rows.proofs.Turns.{chain, turn_element, turn_function}
use Rattle.script_grammar.specs.Goes.{Goes}
use Rattle.script_grammar.specs.Grammar.{grammar, as_read, outer}
use Rattle.script_grammar.specs.Meets.{Continues, Follows, Meets, Took}
use Rattle.script_grammar.specs.Rules.{Context, Rule}
use Rattle.script_grammar.specs.Rules.Rule.{give}
use Rattle.script_grammar.specs.Rules.Symbol.{Block, Clauses, Declaration, Elements, Statement, Statements}
use Rattle.script_grammar.specs.Words.{is, is_word, kind_is, same_mark, start_of}
use Rattle.script_grammar.specs.declared.classes.Start.TheVariants as start
use Rattle.script_grammar.specs.declared.stop.Stop.{Stop}
use Rattle.script_grammar.specs.declared.stop.Stop.TheVariants.{Memory}
use Rattle.script_grammar.proofs.Along.{row, gives, peeks, eats, passes_level, fails_level, expects, yes, no}
use Rattle.script_grammar.proofs.Generic.{shorter}
use Rattle.script_grammar.proofs.Tokens.{live_word}
use Rattle.script_rows.specs.Parts.{TookCase, TookClause, TookElement, MissesElement}

-- ---- the clauses of a switch

abbrev With : (c : Context) (stood stands : Bool) (so_far : List clause.Case) → clause.Case → Rule (Clauses c stood so_far)
With c stood stands so_far one = as_read (Clauses c stands (so_far ++ one ∷ [])) (λ v. v)

abbrev Turns : (c : Context) (b : ℕ) (k n : Bool) (so_far first : List clause.Case) → ℕ → List Token → List Token → Type 0
Turns c b k n so_far first height ts all = Continues (List clause.Case) b (Clauses c k so_far) (Clauses c n first) (λ v. v) (λ v. v) height ts all

module _ {c : Context} {stood : Bool} {b height : ℕ} {one : clause.Case} {ts after rest : List Token} {t : Token} (next : ts ≡ t ∷ after) where
  pub turn_case : is_word w.Case t ≡ true → TookCase c b after one height rest → (so_far : List clause.Case) → Turns c b stood stood (so_far ++ one ∷ []) so_far height rest ts
  turn_case q took so_far = record {
    reads = λ v h left g. row (peeks next (yes _ q (eats (live_word w.Case t q) next (took.row (Clauses c stood so_far) 0 (With c stood stood so_far) _ (passes_level g (gives refl (omega arith)))))));
    stops = λ e g. row (peeks next (yes _ q (eats (live_word w.Case t q) next (took.row (Clauses c stood so_far) 0 (With c stood stood so_far) _ (fails_level g)))));
  }

case_after : {c : Context} {b height : ℕ} {one : clause.Case} {after rest : List Token} → TookCase c b after one height rest → length rest ≤ length after
case_after {c} {height = height} {one = one} took = shorter (row (took.row (Clauses c false []) 0 (λ x. give (x ∷ [])) _ (gives {v = one ∷ []} {k = max 0 height} refl refl)))

pub case_shorter : {c : Context} {b height : ℕ} {one : clause.Case} {ts after rest : List Token} {t : Token} → ts ≡ t ∷ after → TookCase c b after one height rest → length rest < length ts
case_shorter next took = omega (arith, ap length next, case_after took)

module _ {c : Context} {stood : Bool} {b height : ℕ} {body : List Stmt} {ts after rest : List Token} {t : Token} (next : ts ≡ t ∷ after) (first : is_word w.Case t ≡ false) where
  pub turn_default : is_word w.Default t && not stood ≡ true → TookBody c b after body height rest → (one : clause.Case) → one ≡ case_of None body → (so_far : List clause.Case)
      → Turns c b true stood (so_far ++ one ∷ []) so_far height rest ts
  turn_default q took one e so_far = subst (λ x. Turns c b true stood (so_far ++ x ∷ []) so_far height rest ts) (sym e) (record {
    reads = λ v h left g. row (peeks next (no _ first (yes _ q (eats (live_word w.Default t (left_true _ _ q)) next (took.row (Clauses c stood so_far) 0 (λ x. With c stood true so_far (case_of None x)) _ (passes_level g (gives refl (omega arith))))))));
    stops = λ e g. row (peeks next (no _ first (yes _ q (eats (live_word w.Default t (left_true _ _ q)) next (took.row (Clauses c stood so_far) 0 (λ x. With c stood true so_far (case_of None x)) _ (fails_level g))))));
  })

body_after : {c : Context} {b height : ℕ} {body : List Stmt} {after rest : List Token} → TookBody c b after body height rest → length rest ≤ length after
body_after {c} {height = height} {body = body} took = shorter (row (took.row (Statements c []) 0 (λ x. give x) _ (gives {v = body} {k = max 0 height} refl refl)))

pub default_shorter : {c : Context} {b height : ℕ} {body : List Stmt} {ts after rest : List Token} {t : Token} → ts ≡ t ∷ after → TookBody c b after body height rest → length rest < length ts
default_shorter next took = omega (arith, ap length next, body_after took)

pub again_clauses : {c : Context} {b tall height : ℕ} {stood stands : Bool} {so_far : List clause.Case} {one : clause.Case} {ts all rest : List Token}
    → Turns c b stood false so_far [] tall ts all → TookClause c stood b ts one stands height rest
    → (more : List clause.Case) (high : ℕ) → more ≡ so_far ++ one ∷ [] → high ≡ max tall height → Turns c b stands false more [] high rest all
again_clauses {c} {b} {stands = stands} {so_far = so_far} {all = all} {rest = rest} turns took more high e q = subst (λ x. Turns c b stands false x [] high rest all) (sym e) (chain turns (took.row so_far) q)

pub fits : (b tall height high : ℕ) → b + tall ≤ 200 → b + height ≤ 200 → high ≡ max tall height → b + high ≤ 200
fits b tall height high p q e = omega arith

pub body_of : (c : Context) (b : ℕ) {ts after : List Token} (r : Result (List Stmt × ℕ × Bor (List Token)) Stop) → Took m.Colon ts after → Meets (Statements c []) b after r
    → MatchResult r (λ p. TookBody c b ts p.0 p.1 p.2.now) (λ e. e ≢ Memory → MissesBody c b ts e)
body_of c b (Ok p) colon f = record { row = λ n h rule o x. expects colon (passes_level f x) }
body_of c b (Err e) colon f = λ never. record { row = λ n h rule. expects colon (fails_level (f never)) }

-- ---- a statement by its first token

pub as_block : (c : Context) (b : ℕ) (ts : List Token) (r : Result (Stmt × ℕ × Bor (List Token)) Stop) → Meets (Block c) b ts r → Follows (Statement c) b (as_read (Block c) (λ v. v)) ts r
as_block c b ts (Ok p) f = row (passes_level f (gives refl (omega arith)))
as_block c b ts (Err e) f = λ never. row (fails_level (f never))

other_block : start.Block ≡ start.Parenthesis → ⊥
other_block e = cc

other_empty : start.Empty ≡ start.Parenthesis → ⊥
other_empty e = cc

other_name : start.Identifier ≡ start.Parenthesis → ⊥
other_name e = cc

other_expression : start.Expression ≡ start.Parenthesis → ⊥
other_expression e = cc

word_opens : (v : Reserved) → start_of (kind.Reserved v) ≡ start.Parenthesis → ⊥
unfolding start_of
word_opens w.Var e = cc
word_opens w.If e = cc
word_opens w.Do e = cc
word_opens w.While e = cc
word_opens w.For e = cc
word_opens w.Continue e = cc
word_opens w.Break e = cc
word_opens w.Return e = cc
word_opens w.Throw e = cc
word_opens w.Switch e = cc
word_opens w.Try e = cc
word_opens w.Function e = cc
word_opens _ e = cc

mark_opens : (x : Mark) → start_of (kind.Mark x) ≡ start.Parenthesis → same_mark m.OpenParen x ≡ true
unfolding start_of same_mark
mark_opens m.OpenParen e = refl
mark_opens m.OpenBrace e = absurd (other_block e)
mark_opens m.Semicolon e = absurd (other_empty e)
mark_opens _ e = absurd (other_expression e)

kind_opens : (k : Kind) → start_of k ≡ start.Parenthesis → kind_is m.OpenParen k ≡ true
unfolding start_of
kind_opens (kind.Mark x) e = mark_opens x e
kind_opens (kind.Reserved v) e = absurd (word_opens v e)
kind_opens (kind.Word units) e = absurd (other_name e)
kind_opens _ e = absurd (other_expression e)

token_opens : (t : Token) → start_of t.kind ≡ start.Parenthesis → is m.OpenParen t ≡ true
unfolding is
token_opens t e = kind_opens t.kind e

head_is : {t u : Token} {ts us : List Token} → t ∷ ts ≡ u ∷ us → t ≡ u
head_is e = cc

pub opened : {ts rest : List Token} {t : Token} → ts ≡ t ∷ rest → start.Parenthesis ≡ start_of t.kind → Opened ts
opened {t = t} e q = λ u us x. ap (is m.OpenParen) (sym (head_is (sym e ∙ x))) ∙ token_opens t (sym q)

-- ---- declarations and statements in a row

module _ {f : Bool} {b height : ℕ} {functions : List declaration.Declaration} {statements : List Stmt} {ts rest : List Token} where
  pub declared : {one : declaration.Declaration} (more : List declaration.Declaration) → more ≡ functions ++ one ∷ []
      → Goes 200 Declaration b (grammar Declaration) ts (Ok record { value = one; height = height; rest = rest }) → TookElement f true functions statements b ts more statements height rest
  declared more e g = record {
    row = λ t us next going q. subst (λ x. Continues script.Script b (Elements f x statements) (Elements f functions statements) (λ v. v) (λ v. v) height rest ts) (sym e) (turn_function next going q g);
    shorter = declaration_shorter g;
  }

  pub stated : {one : Stmt} {c : Context} (longer : List Stmt) → longer ≡ statements ++ one ∷ [] → c ≡ outer f
      → Goes 200 (Statement c) b (grammar (Statement c)) ts (Ok record { value = one; height = height; rest = rest }) → TookElement f false functions statements b ts functions longer height rest
  stated {one} longer e q g = go (subst (λ x. Goes 200 (Statement x) b (grammar (Statement x)) ts (Ok record { value = one; height = height; rest = rest })) q g)
    where
      go : Goes 200 (Statement (outer f)) b (grammar (Statement (outer f))) ts (Ok record { value = one; height = height; rest = rest }) → TookElement f false functions statements b ts functions longer height rest
      go g = record {
        row = λ t us next going q. subst (λ x. Continues script.Script b (Elements f functions x) (Elements f functions statements) (λ v. v) (λ v. v) height rest ts) (sym e) (turn_element next going q g);
        shorter = statement_shorter g;
      }

module _ {f : Bool} {b : ℕ} {functions : List declaration.Declaration} {statements : List Stmt} {ts : List Token} {e : Stop} where
  pub undeclared : Goes 200 Declaration b (grammar Declaration) ts (Err e) → MissesElement f true functions statements b ts e
  undeclared g = record { row = λ t us next going q. row (peeks next (no _ going (yes _ q (fails_level g)))) }

  pub unstated : {c : Context} → c ≡ outer f → Goes 200 (Statement c) b (grammar (Statement c)) ts (Err e) → MissesElement f false functions statements b ts e
  unstated q g = go (subst (λ x. Goes 200 (Statement x) b (grammar (Statement x)) ts (Err e)) q g)
    where
      go : Goes 200 (Statement (outer f)) b (grammar (Statement (outer f))) ts (Err e) → MissesElement f false functions statements b ts e
      go g = record { row = λ t us next going q. row (peeks next (no _ going (no _ q (fails_level g)))) }
