-- More steps along rows: parts of rows that functions of their own read.
use Rattle.std.proofs.Common.{◌≡◌, ◌≢◌, ℕ, max, Bool, true, false, ◌&&◌, Option, List, [], ◌∷◌, Result, Ok, Err, MatchResult, length, ◌≤◌, refl, ap, sym, ◌∙◌, subst, arith}
use Rattle.js_lexer.specs.declared.Token.{Token}
use Rattle.js_lexer.specs.declared.Mark.TheVariants as m
use Rattle.js_lexer.specs.declared.Kind.{Kind}
use Rattle.js_lexer.specs.declared.Kind.TheVariants as kind
use Rattle.js_tree.specs.declared.Stmt.{Stmt}
use Rattle.script_grammar.specs.declared.Form.{Form}
use Rattle.script_grammar.specs.declared.stop.Stop.{Stop}
use Rattle.script_grammar.specs.declared.stop.Stop.TheVariants.{Ends, Memory}
use Rattle.script_grammar.specs.declared.classes.Start.{Start}
use Rattle.script_grammar.specs.declared.classes.Start.TheVariants as start
use Rattle.script_grammar.specs.Words.{Units, is, is_end, kind_ends, start_of, labels}
use Rattle.script_grammar.specs.Rules.{Context, Symbol, Value, Rule, Outcome}
use Rattle.script_grammar.specs.Rules.Symbol.{Statement, Names, Assign}
use Rattle.script_grammar.specs.Rules.Rule.{give, refuse, node}
use Rattle.script_grammar.specs.Grammar.{grammar, ends, halts, jump, ends_identifier, is_name}
use Rattle.js_tree.specs.declared.Expr as expr
use Rattle.std.specs.Borrow.{Bor}
use Rattle.script_grammar.proofs.Along.{row, gives, peeks, no, expects}
use Rattle.script_grammar.proofs.Generic.{shorter}
use Rattle.js_tree.specs.declared.Variable as variable
use Rattle.script_grammar.specs.declared.classes.Operand.{Operand}
use Rattle.script_grammar.specs.Stmts as s
use Rattle.script_grammar.specs.Goes.{Goes}
use Rattle.script_grammar.specs.Goes.Goes.{ends_refuse, ends_node}
use Rattle.script_grammar.specs.Meets.{Has, Took, TookName}
use Rattle.script_grammar.specs.Meets.Has.{has}
use Rattle.part_rows.specs.Lines.{Begun, Finished, Unfinished, FinishedName, UnfinishedName, TookClosed, MissesClosed, TookParentheses, MissesParentheses}

module _ {n : Symbol} {b : ℕ} where
  pub node_end : {k : ℕ} {r : Rule n} {ts : List Token} {h : ℕ} {e : Stop} → ts ≡ [] → e ≡ Ends → Has n b (node k r) ts h (Err e)
  node_end {k} {r} {ts} {h} {e} q w = subst (λ x. Has n b (node k r) x h (Err e)) (sym q) (subst (λ y. Has n b (node k r) [] h (Err y)) (sym w) (has ends_node refl))

  pub refuses_end : {form : Option Form} {ts : List Token} {h : ℕ} {e : Stop} → ts ≡ [] → e ≡ Ends → Has n b (refuse form) ts h (Err e)
  refuses_end {form} {ts} {h} {e} q w = subst (λ x. Has n b (refuse form) x h (Err e)) (sym q) (subst (λ y. Has n b (refuse form) [] h (Err y)) (sym w) (has ends_refuse refl))

  -- the rest of the row as another function read it
  pub onward : {r : Rule n} {ts rest : List Token} {v : Value n} {h i k : ℕ} → k ≡ max h i → Goes 200 n b r ts (Ok record { value = v; height = i; rest = rest }) → Has n b r ts h (Ok record { value = v; height = k; rest = rest })
  onward {rest = rest} {v = v} e g = has g (ap (λ x. Ok record { value = v; height = x; rest = rest }) e)

-- what stands round a statement, said in another way
pub round_reads : {c d : Context} {b : ℕ} {ts rest : List Token} {v : Stmt} {h : ℕ} → d ≡ c
    → Goes 200 (Statement d) b (grammar (Statement d)) ts (Ok record { value = v; height = h; rest = rest }) → Goes 200 (Statement c) b (grammar (Statement c)) ts (Ok record { value = v; height = h; rest = rest })
round_reads {b = b} {ts = ts} {rest = rest} {v = v} {h = h} e g = subst (λ x. Goes 200 (Statement x) b (grammar (Statement x)) ts (Ok record { value = v; height = h; rest = rest })) e g

pub round_stops : {c d : Context} {b : ℕ} {ts : List Token} {e : Stop} → d ≡ c → Goes 200 (Statement d) b (grammar (Statement d)) ts (Err e) → Goes 200 (Statement c) b (grammar (Statement c)) ts (Err e)
round_stops {b = b} {ts = ts} {e = e} q g = subst (λ x. Goes 200 (Statement x) b (grammar (Statement x)) ts (Err e)) q g

-- the end of a statement
ended_by : {c : Context} {b : ℕ} (part : (c : Context) → Stmt → Rule (Statement c)) {ts rest : List Token} {v w : Stmt} {h k : ℕ} → w ≡ v → k ≡ h → Finished part ts rest
    → Has (Statement c) b (part c v) ts h (Ok record { value = w; height = k; rest = rest })
ended_by {c} {b} part {ts} {rest} {v} {w} {h} {k} e q f = subst (λ x. Has (Statement c) b (part c v) ts h (Ok record { value = x; height = k; rest = rest })) (sym e)
    (subst (λ x. Has (Statement c) b (part c v) ts h (Ok record { value = v; height = x; rest = rest })) (sym q) (f.row c b h v))

module _ {c : Context} {b : ℕ} {ts rest : List Token} {v w : Stmt} {h k : ℕ} where
  pub ended : w ≡ v → k ≡ h → Finished (λ c made. ends made) ts rest → Has (Statement c) b (ends v) ts h (Ok record { value = w; height = k; rest = rest })
  ended e q f = ended_by (λ c made. ends made) e q f

  pub halted : w ≡ v → k ≡ h → Finished (λ c made. halts made) ts rest → Has (Statement c) b (halts v) ts h (Ok record { value = w; height = k; rest = rest })
  halted e q f = ended_by (λ c made. halts made) e q f

  pub jumped : w ≡ v → k ≡ h → Finished (λ c made. jump made) ts rest → Has (Statement c) b (jump v) ts h (Ok record { value = w; height = k; rest = rest })
  jumped e q f = ended_by (λ c made. jump made) e q f

pub ended_name : {c : Context} {b : ℕ} {ts rest : List Token} {value : _} {w : Stmt} {h k : ℕ} → w ≡ s.Expression value → k ≡ h → FinishedName value ts rest
    → Has (Statement c) b (ends_identifier value) ts h (Ok record { value = w; height = k; rest = rest })
ended_name {c} {b} {ts} {rest} {value} {w} {h} {k} e q f = subst (λ x. Has (Statement c) b (ends_identifier value) ts h (Ok record { value = x; height = k; rest = rest })) (sym e)
    (subst (λ x. Has (Statement c) b (ends_identifier value) ts h (Ok record { value = s.Expression value; height = x; rest = rest })) (sym q) (f.row c b h))

-- ---- what the first token is

head_is : {t u : Token} {ts us : List Token} → t ∷ ts ≡ u ∷ us → t ≡ u
head_is e = cc

pub begun : {ts rest : List Token} {t : Token} → ts ≡ t ∷ rest → is_end t ≡ false → Begun ts
begun e q = λ u us w. ap is_end (sym (head_is (sym e ∙ w))) ∙ q

end_start : start_of kind.End ≡ start.Expression
unfolding start_of
end_start = refl

start_live : (k : Kind) (x : Start) → x ≡ start_of k → (start.Expression ≡ x → ⊥) → kind_ends k ≡ false
start_live kind.End x e never = absurd (never (sym end_start ∙ sym e))
start_live _ x e never = refl

live_start : (t : Token) → kind_ends t.kind ≡ false → is_end t ≡ false
unfolding is_end
live_start t e = e

pub begun_start : {ts rest : List Token} {t : Token} (x : Start) → ts ≡ t ∷ rest → x ≡ start_of t.kind → (start.Expression ≡ x → ⊥) → Begun ts
begun_start {t = t} x e q never = begun e (live_start t (start_live t.kind x q never))

-- ---- the ends of statements, one in another

pub left_true : (a b : Bool) → a && b ≡ true → a ≡ true
left_true true b e = refl
left_true false b e = e

pub jumps : {ts rest : List Token} {t : Token} (r : Result (Bor (List Token)) Stop) → ts ≡ t ∷ rest → labels t ≡ false
    → MatchResult r (λ after. Finished (λ c made. halts made) ts after.now) (λ e. Unfinished (λ c made. halts made) ts e)
    → MatchResult r (λ after. Finished (λ c made. jump made) ts after.now) (λ e. Unfinished (λ c made. jump made) ts e)
jumps (Ok after) e q f = record { row = λ c b h made. peeks e (no _ q (f.row c b h made)) }
jumps (Err x) e q f = record { row = λ c b h made. peeks e (no _ q (f.row c b h made)) }

pub ends_named : {ts rest : List Token} {t : Token} (value : expr.Expr) (r : Result (Bor (List Token)) Stop) → ts ≡ t ∷ rest → is m.Colon t && is_name value ≡ false
    → MatchResult r (λ after. Finished (λ c made. ends made) ts after.now) (λ e. Unfinished (λ c made. ends made) ts e)
    → MatchResult r (λ after. FinishedName value ts after.now) (λ e. UnfinishedName value ts e)
ends_named value (Ok after) e q f = record { row = λ c b h. peeks e (no _ q (f.row c b h (s.Expression value))) }
ends_named value (Err x) e q f = record { row = λ c b h. peeks e (no _ q (f.row c b h (s.Expression value))) }

-- ---- an expression in parentheses

pub between : (b : ℕ) {ts rest : List Token} (r : Result (expr.Expr × ℕ × Bor (List Token)) Stop) → Took m.OpenParen ts rest
    → MatchResult r (λ p. TookClosed m.CloseParen b rest p.0 p.1 p.2.now) (λ e. e ≢ Memory → MissesClosed m.CloseParen b rest e)
    → MatchResult r (λ p. TookParentheses b ts p.0 p.1 p.2.now) (λ e. e ≢ Memory → MissesParentheses b ts e)
between b (Ok p) took f = record { row = λ n h rule o w. expects took (f.row n h rule o w) }
between b (Err e) took f = λ not. record { row = λ n h rule. expects took ((f not).row n h rule) }

-- ---- a variable

pub named_shorter : {ts rest : List Token} {units : Units} → TookName ts units rest → length rest ≤ length ts
named_shorter {ts} {rest} {units} took = shorter (row (took.row (Names []) 0 0 (λ x. give (x ∷ [])) _ (gives {v = units ∷ []} {k = 0} refl refl)))

pub given_shorter : {no_in : Bool} {b i : ℕ} {ts named after rest : List Token} {units : Units} {t : Token} {value : Operand} → TookName ts units named → named ≡ t ∷ after
    → Goes 200 (Assign no_in) b (grammar (Assign no_in)) after (Ok record { value = value; height = i; rest = rest }) → length rest ≤ length ts
given_shorter took e g = omega (arith, named_shorter took, ap length e, shorter g)

pub of_variable : {n : Symbol} {b h : ℕ} (rule : variable.Variable → Rule n) {v w : variable.Variable} {ts : List Token} {o : Outcome n} → w ≡ v → Has n b (rule w) ts h o → Has n b (rule v) ts h o
of_variable {n} {b} {h} rule {ts = ts} {o = o} e x = subst (λ y. Has n b (rule y) ts h o) e x
