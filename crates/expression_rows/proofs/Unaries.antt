-- Operators before and after an operand, and the operand of `delete`.
use Rattle.std.proofs.Common.{◌≡◌, ◌≢◌, ℕ, ◌+◌, ◌<◌, ◌≤◌, max, Bool, true, false, not, ◌&&◌, Option, Some, None, List, [], ◌∷◌, Result, Ok, Err, refl, sym, subst, arith, MatchResult}
use Rattle.std.specs.Borrow.{Bor}
use Rattle.js_lexer.specs.declared.Token.{Token}
use Rattle.js_tree.specs.declared.Expr.{Expr}
use Rattle.js_tree.specs.declared.ExprNode.TheOpen.{ExprNode-F}
use Rattle.js_tree.specs.declared.Sign.{Sign}
use Rattle.js_tree.specs.Trees.{ExprLevel, expr_level}
use Rattle.tree_drops.specs.Deletes.{delete_of}
use Rattle.script_grammar.specs.declared.Form.{Form}
use Rattle.script_grammar.specs.declared.Form.TheVariants as form
use Rattle.script_grammar.specs.declared.classes.Operand.{Operand}
use Rattle.script_grammar.specs.declared.classes.Prefix.TheVariants as prefix
use Rattle.script_grammar.specs.declared.stop.Stop.{Stop}
use Rattle.script_grammar.specs.declared.stop.Stop.TheVariants.{Ends, Memory}
use Rattle.script_grammar.specs.Words.{is_end, prefix_of, step_of}
use Rattle.script_grammar.specs.Rules.{Symbol, Rule, Outcome}
use Rattle.script_grammar.specs.Rules.Rule.{give, refuse}
use Rattle.script_grammar.specs.Rules.Symbol.{Deleted, Left, Postfix, Unary}
use Rattle.script_grammar.specs.Grammar.{grammar, either, plain, unary_by, postfix_by, postfix_after, deleted, deleted_level, deleted_step, deleted_end}
use Rattle.script_grammar.specs.Goes.Goes.{ends_refuse}
use Rattle.script_grammar.specs.Meets.{Has, Meets}
use Rattle.script_grammar.specs.Meets.Has.{has}
use Rattle.expression_rows.specs.Parts.{TookBeneath, MissesBeneath, step_by, step_after}
use Rattle.script_grammar.proofs.Along.{row, gives, peeks, rises, passes, fails, passes_level, fails_level, by, as_high}
use Rattle.script_grammar.proofs.Tokens.{live_step}

-- the tokens end where one would be refused
pub refuses_end : {n : Symbol} {b : ℕ} (form : Option Form) {ts : List Token} {h : ℕ} {e : Stop} → ts ≡ [] → e ≡ Ends → Has n b (refuse form) ts h (Err e)
refuses_end {n} {b} form {ts} {h} {e} q w = subst (λ x. Has n b (refuse form) x h (Err e)) (sym q) (subst (λ y. Has n b (refuse form) [] h (Err y)) (sym w) (has ends_refuse refl))

-- an expression with no operator before it
pub as_postfix : (b : ℕ) {ts rest : List Token} {t : Token} (r : Result (Operand × ℕ × Bor (List Token)) Stop) → ts ≡ t ∷ rest → prefix.Neither ≡ prefix_of t.kind → Meets Postfix b ts r → Meets Unary b ts r
as_postfix b (Ok x) e s g = row (peeks e (by unary_by s (passes_level g (gives refl (omega arith)))))
as_postfix b (Err stop) e s g = λ not. row (peeks e (by unary_by s (fails_level (g not))))

-- an operand one deeper, after its operator
pub is_beneath : (b : ℕ) (ts : List Token) (r : Result (Operand × ℕ × Bor (List Token)) Stop) → b + 1 ≤ 200 → Meets Unary (b + 1) ts r
    → MatchResult r (λ r. TookBeneath b ts r.0 r.1 r.2.now) (λ e. e ≢ Memory → MissesBeneath b ts e)
is_beneath b ts (Ok x) fits g = record { row = λ t h rule o live w. rises live refl fits (passes g (as_high (omega arith) w)) }
is_beneath b ts (Err stop) fits g = λ not. record { row = λ t h rule live. rises live refl fits (fails (g not)) }

-- `++` and `--` after an operand
live_by_test : (test : Bool) (t : Token) (x : Sign) → step_by test (step_of t.kind) ≡ Some x → is_end t ≡ false
live_by_test true t x e = live_step t x e
live_by_test false t x e = absurd (let z : ◌≡◌ {A = Option Sign} None (Some x) = e in cc)

pub live_after : (target : Bool) (t : Token) (x : Sign) → Some x ≡ step_after target t → is_end t ≡ false
live_after target t x e = live_by_test (target && not t.after_newline) t x (sym e)

postfix_test : {b h : ℕ} (height : ℕ) (left : Operand) {ts : List Token} {o : Outcome Postfix} (test : Bool) (step : Option Sign)
    → Has Postfix b (postfix_by left height (step_by test step)) ts h o → Has Postfix b (either test (postfix_by left height step) (give left)) ts h o
postfix_test height left true step w = w
postfix_test height left false step w = w

pub stepped : {b h : ℕ} (height : ℕ) (left : Operand) (t : Token) {ts : List Token} {o : Outcome Postfix} (step : Option Sign) → step ≡ step_after left.target t
    → Has Postfix b (postfix_by left height step) ts h o → Has Postfix b (postfix_after left height t) ts h o
stepped {b} {h} height left t {ts} {o} step e w =
    postfix_test height left (left.target && not t.after_newline) (step_of t.kind) (by (λ x. postfix_by left height x) e w)

deleted_test : {b h height : ℕ} {left : Operand} {ts : List Token} {o : Outcome (Deleted left height)} (test : Bool) (step : Option Sign)
    → Has (Deleted left height) b (deleted_step left height (step_by test step)) ts h o → Has (Deleted left height) b (either test (deleted_step left height step) (deleted left height)) ts h o
deleted_test true step w = w
deleted_test false step w = w

pub deleted_stepped : {b h height : ℕ} {left : Operand} (t : Token) {ts : List Token} {o : Outcome (Deleted left height)} (step : Option Sign) → step ≡ step_after left.target t
    → Has (Deleted left height) b (deleted_step left height step) ts h o → Has (Deleted left height) b (deleted_end left height t) ts h o
deleted_stepped {b} {h} {height} {left} t {ts} {o} step e w =
    deleted_test (left.target && not t.after_newline) (step_of t.kind) (by (λ x. deleted_step left height x) e w)

-- what is deleted: a member as written
abbrev pub deletes : {left : Operand} {height : ℕ} → Option Expr → Rule (Deleted left height)
deletes (Some made) = give (plain made)
deletes None = refuse (Some form.Delete)

deletes_level : (left : Operand) (height : ℕ) (level : ExprLevel) → ◌≡◌ {A = Rule (Deleted left height)} (deletes (delete_of level)) (deleted_level true level)
deletes_level left height (ExprNode-F.Member base key) = refl
deletes_level left height _ = refl

refuses_level : (left : Operand) (height : ℕ) (level : ExprLevel) → ◌≡◌ {A = Rule (Deleted left height)} (refuse (Some form.Delete)) (deleted_level false level)
refuses_level left height _ = refl

pub as_deleted : {b h height : ℕ} {left : Operand} {ts : List Token} {o : Outcome (Deleted left height)} (r : Option Expr) → left.target ≡ true → r ≡ delete_of (expr_level left.expr)
    → Has (Deleted left height) b (deletes r) ts h o → Has (Deleted left height) b (deleted left height) ts h o
as_deleted {b} {h} {height} {left} {ts} {o} r t e w =
    subst (λ x. Has (Deleted left height) b (deleted_level x (expr_level left.expr)) ts h o) (sym t)
    (subst (λ r. Has (Deleted left height) b r ts h o) (deletes_level left height (expr_level left.expr))
    (subst (λ x. Has (Deleted left height) b (deletes x) ts h o) e w))

pub not_deleted : {b h height : ℕ} {left : Operand} {ts : List Token} {o : Outcome (Deleted left height)} → left.target ≡ false
    → Has (Deleted left height) b (refuse (Some form.Delete)) ts h o → Has (Deleted left height) b (deleted left height) ts h o
not_deleted {b} {h} {height} {left} {ts} {o} t w =
    subst (λ x. Has (Deleted left height) b (deleted_level x (expr_level left.expr)) ts h o) (sym t)
    (subst (λ r. Has (Deleted left height) b r ts h o) (refuses_level left height (expr_level left.expr)) w)
