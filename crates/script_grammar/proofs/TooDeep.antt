-- An expression that would stand too deep.
use Rattle.std.proofs.Common.{◌≡◌, ℕ, zero, suc, ◌+◌, ◌<◌, ◌≤◌, Bool, true, false, Option, Some, None, List, [], ◌∷◌, Result, Ok, Err, refl, ap, sym, ◌∙◌, subst, arith, ◌⊎◌, inl, inr}
use Rattle.js_lexer.specs.declared.Token.{Token}
use Rattle.js_lexer.specs.declared.Reserved.TheVariants as w
use Rattle.script_grammar.specs.declared.Form.{Form}
use Rattle.script_grammar.specs.declared.classes.Prefix.{Prefix}
use Rattle.script_grammar.specs.declared.classes.Prefix.TheVariants as prefix
use Rattle.script_grammar.specs.declared.classes.Head.{Head}
use Rattle.script_grammar.specs.declared.classes.Head.TheVariants as head
use Rattle.script_grammar.specs.declared.classes.Name.TheVariants as ident
use Rattle.script_grammar.specs.declared.classes.Lead.TheVariants as lead
use Rattle.script_grammar.specs.declared.stop.Stop.{Stop}
use Rattle.script_grammar.specs.declared.stop.Stop.TheVariants.{Nesting, Ends}
use Rattle.script_grammar.specs.Words.{prefix_of, prefixed, some_prefix, head_of, lead_of, is_word, fault, form_at}
use Rattle.script_grammar.specs.Rules.{Symbol}
use Rattle.script_grammar.specs.Rules.Symbol.{Expr, Assign, Binary, Unary, New, Primary}
use Rattle.script_grammar.specs.Grammar.{grammar, unary_by, primary_by}
use Rattle.script_grammar.specs.Goes.{Goes}
use Rattle.script_grammar.specs.declared.classes.Lead.{Lead}
use Rattle.script_grammar.specs.Meets.{Has, Opens, Leads}
use Rattle.script_grammar.proofs.Along.{row, peeks, eats, sinks, refuses, fails, fails_level, by, yes, no}
use Rattle.script_grammar.proofs.Table.{begun}
use Rattle.script_grammar.proofs.Tokens.{live_prefix, live_head, live_word, new_no_prefix}

module _ {b : ℕ} {ts : List Token} {e : Stop} (w : Has Unary b (grammar Unary) ts 0 (Err e)) where
  by_level : (level : ℕ) → Goes 200 (Binary false level) b (grammar (Binary false level)) ts (Err e)
  by_level zero = row (fails_level (row w))
  by_level (suc level) = row (fails_level (by_level level))

  from_unary : Goes 200 (Expr false) b (grammar (Expr false)) ts (Err e)
  from_unary = row (fails_level (row (fails_level (row (fails_level (by_level 10))))))

module _ (t : Token) (b : ℕ) (ts : List Token) where
  node_prefix : (p : Prefix) → p ≡ prefix_of t.kind → some_prefix p ≡ true → 200 < b → Has Unary b (unary_by p) (t ∷ ts) 0 (Err Nesting)
  node_prefix prefix.Delete q e deep = sinks (live_prefix t _ (sym q) (λ z. cc)) refl (omega arith)
  node_prefix prefix.Void q e deep = sinks (live_prefix t _ (sym q) (λ z. cc)) refl (omega arith)
  node_prefix prefix.Typeof q e deep = sinks (live_prefix t _ (sym q) (λ z. cc)) refl (omega arith)
  node_prefix (prefix.Update x) q e deep = sinks (live_prefix t _ (sym q) (λ z. cc)) refl (omega arith)
  node_prefix (prefix.Signed x) q e deep = sinks (live_prefix t _ (sym q) (λ z. cc)) refl (omega arith)
  node_prefix prefix.Neither q e deep = absurd (cc)

  no_prefix : (p : Prefix) → some_prefix p ≡ false → prefix.Neither ≡ p
  no_prefix prefix.Delete e = absurd (cc)
  no_prefix prefix.Void e = absurd (cc)
  no_prefix prefix.Typeof e = absurd (cc)
  no_prefix (prefix.Update x) e = absurd (cc)
  no_prefix (prefix.Signed x) e = absurd (cc)
  no_prefix prefix.Neither e = refl

  prefixed_is : some_prefix (prefix_of t.kind) ≡ prefixed t.kind
  unfolding prefixed
  prefixed_is = refl

  pub deep_prefix : prefixed t.kind ≡ true → 200 < b → Goes 200 (Expr false) b (grammar (Expr false)) (t ∷ ts) (Err Nesting)
  deep_prefix e deep = from_unary (peeks refl (node_prefix (prefix_of t.kind) refl (prefixed_is ∙ e) deep))

  pub deep_new : is_word w.New t ≡ true → 200 < b → Goes 200 (Expr false) b (grammar (Expr false)) (t ∷ ts) (Err Nesting)
  deep_new e deep = from_unary (peeks refl (by unary_by (sym (new_no_prefix t e)) (fails_level (row (fails_level (row (peeks refl (yes _ e (fails_level (row
      (peeks refl (yes _ e (sinks (live_word w.New t e) refl (omega arith))))))))))))))

  -- no operator stands before the operand
  module _ (free : prefixed t.kind ≡ false) (old : is_word w.New t ≡ false) where
    from_primary : {e : Stop} (x : Head) → x ≡ head_of t.kind → Has Primary b (primary_by x) (t ∷ ts) 0 (Err e) → Goes 200 (Expr false) b (grammar (Expr false)) (t ∷ ts) (Err e)
    from_primary x q v = from_unary (peeks refl (by unary_by (no_prefix (prefix_of t.kind) (prefixed_is ∙ free)) (fails_level (row (fails_level (row (peeks refl (no _ old
        (fails_level (row (peeks refl (by primary_by q v))))))))))))

    node_head : (x : Head) → lead_of x ≡ lead.Node → x ≡ head_of t.kind → 200 < b → Has Primary b (primary_by x) (t ∷ ts) 0 (Err Nesting)
    node_head head.This e q deep = sinks (live_head t _ (sym q) (λ z. cc)) refl (omega arith)
    node_head (head.Identifier (ident.Named u)) e q deep = sinks (live_head t _ (sym q) (λ z. cc)) refl (omega arith)
    node_head (head.Identifier (ident.Out x)) e q deep = absurd (cc)
    node_head (head.Identifier ident.Other) e q deep = absurd (cc)
    node_head (head.Constant x) e q deep = sinks (live_head t _ (sym q) (λ z. cc)) refl (omega arith)
    node_head head.Array e q deep = sinks (live_head t _ (sym q) (λ z. cc)) refl (omega arith)
    node_head head.Object e q deep = sinks (live_head t _ (sym q) (λ z. cc)) refl (omega arith)
    node_head head.Parenthesis e q deep = absurd (cc)
    node_head head.Function e q deep = sinks (live_head t _ (sym q) (λ z. cc)) refl (omega arith)
    node_head head.Many e q deep = sinks (live_head t _ (sym q) (λ z. cc)) refl (omega arith)
    node_head (head.One x) e q deep = sinks (live_head t _ (sym q) (λ z. cc)) refl (omega arith)
    node_head (head.Zero x) e q deep = sinks (live_head t _ (sym q) (λ z. cc)) refl (omega arith)
    node_head head.RegExp e q deep = absurd (cc)
    node_head head.Neither e q deep = absurd (cc)

    same_form : {f g : Option Form} → lead.Refused f ≡ lead.Refused g → f ≡ g
    same_form e = cc

    refused_head : (x : Head) (f : Option Form) → lead_of x ≡ lead.Refused f → Has Primary b (primary_by x) (t ∷ ts) 0 (Err (fault (form_at f t) t.start))
    refused_head head.This f e = absurd (cc)
    refused_head (head.Identifier (ident.Named u)) f e = absurd (cc)
    refused_head (head.Identifier (ident.Out x)) f e = refuses refl (ap (λ y. fault (form_at y t) t.start) (sym (same_form e)))
    refused_head (head.Identifier ident.Other) f e = refuses refl (ap (λ y. fault (form_at y t) t.start) (sym (same_form e)))
    refused_head (head.Constant x) f e = absurd (cc)
    refused_head head.Array f e = absurd (cc)
    refused_head head.Object f e = absurd (cc)
    refused_head head.Parenthesis f e = absurd (cc)
    refused_head head.Function f e = absurd (cc)
    refused_head head.Many f e = absurd (cc)
    refused_head (head.One x) f e = absurd (cc)
    refused_head (head.Zero x) f e = absurd (cc)
    refused_head head.RegExp f e = refuses refl (ap (λ y. fault (form_at y t) t.start) (sym (same_form e)))
    refused_head head.Neither f e = refuses refl (ap (λ y. fault (form_at y t) t.start) (sym (same_form e)))

    open_head : {e : Stop} (x : Head) → lead_of x ≡ lead.Open → x ≡ head_of t.kind → Goes 200 (Expr false) (b + 1) (grammar (Expr false)) ts (Err e) → Has Primary b (primary_by x) (t ∷ ts) 0 (Err e)
    open_head head.This e q g = absurd (cc)
    open_head (head.Identifier (ident.Named u)) e q g = absurd (cc)
    open_head (head.Identifier (ident.Out x)) e q g = absurd (cc)
    open_head (head.Identifier ident.Other) e q g = absurd (cc)
    open_head (head.Constant x) e q g = absurd (cc)
    open_head head.Array e q g = absurd (cc)
    open_head head.Object e q g = absurd (cc)
    open_head head.Parenthesis e q g = eats (live_head t _ (sym q) (λ z. cc)) refl (fails g)
    open_head head.Function e q g = absurd (cc)
    open_head head.Many e q g = absurd (cc)
    open_head (head.One x) e q g = absurd (cc)
    open_head (head.Zero x) e q g = absurd (cc)
    open_head head.RegExp e q g = absurd (cc)
    open_head head.Neither e q g = absurd (cc)

    pub deep_node : lead_of (head_of t.kind) ≡ lead.Node → 200 < b → Goes 200 (Expr false) b (grammar (Expr false)) (t ∷ ts) (Err Nesting)
    deep_node e deep = from_primary (head_of t.kind) refl (node_head (head_of t.kind) e refl deep)

    pub deep_refused : (f : Option Form) → lead_of (head_of t.kind) ≡ lead.Refused f → Goes 200 (Expr false) b (grammar (Expr false)) (t ∷ ts) (Err (fault (form_at f t) t.start))
    deep_refused f e = from_primary (head_of t.kind) refl (refused_head (head_of t.kind) f e)

    pub deep_open : {e : Stop} → lead_of (head_of t.kind) ≡ lead.Open → Goes 200 (Expr false) (b + 1) (grammar (Expr false)) ts (Err e) → Goes 200 (Expr false) b (grammar (Expr false)) (t ∷ ts) (Err e)
    deep_open e g = from_primary (head_of t.kind) refl (open_head (head_of t.kind) e refl g)

pub stopped_as : {b : ℕ} {ts : List Token} {e f : Stop} → e ≡ f → Goes 200 (Expr false) b (grammar (Expr false)) ts (Err f) → Goes 200 (Expr false) b (grammar (Expr false)) ts (Err e)
stopped_as {b} {ts} q g = subst (λ x. Goes 200 (Expr false) b (grammar (Expr false)) ts (Err x)) (sym q) g

-- by what the operand leads with
pub led : (t : Token) → prefixed t.kind ≡ false → is_word w.New t ≡ false → (x : Head) → x ≡ head_of t.kind → (y : Lead) → y ≡ lead_of x → (why : Option Stop) → Leads y t why → Opens t why
led t free old x q y z None g = λ b ts e stop. deep_open t b ts free old (ap lead_of (sym q) ∙ sym z ∙ g) stop
led t free old x q y z (Some why) g = λ _ b ts deep. elim g [
  | inl i ↦ stopped_as i.1 (deep_node t b ts free old (ap lead_of (sym q) ∙ sym z ∙ i.0) deep)
  | inr i ↦ stopped_as i.2 (deep_refused t b ts free old i.0 (ap lead_of (sym q) ∙ sym z ∙ i.1))
]

-- at the token that comes next
pub deep_at : {ts rest : List Token} {t : Token} {e : Stop} {b : ℕ} → ts ≡ t ∷ rest → Goes 200 (Expr false) b (grammar (Expr false)) (t ∷ rest) (Err e) → Goes 200 (Expr false) b (grammar (Expr false)) ts (Err e)
deep_at {e = e} {b = b} q g = subst (λ x. Goes 200 (Expr false) b (grammar (Expr false)) x (Err e)) (sym q) g

pub deep_end : {ts : List Token} {e : Stop} (b : ℕ) → ts ≡ [] → e ≡ Ends → Goes 200 (Expr false) b (grammar (Expr false)) ts (Err e)
deep_end {ts} {e} b q z = stopped_as z (subst (λ x. Goes 200 (Expr false) b (grammar (Expr false)) x (Err Ends)) (sym q) (begun 200 (Expr false) b))
