-- Along a row: what holds of each path along it.
use Rattle.std.proofs.Common.{◌≡◌, ℕ, ◌+◌, max, Bool, true, false, Option, List, ◌∷◌, refl}
use Rattle.js_lexer.specs.declared.Mark.{Mark}
use Rattle.script_grammar.specs.declared.Form.{Form}
use Rattle.js_lexer.specs.declared.Token.{Token}
use Rattle.script_grammar.specs.Words.{is}
use Rattle.script_grammar.specs.Rules.{Symbol, Value, Rule}
use Rattle.script_grammar.specs.Rules.Rule.{give, refuse, peek, eat, node, stand, read}
use Rattle.script_grammar.specs.Grammar.{either, expect}
use Rattle.script_grammar.specs.Paths.{Path}
use Rattle.script_grammar.specs.Paths.Path.{gives, peeks, eats, nodes, begins, reads}

-- Of each path along a row over these tokens this holds.
pub data Then (P : (m : Symbol) → List Token → Value m → ℕ → List Token → Type 0) (n : Symbol) (r : Rule n) (ts : List Token) (Q : Value n → ℕ → List Token → Type 0) : Type 0 where
  so : ((v : Value n) (h : ℕ) (rest : List Token) → Path P n r ts v h rest → Q v h rest) → Then P n r ts Q

pub holds : {P : (m : Symbol) → List Token → Value m → ℕ → List Token → Type 0} {n : Symbol} {r : Rule n} {ts : List Token} {Q : Value n → ℕ → List Token → Type 0}
    → Then P n r ts Q → (v : Value n) (h : ℕ) (rest : List Token) → Path P n r ts v h rest → Q v h rest
holds (so f) = f

module _ {P : (m : Symbol) → List Token → Value m → ℕ → List Token → Type 0} {n : Symbol} where
  pub on_give : {w : Value n} {ts : List Token} {Q : Value n → ℕ → List Token → Type 0} → Q w 0 ts → Then P n (give w) ts Q
  on_give {w} {ts} {Q} q = so go
    where
      go : (v : Value n) (h : ℕ) (rest : List Token) → Path P n (give w) ts v h rest → Q v h rest
      go v h rest gives = q

  pub on_refuse : {form : Option Form} {ts : List Token} {Q : Value n → ℕ → List Token → Type 0} → Then P n (refuse form) ts Q
  on_refuse = so (λ v h rest x. elim x [ ])

  pub on_peek : {f : Token → Rule n} (Q : List Token → Value n → ℕ → List Token → Type 0) (ts : List Token)
      → ((t : Token) (us : List Token) → Then P n (f t) (t ∷ us) (Q (t ∷ us))) → Then P n (peek f) ts (Q ts)
  on_peek {f} Q ts k = so (go ts)
    where
      go : (ts : List Token) (v : Value n) (h : ℕ) (rest : List Token) → Path P n (peek f) ts v h rest → Q ts v h rest
      go ts v h rest (peeks {t = t} {ts = us} x) = holds (k t us) v h rest x

  pub on_eat : {r : Rule n} {t : Token} {ts : List Token} {Q : Value n → ℕ → List Token → Type 0} → Then P n r ts Q → Then P n (eat r) (t ∷ ts) Q
  on_eat {r} {t} {ts} {Q} k = so go
    where
      go : (v : Value n) (h : ℕ) (rest : List Token) → Path P n (eat r) (t ∷ ts) v h rest → Q v h rest
      go v h rest (eats e x) = holds k v h rest x

  pub on_node : {j : ℕ} {r : Rule n} {t : Token} {ts : List Token} {Q : Value n → ℕ → List Token → Type 0} → Then P n r ts (λ v h rest. Q v (max j h) rest) → Then P n (node j r) (t ∷ ts) Q
  on_node {j} {r} {t} {ts} {Q} k = so go
    where
      go : (v : Value n) (h : ℕ) (rest : List Token) → Path P n (node j r) (t ∷ ts) v h rest → Q v h rest
      go v h rest (nodes {h = i} e x) = holds k v i rest x

  pub on_read : {m : Symbol} {j : ℕ} {f : Value m → ℕ → Rule n} {ts : List Token} {Q : Value n → ℕ → List Token → Type 0}
      → ((w : Value m) (i : ℕ) (us : List Token) → P m ts w i us → Then P n (f w i) us (λ v h rest. Q v (max (j + i) h) rest)) → Then P n (read j m f) ts Q
  on_read {m} {j} {f} {ts} {Q} k = so go
    where
      go : (v : Value n) (h : ℕ) (rest : List Token) → Path P n (read j m f) ts v h rest → Q v h rest
      go v h rest (reads {us = us} {w = w} {i = i} {h = g} p x) = holds (k w i us p) v g rest x

  pub on_either : {r s : Rule n} {ts : List Token} {Q : Value n → ℕ → List Token → Type 0} (b : Bool)
      → (b ≡ true → Then P n r ts Q) → (b ≡ false → Then P n s ts Q) → Then P n (either b r s) ts Q
  on_either true f g = f refl
  on_either false f g = g refl

  pub on_expect : {r : Rule n} (mark : Mark) (Q : List Token → Value n → ℕ → List Token → Type 0) (ts : List Token)
      → ((t : Token) (us : List Token) → is mark t ≡ true → Then P n r us (Q (t ∷ us))) → Then P n (expect mark r) ts (Q ts)
  on_expect mark Q ts k = on_peek Q ts (λ t us. on_either (is mark t) (λ e. on_eat (k t us e)) (λ e. on_refuse))

  -- a member, and the token after it
  pub read_peek : {m : Symbol} {j : ℕ} {f : Value m → ℕ → Token → Rule n} {ts : List Token} {Q : Value n → ℕ → List Token → Type 0}
      → ((w : Value m) (i : ℕ) (t : Token) (us : List Token) → P m ts w i (t ∷ us) → Then P n (f w i t) (t ∷ us) (λ v h rest. Q v (max (j + i) h) rest))
      → Then P n (read j m (λ w i. peek (f w i))) ts Q
  read_peek {m} {j} {f} {ts} {Q} k = on_read (λ w i us p. so (go w i us p))
    where
      go : (w : Value m) (i : ℕ) (us : List Token) → P m ts w i us → (v : Value n) (h : ℕ) (rest : List Token) → Path P n (peek (f w i)) us v h rest → Q v (max (j + i) h) rest
      go w i us p v h rest (peeks {t = t} {ts = vs} x) = holds (k w i t vs p) v h rest x

  pub read_expect : {m : Symbol} {j : ℕ} {f : Value m → ℕ → Rule n} {ts : List Token} {Q : Value n → ℕ → List Token → Type 0} (mark : Mark)
      → ((w : Value m) (i : ℕ) (t : Token) (us : List Token) → P m ts w i (t ∷ us) → is mark t ≡ true → Then P n (f w i) us (λ v h rest. Q v (max (j + i) h) rest))
      → Then P n (read j m (λ w i. expect mark (f w i))) ts Q
  read_expect mark k = read_peek (λ w i t us p. on_either (is mark t) (λ e. on_eat (k w i t us p e)) (λ e. on_refuse))

  -- the next token, where a fact speaks of the tokens from there on
  pub peek_after : {f : Token → Rule n} {Q : Value n → ℕ → List Token → Type 0} (G : List Token → Type 0) (ts : List Token) → G ts
      → ((t : Token) (us : List Token) → G (t ∷ us) → Then P n (f t) (t ∷ us) Q) → Then P n (peek f) ts Q
  peek_after {f} {Q} G ts g k = so (go ts g)
    where
      go : (ts : List Token) → G ts → (v : Value n) (h : ℕ) (rest : List Token) → Path P n (peek f) ts v h rest → Q v h rest
      go ts g v h rest (peeks {t = t} {ts = us} x) = holds (k t us g) v h rest x

  pub expect_after : {r : Rule n} {Q : Value n → ℕ → List Token → Type 0} (mark : Mark) (G : List Token → Type 0) (ts : List Token) → G ts
      → ((t : Token) (us : List Token) → G (t ∷ us) → is mark t ≡ true → Then P n r us Q) → Then P n (expect mark r) ts Q
  expect_after mark G ts g k = peek_after G ts g (λ t us g. on_either (is mark t) (λ e. on_eat (k t us g e)) (λ e. on_refuse))

  pub same : {r : Rule n} {ts : List Token} {Q S : Value n → ℕ → List Token → Type 0} → ((v : Value n) (h : ℕ) (rest : List Token) → Q v h rest → S v h rest) → Then P n r ts Q → Then P n r ts S
  same f k = so (λ v h rest x. f v h rest (holds k v h rest x))

  -- a token that is known
  pub peek_known : {f : Token → Rule n} {t : Token} {ts : List Token} {Q : Value n → ℕ → List Token → Type 0} → Then P n (f t) (t ∷ ts) Q → Then P n (peek f) (t ∷ ts) Q
  peek_known {f} {t} {ts} {Q} k = so go
    where
      go : (v : Value n) (h : ℕ) (rest : List Token) → Path P n (peek f) (t ∷ ts) v h rest → Q v h rest
      go v h rest (peeks x) = holds k v h rest x

  pub on_stand : {j : ℕ} {r : Rule n} {t : Token} {ts : List Token} {Q : Value n → ℕ → List Token → Type 0} → Then P n r (t ∷ ts) (λ v h rest. Q v (max j h) rest) → Then P n (stand j r) (t ∷ ts) Q
  on_stand {j} {r} {t} {ts} {Q} k = so go
    where
      go : (v : Value n) (h : ℕ) (rest : List Token) → Path P n (stand j r) (t ∷ ts) v h rest → Q v h rest
      go v h rest (begins {h = i} x) = holds k v i rest x
