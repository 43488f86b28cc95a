-- What it is to read along a row, where another relation reads the symbols within it.
use Rattle.std.specs.Prelude.{◌≡◌, ℕ, ◌+◌, max, false, List, ◌∷◌, Ok}
use Rattle.js_lexer.specs.declared.Token.{Token}
use Rattle.script_grammar.specs.Words.{is_end}
use Rattle.script_grammar.specs.Rules.{Symbol, Value, Rule}
use Rattle.script_grammar.specs.Rules.Rule.{give, peek, eat, node, stand, read}
use Rattle.script_grammar.specs.Grammar.{grammar}
use Rattle.script_grammar.specs.Goes.{Goes}

pub data Path (P : (m : Symbol) → List Token → Value m → ℕ → List Token → Type 0) : (n : Symbol) → Rule n → List Token → Value n → ℕ → List Token → Type 0 where
  gives : {n : Symbol} {v : Value n} {ts : List Token} → Path P n (give v) ts v 0 ts
  peeks : {n : Symbol} {f : Token → Rule n} {t : Token} {ts rest : List Token} {v : Value n} {h : ℕ}
      → Path P n (f t) (t ∷ ts) v h rest → Path P n (peek f) (t ∷ ts) v h rest
  eats : {n : Symbol} {r : Rule n} {t : Token} {ts rest : List Token} {v : Value n} {h : ℕ}
      → is_end t ≡ false → Path P n r ts v h rest → Path P n (eat r) (t ∷ ts) v h rest
  nodes : {n : Symbol} {k : ℕ} {r : Rule n} {t : Token} {ts rest : List Token} {v : Value n} {h : ℕ}
      → is_end t ≡ false → Path P n r ts v h rest → Path P n (node k r) (t ∷ ts) v (max k h) rest
  begins : {n : Symbol} {k : ℕ} {r : Rule n} {t : Token} {ts rest : List Token} {v : Value n} {h : ℕ}
      → Path P n r (t ∷ ts) v h rest → Path P n (stand k r) (t ∷ ts) v (max k h) rest
  reads : {n m : Symbol} {k : ℕ} {f : Value m → ℕ → Rule n} {ts us rest : List Token} {w : Value m} {i : ℕ} {v : Value n} {h : ℕ}
      → P m ts w i us → Path P n (f w i) us v h rest → Path P n (read k m f) ts v (max (k + i) h) rest

-- The table reads a symbol of these tokens as this, in so many levels of nodes.
abbrev pub Table : (n : Symbol) → List Token → Value n → ℕ → List Token → Type 0
Table n ts v h rest = Goes h n 0 (grammar n) ts (Ok record { value = v; height = h; rest = rest })
