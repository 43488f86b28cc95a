-- Tasks with distinct tokens (own rules).
use Rattle.std.specs.Prelude.{◌≡◌, ℕ, List, [], ◌∷◌, None}
use Rattle.turk_base.specs.Trace.{answer}

-- pairs of a token and a text
abbrev pub Tasks : Type 0
Tasks = List (List ℕ × List ℕ)

-- no two tasks have one token
abbrev pub HasDistinctTokens : Tasks → Type 0
HasDistinctTokens [] = Unit {0}
HasDistinctTokens (t ∷ ts) = (answer ts t.0 ≡ None) × HasDistinctTokens ts
