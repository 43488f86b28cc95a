-- The punctuators at a place lie on one path, so the one that can't be extended is the longest.
use Rattle.std.proofs.Common.{◌≡◌, ◌≤◌, ◌<◌, ℕ, List, length, get_or, Some, None, refl, sym, ◌∙◌, ap, inl, inr, arith}
use Rattle.std.proofs.Math.Nat.{eq-or-lt_of_le}
use Rattle.std.proofs.lemmas.Bool.Decides.{leb_tells}
use Rattle.std.proofs.lemmas.List.{get_or_past}
use Rattle.js_lexer.specs.Marks.{single, extend}
use Rattle.js_lexer.specs.Pieces.{Spells, one, more}
use Rattle.js_lexer.specs.declared.Mark.{Mark}
use Rattle.js_lexer.specs.declared.Mark.TheVariants as m

pub spells_after : {text : List ℕ} {i : ℕ} {m : Mark} {j : ℕ} → Spells text i m j → i < j
spells_after (one e f) = omega arith
spells_after (more s e f) = let h = spells_after s in omega (arith, h)

same_some : {A : Type 0} {x y : A} → Some x ≡ Some y → x ≡ y
same_some e = cc

pub one_mark : {text : List ℕ} {i : ℕ} {m n : Mark} {j k : ℕ} → Spells text i m j → Spells text i n k → j ≡ k → m ≡ n
one_mark (one e f) (one g h) same = same_some (sym e ∙ g)
one_mark (one e f) (more t g h) same = let a = spells_after t in absurd (omega (arith, a, f, h, same))
one_mark (more s e f) (one g h) same = let a = spells_after s in absurd (omega (arith, a, f, h, same))
one_mark {text} (more {m = a} {j = b} s e f) (more {m = c} {j = d} t g h) same =
    let places : b ≡ d = omega (arith, f, h, same) in
    let marks : a ≡ c = one_mark s t places in
    same_some (sym e ∙ ap (λ p. extend p (get_or text b 0)) marks ∙ ap (λ q. extend c (get_or text q 0)) places ∙ g)

no_some : {A : Type 0} {x : A} → None ≡ Some x → ⊥
no_some e = cc

pub longest_mark : {text : List ℕ} {i : ℕ} {m n : Mark} {j k : ℕ} → Spells text i m j → extend m (get_or text j 0) ≡ None → Spells text i n k → k ≤ j
longest_mark s last (one g h) = let a = spells_after s in omega (arith, a, h)
longest_mark {text} {i} {m} {j = j} s last (more {m = c} {j = d} t g h) =
    elim (eq-or-lt_of_le (longest_mark s last t)) [
      | inl same ↦ absurd (no_some (sym last ∙ ap (λ p. extend p (get_or text j 0)) (one_mark s t (sym same)) ∙ ap (λ q. extend c (get_or text q 0)) (sym same) ∙ g))
      | inr less ↦ omega (arith, less, h)
    ]

-- no punctuator goes on with NUL, which stands past the end
pub extend-nul : (m : Mark) → extend m 0 ≡ None
unfolding extend
extend-nul m.Less = refl
extend-nul m.Greater = refl
extend-nul _ = refl

pub extend_within : (text : List ℕ) (k : ℕ) (m n : Mark) → extend m (get_or text k 0) ≡ Some n → k < length text
extend_within text k m n e = elim (leb_tells (length text) k) [
  | inl t ↦ absurd (no_some (sym (ap (extend m) (get_or_past text k 0 t.1) ∙ extend-nul m) ∙ e))
  | inr t ↦ t.1
]

pub no_single : {text : List ℕ} {i : ℕ} {m : Mark} {j : ℕ} → single (get_or text i 0) ≡ None → Spells text i m j → ⊥
no_single e (one f g) = no_some (sym e ∙ f)
no_single e (more t f g) = no_single e t
