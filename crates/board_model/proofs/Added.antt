-- A task more at the end.
use Rattle.std.proofs.Common.{◌≡◌, ℕ, Bool, true, false, cond, List, [], ◌∷◌, ◌++◌, Some, None, refl, sym, ap, ◌∙◌}
use Rattle.std.specs.Prelude.{nat_eq, is_some}
use Rattle.std.specs.Cmp.Lexicographic.{pointwise}
use Rattle.std.proofs.lemmas.Bool.{false≢true}
use Rattle.std.proofs.lemmas.Bool.Decides.{Decides-eqb}
use Rattle.std.proofs.lemmas.Slice.Eq.{slice_eq-Decides}
use Rattle.turk_base.specs.Trace.{answer}
use Rattle.board_model.specs.Tokens.{Tasks, HasDistinctTokens}

by_two : (r : List ℕ × List ℕ) (ts : Tasks) (k : List ℕ) (b : Bool) → pointwise nat_eq r.0 k ≡ b → answer (r ∷ ts) k ≡ cond b (Some r.1) (answer ts k)
by_two r ts k b is = ap (λ c. cond c (Some r.1) (answer ts k)) is

-- a token that no task has is no task's, and is missing among the later ones
apart : (r : List ℕ × List ℕ) (ts : Tasks) (k : List ℕ) → answer (r ∷ ts) k ≡ None → (pointwise nat_eq r.0 k ≡ false) × (answer ts k ≡ None)
apart r ts k none = by_test (pointwise nat_eq r.0 k) refl
  where
    by_test : (b : Bool) → pointwise nat_eq r.0 k ≡ b → (pointwise nat_eq r.0 k ≡ false) × (answer ts k ≡ None)
    by_test true is = absurd (false≢true (sym (ap is_some none) ∙ ap is_some (by_two r ts k true is)))
    by_test false is = (is, sym (by_two r ts k false is) ∙ none)

other : (a b : List ℕ) → pointwise nat_eq a b ≡ false → pointwise nat_eq b a ≡ false
other a b far = by_test (pointwise nat_eq b a) refl
  where
    by_test : (t : Bool) → pointwise nat_eq b a ≡ t → pointwise nat_eq b a ≡ false
    by_test false is = is
    by_test true is = absurd (false≢true (sym far ∙ (slice_eq-Decides Decides-eqb a b (pointwise nat_eq a b) refl).1 (sym ((slice_eq-Decides Decides-eqb b a true (sym is)).0 refl))))

answer_push : (ts : Tasks) (k t p : List ℕ) → answer ts p ≡ None → pointwise nat_eq k p ≡ false → answer (ts ++ (k, t) ∷ []) p ≡ None
answer_push [] k t p none far = by_two (k, t) [] p false far
answer_push (r ∷ ts) k t p none far =
    let split = apart r ts p none in
    by_two r (ts ++ (k, t) ∷ []) p false split.0 ∙ answer_push ts k t p split.1 far

pub tasks_push : (ts : Tasks) (k t : List ℕ) → HasDistinctTokens ts → answer ts k ≡ None → HasDistinctTokens (ts ++ (k, t) ∷ [])
tasks_push [] k t distinct none = (refl, tt)
tasks_push (r ∷ ts) k t distinct none =
    let split = apart r ts k none in
    (answer_push ts k t r.0 distinct.0 (other r.0 k split.0), tasks_push ts k t distinct.1 split.1)
