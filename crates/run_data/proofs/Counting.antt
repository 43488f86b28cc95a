-- Elements counted key by key.
use Rattle.std.proofs.Common.{◌≡◌, refl, ap, sym, ◌∙◌, ℕ, suc, ◌+◌, Bool, true, false, List, ◌∷◌, length, Option, Some, None, slice_get, drop, arith}
use Rattle.std.specs.Prelude.{◌==◌, ◌&&◌, if◌then◌else◌}
use Rattle.turk_base.specs.Names.{Units, pick, units_eq}
use Rattle.turk_base.specs.Values.{Array}
use Rattle.turk_base.specs.Cells.{class_of, length_key}
use Rattle.turk_base.specs.Steps.{without_length, is_index_below, all_below}
use Rattle.run_heap.proofs.Index_keys.{drop_next}
use Rattle.run_data.specs.Elements.{element_count, counted}

and_false : (b : Bool) → (b && false) ≡ false
and_false true = refl
and_false false = refl

module _ (n many : ℕ) (k : Units) (rest : List Units) where
  -- what stands after one key
  abbrev with_key : {A : Type 0} → Dec A → ℕ → Bool
  with_key d m = ((m + length (pick d (without_length Array rest) (k ∷ without_length Array rest))) == n) && all_below n (pick d (without_length Array rest) (k ∷ without_length Array rest))

  pub counts_more : (more : ℕ) → element_count n k ≡ Some more → counted n many (k ∷ rest) ≡ counted n (many + more) rest
  counts_more more e = by (units_eq k length_key) (is_index_below n (class_of k)) refl e
    where
      by : {A : Type 0} (d : Dec A) (b : Bool) → is_index_below n (class_of k) ≡ b → pick d (Some 0) (if b then Some 1 else None) ≡ Some more → with_key d many ≡ counted n (many + more) rest
      by (yes a) b i e =
          let z : 0 ≡ more = cc in
          ap (λ (m : ℕ). ((m + length (without_length Array rest)) == n) && all_below n (without_length Array rest)) (omega (arith, z))
      by (no a) true i e =
          let z : 1 ≡ more = cc in
          let q : many + suc (length (without_length Array rest)) ≡ (many + more) + length (without_length Array rest) = omega (arith, z) in
          λ x. (q x == n) && (i x && all_below n (without_length Array rest))
      by (no a) false i e = cc

  pub counts_none : element_count n k ≡ None → counted n many (k ∷ rest) ≡ false
  counts_none e = by (units_eq k length_key) (is_index_below n (class_of k)) refl e
    where
      by : {A : Type 0} (d : Dec A) (b : Bool) → is_index_below n (class_of k) ≡ b → pick {B = Option ℕ} d (Some 0) (if b then Some 1 else None) ≡ None → with_key d many ≡ false
      by (yes a) b i e = cc
      by (no a) true i e = cc
      by (no a) false i e =
          ap (λ b. ((many + suc (length (without_length Array rest))) == n) && (b && all_below n (without_length Array rest))) i
          ∙ and_false ((many + suc (length (without_length Array rest))) == n)

-- a step of the count, at a place
module _ (n many at : ℕ) (ks : List Units) (k : Units) (here : slice_get ks at ≡ Some k) (all : Bool) (so_far : counted n many (drop at ks) ≡ all) where
  next_key : drop at ks ≡ k ∷ drop (at + 1) ks
  next_key = drop_next ks at k here ∙ (let p : suc at ≡ at + 1 = omega arith in ap (λ m. k ∷ drop m ks) p)

  pub count_on : (more : ℕ) → Some more ≡ element_count n k → counted n (many + more) (drop (at + 1) ks) ≡ all
  count_on more e = sym (counts_more n many k (drop (at + 1) ks) more (sym e)) ∙ sym (ap (counted n many) next_key) ∙ so_far

  pub count_out : None ≡ element_count n k → false ≡ all
  count_out e = sym (counts_none n many k (drop (at + 1) ks) (sym e)) ∙ sym (ap (counted n many) next_key) ∙ so_far
