-- Fronts of paths.
use Rattle.std.proofs.Common.{◌≡◌, ℕ, ◌+◌, ◌<◌, Bool, true, false, List, [], ◌∷◌, ◌++◌, length, get_or, drop, refl, sym, ap, ◌∙◌, append_assoc, arith, length-append, ◌&&◌, eqb, eq-eqb, eqb-true}
use Rattle.std.specs.List.{starts_with}
use Rattle.std.specs.Prelude.{nat_eq}
use Rattle.std.proofs.lemmas.Bool.Decides.{Decides-eqb}
use Rattle.std.proofs.lemmas.Slice.Eq.{starts_is}
use Rattle.std.proofs.lemmas.List.{drop_more}
use Rattle.std.proofs.Math.Seq.{get_or-append_seam}
use Rattle.turk_base.specs.Trace.{begins}
use Rattle.trace_tree.specs.Traces.{Begins}

pub begins_by_test : (path front : List ℕ) → starts_with nat_eq path front ≡ true → path ≡ front ++ drop (length front) path
begins_by_test path front is = (starts_is Decides-eqb path front _ refl).0 is

pub test_by_begins : (path front : List ℕ) → Begins front path → starts_with nat_eq path front ≡ true
test_by_begins path front b = (starts_is Decides-eqb path front _ refl).1 b.0 b.1

pub test_by_not : (path front : List ℕ) → (Begins front path → ⊥) → starts_with nat_eq path front ≡ false
test_by_not path front not = by_test (starts_with nat_eq path front) refl
  where
    by_test : (b : Bool) → starts_with nat_eq path front ≡ b → starts_with nat_eq path front ≡ false
    by_test true is = absurd (not (drop (length front) path, begins_by_test path front is))
    by_test false is = is

-- one index more
pub goes_on_then : (path front : List ℕ) (i : ℕ) → starts_with nat_eq path front ≡ true → length front < length path → get_or path (length front) 0 ≡ i → Begins (front ++ i ∷ []) path
goes_on_then path front i is lt at_is =
    (drop (length front + 1) path, begins_by_test path front is ∙ ap (λ (l : List ℕ). front ++ l) (drop_more path (length front) 0 lt ∙ ap (λ (x : ℕ). x ∷ drop (length front + 1) path) at_is) ∙ sym (append_assoc front (i ∷ []) (drop (length front + 1) path)))

pub goes_on_back : (path front : List ℕ) (i : ℕ) → Begins (front ++ i ∷ []) path → (starts_with nat_eq path front ≡ true) × (length front < length path) × (get_or path (length front) 0 ≡ i)
goes_on_back path front i b =
    let is : path ≡ front ++ (i ∷ b.0) = b.1 ∙ append_assoc front (i ∷ []) b.0 in
    (test_by_begins path front (i ∷ b.0, is), omega (arith, ap length is, length-append front (i ∷ b.0)), ap (λ (l : List ℕ). get_or l (length front) 0) is ∙ get_or-append_seam front i b.0 0)

-- the test that a path begins with a front
pub begins_from : (p q : List ℕ) → begins p q ≡ true → Begins p q
begins_from [] q is = (q, refl)
begins_from (i ∷ p) [] is = absurd (cc)
begins_from (i ∷ p) (j ∷ q) is = by_test (eqb i j) refl is (begins_from p q)
  where
    by_test : (b : Bool) → eqb i j ≡ b → (b && begins p q) ≡ true → (begins p q ≡ true → Begins p q) → Begins (i ∷ p) (j ∷ q)
    by_test true same more rest =
        let found = rest more in
        (found.0, ap (λ (x : ℕ). x ∷ q) (sym (eqb-true i j same)) ∙ ap (λ (l : List ℕ). i ∷ l) found.1)
    by_test false same more rest = absurd (cc)

pub begins_with : (p r : List ℕ) → begins p (p ++ r) ≡ true
begins_with [] r = refl
begins_with (i ∷ p) r = rw (eq-eqb i i refl, begins_with p r) refl

pub begins_true : (p q : List ℕ) → Begins p q → begins p q ≡ true
begins_true p q b = ap (begins p) b.1 ∙ begins_with p b.0

pub begins_false : (p q : List ℕ) → (Begins p q → ⊥) → begins p q ≡ false
begins_false p q not = by_test (begins p q) refl
  where
    by_test : (b : Bool) → begins p q ≡ b → begins p q ≡ false
    by_test true is = absurd (not (begins_from p q is))
    by_test false is = is
