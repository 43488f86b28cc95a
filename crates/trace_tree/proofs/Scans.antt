-- Scans of a trace, entry by entry.
use Rattle.std.proofs.Common.{◌≡◌, ◌≢◌, ◌↔◌, ℕ, ◌+◌, ◌<◌, ◌≤◌, Bool, true, false, cond, ◌&&◌, ◌||◌, List, [], ◌∷◌, ◌++◌, length, get_or, take, drop, Some, refl, sym, ap, subst, ◌∙◌, arith, length-append, append_assoc, take-append-drop, ◌⊎◌, inl, inr}
use Rattle.std.specs.Prelude.{nat_eq, not as flip}
use Rattle.std.specs.Cmp.Lexicographic.{pointwise}
use Rattle.std.proofs.lemmas.Bool.Decides.{Decides-eqb}
use Rattle.std.proofs.lemmas.Bool.{false≢true}
use Rattle.std.proofs.lemmas.Slice.Eq.{slice_eq-Decides}
use Rattle.std.proofs.lemmas.List.{at_drop_more, append-nil, drop_more, drop_all, take_at, take_all, take_more, nil_from_length}
use Rattle.turk_base.specs.declared.Entry.{Entry}
use Rattle.turk_base.specs.Trace.{at, below, begins, same_list}
use Rattle.std.specs.Prelude.{slice_get}
use Rattle.std.proofs.lemmas.Option.{slice_get_read}
use Rattle.trace_tree.specs.Spots.{path_in, StandsAt}
use Rattle.trace_tree.specs.Traces.{Begins, StandsNone}
use Rattle.trace_tree.proofs.Fronts.{begins_true, begins_false}

same : (a b : List ℕ) → a ≡ b → pointwise nat_eq a b ≡ true
same a b is = (slice_eq-Decides Decides-eqb a b (pointwise nat_eq a b) refl).1 is

other : (a b : List ℕ) → a ≢ b → pointwise nat_eq a b ≡ false
other a b not = by_test (pointwise nat_eq a b) refl
  where
    by_test : (t : Bool) → pointwise nat_eq a b ≡ t → pointwise nat_eq a b ≡ false
    by_test false is = is
    by_test true is = absurd (not ((slice_eq-Decides Decides-eqb a b true (sym is)).0 refl))

-- the first entry has the path, or hasn't
pub at_hit : (e : Entry) (es : List Entry) (p : List ℕ) → e.path ≡ p → at (e ∷ es) p ≡ Some e.what
at_hit e es p is = ap (λ b. cond b (Some e.what) (at es p)) (same e.path p is)

pub at_skip : (e : Entry) (es : List Entry) (p : List ℕ) → e.path ≢ p → at (e ∷ es) p ≡ at es p
at_skip e es p not = ap (λ b. cond b (Some e.what) (at es p)) (other e.path p not)

pub below_skip : (e : Entry) (es : List Entry) (p : List ℕ) → (begins p e.path && flip (same_list p e.path)) ≡ false → below (e ∷ es) p ≡ below es p
below_skip e es p not = ap (λ b. b || below es p) not

pub below_hit : (e : Entry) (es : List Entry) (p : List ℕ) → (begins p e.path && flip (same_list p e.path)) ≡ true → below (e ∷ es) p ≡ true
below_hit e es p longer = ap (λ b. b || below es p) longer

-- ---- a loop over the entries from the first on

pub found_at : (es : List Entry) (i : ℕ) (e : Entry) (p : List ℕ) → i < length es → e ≡ get_or es i e → e.path ≡ p → at (drop i es) p ≡ at es p → Some e.what ≡ at es p
found_at es i e p lt is here so_far =
    sym (at_drop_more (λ (l : List Entry). at l p) es i e lt ∙ ap (λ (x : Entry). at (x ∷ drop (i + 1) es) p) (sym is) ∙ at_hit e (drop (i + 1) es) p here) ∙ so_far

pub passed_at : (es : List Entry) (i : ℕ) (e : Entry) (p : List ℕ) → i < length es → e ≡ get_or es i e → e.path ≢ p → at (drop i es) p ≡ at es p → at (drop (i + 1) es) p ≡ at es p
passed_at es i e p lt is there so_far =
    sym (at_drop_more (λ (l : List Entry). at l p) es i e lt ∙ ap (λ (x : Entry). at (x ∷ drop (i + 1) es) p) (sym is) ∙ at_skip e (drop (i + 1) es) p there) ∙ so_far

pub found_below : (es : List Entry) (i : ℕ) (e : Entry) (p : List ℕ) → i < length es → e ≡ get_or es i e → (begins p e.path && flip (same_list p e.path)) ≡ true → below (drop i es) p ≡ below es p → true ≡ below es p
found_below es i e p lt is here so_far =
    sym (at_drop_more (λ (l : List Entry). below l p) es i e lt ∙ ap (λ (x : Entry). below (x ∷ drop (i + 1) es) p) (sym is) ∙ below_hit e (drop (i + 1) es) p here) ∙ so_far

pub passed_below : (es : List Entry) (i : ℕ) (e : Entry) (p : List ℕ) → i < length es → e ≡ get_or es i e → (begins p e.path && flip (same_list p e.path)) ≡ false → below (drop i es) p ≡ below es p → below (drop (i + 1) es) p ≡ below es p
passed_below es i e p lt is there so_far =
    sym (at_drop_more (λ (l : List Entry). below l p) es i e lt ∙ ap (λ (x : Entry). below (x ∷ drop (i + 1) es) p) (sym is) ∙ below_skip e (drop (i + 1) es) p there) ∙ so_far

-- ---- no record at a path or below

self_begins : (p q : List ℕ) → q ≡ p → Begins p q
self_begins p q is = ([], is ∙ sym (append-nil p))

-- an entry whose path begins with p has it or is below it
pub begins_stands : (e : Entry) (es : List Entry) (p : List ℕ) → Begins p e.path → StandsNone (e ∷ es) p → ⊥
begins_stands e es p (rest, is) none = by_rest rest is
  where
    by_rest : (r : List ℕ) → e.path ≡ p ++ r → ⊥
    by_rest [] here =
        let found : at (e ∷ es) p ≡ Some e.what = at_hit e es p (here ∙ append-nil p) in
        let nothing = none.here in
        absurd (cc)
    by_rest (x ∷ xs) here =
        let starts : begins p e.path ≡ true = begins_true p e.path (x ∷ xs, here) in
        let apart : same_list p e.path ≡ false = other p e.path (λ same. absurd (omega (arith, ap length same, ap length here, length-append p (x ∷ xs)))) in
        absurd (false≢true (sym none.longer ∙ below_hit e es p (ap (λ b. b && flip (same_list p e.path)) starts ∙ ap (λ b. flip b) apart)))

pub skips_none : (e : Entry) (es : List Entry) (p : List ℕ) → (Begins p e.path → ⊥) → StandsNone es p → StandsNone (e ∷ es) p
skips_none e es p not none =
    record { here = at_skip e es p (λ is. not (self_begins p e.path is)) ∙ none.here; longer = below_skip e es p (ap (λ b. b && flip (same_list p e.path)) (begins_false p e.path not)) ∙ none.longer }

pub none_back : (e : Entry) (es : List Entry) (p : List ℕ) → StandsNone (e ∷ es) p → (Begins p e.path → ⊥) × StandsNone es p
none_back e es p none =
    let not : Begins p e.path → ⊥ = λ b. begins_stands e es p b none in
    (not, record { here = sym (at_skip e es p (λ is. not (self_begins p e.path is))) ∙ none.here; longer = sym (below_skip e es p (ap (λ b. b && flip (same_list p e.path)) (begins_false p e.path not))) ∙ none.longer })

pub skips_back : (e : Entry) (es : List Entry) (p : List ℕ) → (Begins p e.path → ⊥) → StandsNone (e ∷ es) p ↔ StandsNone es p
skips_back e es p not = ((λ none. (none_back e es p none).1), (λ none. skips_none e es p not none))

pub passed_none : (es : List Entry) (i : ℕ) (e : Entry) (p : List ℕ) → i < length es → e ≡ get_or es i e → (Begins p e.path → ⊥) → StandsNone (drop i es) p ↔ StandsNone es p → StandsNone (drop (i + 1) es) p ↔ StandsNone es p
passed_none es i e p lt is not so_far =
    let split : drop i es ≡ e ∷ drop (i + 1) es = drop_more es i e lt ∙ ap (λ (x : Entry). x ∷ drop (i + 1) es) (sym is) in
    let step = skips_back e (drop (i + 1) es) p not in
    ((λ none. so_far.0 (subst (λ (l : List Entry). StandsNone l p) (sym split) (step.1 none))), (λ none. step.0 (subst (λ (l : List Entry). StandsNone l p) split (so_far.1 none))))

pub found_none : (es : List Entry) (i : ℕ) (e : Entry) (p : List ℕ) → i < length es → e ≡ get_or es i e → Begins p e.path → StandsNone (drop i es) p ↔ StandsNone es p → StandsNone es p → ⊥
found_none es i e p lt is begins so_far none =
    let split : drop i es ≡ e ∷ drop (i + 1) es = drop_more es i e lt ∙ ap (λ (x : Entry). x ∷ drop (i + 1) es) (sym is) in
    begins_stands e (drop (i + 1) es) p begins (subst (λ (l : List Entry). StandsNone l p) split (so_far.1 none))

pub no_entries : (p : List ℕ) → StandsNone [] p
no_entries p = record { here = refl; longer = refl }

pub ended_none : (es : List Entry) (i : ℕ) (p : List ℕ) → length es ≤ i → StandsNone (drop i es) p ↔ StandsNone es p → StandsNone es p
ended_none es i p le so_far = so_far.0 (subst (λ (l : List Entry). StandsNone l p) (sym (drop_all i es le)) (no_entries p))

-- nothing at a path or below, so nothing at a longer one or below
pub longer_none : (es : List Entry) (p r : List ℕ) → StandsNone es p → StandsNone es (p ++ r)
longer_none [] p r none = no_entries (p ++ r)
longer_none (e ∷ es) p r none =
    let back = none_back e es p none in
    skips_none e es (p ++ r) (λ b. back.0 (r ++ b.0, b.1 ∙ append_assoc p r b.0)) (longer_none es p r back.1)

-- ---- Spots

-- the Spot of an entry whose path goes on with the index
pub spot_found : (es : List Entry) (number : ℕ) (e : Entry) (front : List ℕ) (i : ℕ) → number < length es → e ≡ get_or es number e → Begins (front ++ i ∷ []) e.path → StandsAt es (record { number = number; depth = length front + 1 }) (front ++ i ∷ [])
spot_found es number e front i lt is begins =
    let found : path_in (slice_get es number) ≡ e.path = ap path_in (slice_get_read es (length es) number e refl lt is) in
    let size : length (front ++ i ∷ []) ≡ length front + 1 = omega (arith, length-append front (i ∷ [])) in
    record {
      good = rw found (omega (arith, ap length begins.1, length-append (front ++ i ∷ []) begins.0, size));
      path_is = ap (λ (l : List ℕ). take (length front + 1) l) (found ∙ begins.1) ∙ take_at (front ++ i ∷ []) begins.0 (length front + 1) size;
    }

-- a path with one index more
pub path_step : (p : List ℕ) (k : ℕ) (i : ℕ) (front : List ℕ) → k < length p → i ≡ get_or p k 0 → front ≡ take k p → front ++ i ∷ [] ≡ take (k + 1) p
path_step p k i front lt is front_is = ap (λ (l : List ℕ). l ++ i ∷ []) front_is ∙ ap (λ (x : ℕ). take k p ++ x ∷ []) is ∙ sym (take_more p k 0 lt)

-- nothing stands where the front of the path goes on
pub none_along : (es : List Entry) (p : List ℕ) (k : ℕ) (step : List ℕ) → k < length p → step ≡ take (k + 1) p → StandsNone es step → (p ≢ []) × StandsNone es p
none_along es p k step lt step_is none =
    ((λ empty. absurd (omega (arith, ap length empty))), subst (λ (l : List ℕ). StandsNone es l) (ap (λ (l : List ℕ). l ++ drop (k + 1) p) step_is ∙ take-append-drop (k + 1) p) (longer_none es step (drop (k + 1) p) none))

-- at the end of the path something stands, unless it is empty
pub some_along : (es : List Entry) (p : List ℕ) (k : ℕ) → length p ≤ k → (k ≡ 0) ⊎ (StandsNone es (take k p) → ⊥) → p ≢ [] × StandsNone es p → ⊥
some_along es p k le there none =
    elim there [
      | inl start ↦ none.0 (nil_from_length p (omega arith))
      | inr some ↦ some (subst (λ (l : List ℕ). StandsNone es l) (sym (take_all k p le)) none.1)
    ]
