-- Words against names, and frames by place.
use Rattle.std.specs.Prelude.{ℕ, suc, ◌+◌, ◌-◌, ◌<◌, ◌≤◌, ◌≡◌, ◌≢◌, refl, Bool, true, false, ◌&&◌, ◌==◌, ◌⊎◌, List, [], ◌∷◌, length, drop, map, reverse, slice_get, Option, Some, None}
use Rattle.std.specs.Option.{option_map}
use Rattle.std.proofs.Common.{arith, ap, sym, ◌∙◌, subst, get_or, drop-cons, drop_of_length-le, inl, inr}
use Rattle.std.proofs.lemmas.List.{get_or-reverse, length-reverse}
use Rattle.std.proofs.lemmas.Option.{slice_get-map, slice_get_read, slice_get_past, slice_get_within}
use Rattle.turk_base.specs.Names.{Units}
use Rattle.turk_base.specs.Conversions.{same_units}
use Rattle.js_tree.specs.Calls.{has}
use Rattle.js_tree.specs.Binds.{FrameNames, Frames}
use Rattle.scope_names.specs.declared.scopes.Scope.{Scope}
use Rattle.scope_names.specs.Shown.{frame_shown, shown}

-- words of other lengths differ
pub apart_long : (a b : Units) → length b ≢ length a → false ≡ same_units a b
apart_long [] [] h = absurd (h refl)
apart_long [] (y ∷ b) h = refl
apart_long (x ∷ a) [] h = refl
apart_long (x ∷ a) (y ∷ b) h = rest (x == y) (apart_long a b (λ e. h (ap suc e)))
  where
    rest : (t : Bool) → false ≡ same_units a b → false ≡ t && same_units a b
    rest true e = e
    rest false e = refl

-- two words from a place on
pub same_step : (a b : Units) (i : ℕ) → i < length a → i < length b → same_units (drop i a) (drop i b) ≡ (get_or a i 0 == get_or b i 0) && same_units (drop (suc i) a) (drop (suc i) b)
same_step a b i h k = λ j. same_units (drop-cons a i 0 h j) (drop-cons b i 0 k j)

-- the frame at a place, counted from the innermost
pub shown_at : (frames : List Scope) (k : ℕ) (s : Scope) → k < length frames → s ≡ get_or frames (length frames - 1 - k) s → slice_get (shown frames) k ≡ Some (frame_shown s)
shown_at frames k s h e =
    slice_get-map frame_shown (reverse frames) k
    ∙ ap (option_map frame_shown) (slice_get_read (reverse frames) (length frames) k s (sym (length-reverse frames)) h (e ∙ sym (get_or-reverse frames k s h)))

pub some_inside : {A : Type 0} {a b : A} → Some a ≡ Some b → a ≡ b
some_inside e = cc

below_next : (k n : ℕ) → k < n + 1 → (k < n) ⊎ (k ≡ n)
below_next k n h = grind arith

-- no frame so far declares the name, nor does the next
pub passed : (frames : List Scope) (name : Units) (n : ℕ) (s : Scope)
    → ((k : ℕ) (f : FrameNames) → k < n → slice_get (shown frames) k ≡ Some f → has f.names name ≡ false)
    → n < length frames → s ≡ get_or frames (length frames - 1 - n) s → has s.names name ≡ false
    → (k : ℕ) (f : FrameNames) → k < n + 1 → slice_get (shown frames) k ≡ Some f → has f.names name ≡ false
passed frames name n s so_far h e lacks k f below at = by (below_next k n below)
  where
    by : (k < n) ⊎ (k ≡ n) → has f.names name ≡ false
    by (inl less) = so_far k f less at
    by (inr same) =
        let here : frame_shown s ≡ f = some_inside (sym (shown_at frames n s h e) ∙ ap (slice_get (shown frames)) (sym same) ∙ at) in
        subst (λ g. has g.names name ≡ false) here lacks

-- a frame that stands is one of them
pub shown_within : (frames : List Scope) (k : ℕ) (f : FrameNames) → slice_get (shown frames) k ≡ Some f → k < length frames
shown_within frames k f at =
    let found : option_map frame_shown (slice_get (reverse frames) k) ≡ Some f = sym (slice_get-map frame_shown (reverse frames) k) ∙ at in
    by (slice_get (reverse frames) k) refl found
  where
    by : (o : Option Scope) → slice_get (reverse frames) k ≡ o → option_map frame_shown o ≡ Some f → k < length frames
    by (Some s) e found = subst (λ n. k < n) (length-reverse frames) (slice_get_within (reverse frames) k s e)
    by None e found = absurd (let never : ⊥ = cc in never)

nat_apart : (x y : ℕ) → x ≢ y → (x == y) ≡ false
nat_apart x y h = grind arith

nat_same : (x y : ℕ) → x ≡ y → (x == y) ≡ true
nat_same x y h = grind arith

-- two words that differ at a place
pub differ_at : (a b : Units) (i : ℕ) → i < length a → length b ≡ length a → get_or a i 0 ≢ get_or b i 0 → same_units (drop i a) (drop i b) ≡ same_units a b → false ≡ same_units a b
differ_at a b i h long apart so_far =
    sym (ap (λ t. t && same_units (drop (suc i) a) (drop (suc i) b)) (nat_apart (get_or a i 0) (get_or b i 0) apart)) ∙ sym (same_step a b i h (omega arith)) ∙ so_far

-- two words that are the same up to a place
pub same_next : (a b : Units) (i : ℕ) → i < length a → length b ≡ length a → get_or a i 0 ≡ get_or b i 0 → same_units (drop i a) (drop i b) ≡ same_units a b → same_units (drop (i + 1) a) (drop (i + 1) b) ≡ same_units a b
same_next a b i h long here so_far =
    let next : i + 1 ≡ suc i = omega arith in
    ap (λ n. same_units (drop n a) (drop n b)) next
    ∙ sym (ap (λ t. t && same_units (drop (suc i) a) (drop (suc i) b)) (nat_same (get_or a i 0) (get_or b i 0) here)) ∙ sym (same_step a b i h (omega arith)) ∙ so_far

-- two words that are the same to their ends
pub same_all : (a b : Units) (i : ℕ) → length a ≤ i → length b ≡ length a → same_units (drop i a) (drop i b) ≡ same_units a b → true ≡ same_units a b
same_all a b i h long so_far = sym (λ j. same_units (drop_of_length-le a h j) (drop_of_length-le b (let le : length b ≤ i = omega arith in le) j)) ∙ so_far
