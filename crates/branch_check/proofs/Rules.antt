-- The rules by numbers are the rules by names.
use Rattle.std.proofs.Common.{◌≡◌, refl, ap, sym, ◌∙◌, subst, ℕ, zero, suc, Bool, true, false, List, [], ◌∷◌, ◌++◌, ◌&&◌, ◌||◌, not, true≢false, arith, Some}
use Rattle.std.specs.Prelude.{◌==◌, if◌then◌else◌}
use Rattle.std.specs.Option.{option_map}
use Rattle.std.specs.List.{flat_map}
use Rattle.std.proofs.lemmas.Bool.Decides.{nat_tests}
use Rattle.turk_base.specs.Names.{Path, root, sub, path_in, path_on, cell, Part, shape, at, Slot, slot, slot_eq, pick, under}
use Rattle.turk_base.specs.State.{Opening, opening, touched, first_open, open_at, open_by, cut, independent, first_reason, touch_reason, once_reason}
use Rattle.turk_base.specs.Trace.{begins}
use Rattle.branch_check.specs.declared.Slot.{Slot as CodeSlot}
use Rattle.branch_check.specs.declared.Found.{Found}
use Rattle.branch_check.specs.declared.Found.TheVariants as found
use Rattle.branch_check.specs.Numbers.{Pairs, same_slot, met, first_met, opened, shown, kept_by, joined_one}
use Rattle.branch_check.specs.Watch.{part_numbered, numbered, openings_of, Kept, watch_of, verdict_of, after_touch, after_once, after_write, after_join}
use Rattle.branch_check.proofs.Pairs.{same_is}
use Rattle.branch_check.proofs.Prefixes.{pick_under}

abbrev number_of : Part → ℕ
number_of shape = zero
number_of (at []) = zero
number_of (at (k ∷ l)) = k

abbrev cell_of : Slot → ℕ
cell_of (slot (cell s n) y) = n

abbrev key_of : Slot → ℕ
key_of (slot m y) = number_of y

numbered_back : (k : ℕ) → number_of (part_numbered k) ≡ k
numbered_back zero = refl
numbered_back (suc k) = refl

apart : (a x : CodeSlot) → numbered a ≡ numbered x → same_slot a x ≡ true
apart a x e =
    let cells : a.cell ≡ x.cell = ap cell_of e in
    let keys : a.key ≡ x.key = sym (numbered_back a.key) ∙ ap key_of e ∙ numbered_back x.key in
    let one : (a.cell == x.cell) ≡ true = grind (arith, nat_tests) in
    let two : (a.key == x.key) ≡ true = grind (arith, nat_tests) in
    rw (one, two) refl

together : (a x : CodeSlot) → same_slot a x ≡ true → numbered a ≡ numbered x
together a x e = ap numbered (same_is a x e)

pick_slot : {B : Type 0} (a x : CodeSlot) (u v : B) → pick (slot_eq (numbered a) (numbered x)) u v ≡ (if same_slot x a then u else v)
pick_slot {B} a x u v = inner (slot_eq (numbered a) (numbered x)) (same_slot x a) refl
  where
    inner : (d : Dec (numbered a ≡ numbered x)) (t : Bool) → same_slot x a ≡ t → pick d u v ≡ (if t then u else v)
    inner (yes e) true h = refl
    inner (yes e) false h = absurd (true≢false (sym (apart x a (sym e)) ∙ h))
    inner (no n) true h = absurd (n (sym (together x a h)))
    inner (no n) false h = refl

meets : (s b m : Bool) → (if s then (if b then m else true) else m) ≡ ((s && not b) || m)
meets true true m = refl
meets true false m = refl
meets false b m = refl

-- the pairs by names
abbrev named : Pairs → List Opening
named es = openings_of (shown es)

pub met_is : (b : List ℕ) (x : CodeSlot) (es : Pairs) → touched (path_in b) (numbered x) (named es) ≡ met b x es
met_is b x [] = refl
met_is b x (e ∷ es) =
    pick_slot e.0 x (pick (under (path_in e.1) (path_in b)) (touched (path_in b) (numbered x) (named es)) true) (touched (path_in b) (numbered x) (named es))
    ∙ rw (pick_under e.1 b (touched (path_in b) (numbered x) (named es)) true, met_is b x es) (meets (same_slot x e.0) (begins e.1 b) (met b x es))

choose : {A B : Type 0} (f : A → B) (t : Bool) (x y : A) → f (if t then x else y) ≡ (if t then f x else f y)
choose f true x y = refl
choose f false x y = refl

pub first_is : (b : List ℕ) (es : Pairs) → first_open (path_in b) (named es) ≡ option_map numbered (first_met b es)
first_is b [] = refl
first_is b (e ∷ es) =
    pick_under e.1 b (first_open (path_in b) (named es)) (Some (numbered e.0))
    ∙ rw (first_is b es) (sym (choose (λ m. option_map numbered m) (begins e.1 b) (first_met b es) (Some e.0)))

-- the slot's name is that of the slot that stands there
renamed_is : (x y : CodeSlot) (b : List ℕ) (R S : List Opening) (t : Bool) → same_slot x y ≡ t
    → (if t then opening (numbered x) (path_in b) ∷ R else S) ≡ (if t then opening (numbered y) (path_in b) ∷ R else S)
renamed_is x y b R S true e = ap (λ z. opening z (path_in b) ∷ R) (together x y e)
renamed_is x y b R S false e = refl

pub opened_is : (x : CodeSlot) (b : List ℕ) (es : Pairs) → open_at (numbered x) (path_in b) (named es) ≡ named (opened x b es)
opened_is x b [] = refl
opened_is x b (e ∷ es) =
    pick_slot e.0 x (opening (numbered x) (path_in b) ∷ named es) (opening (numbered e.0) (path_in e.1) ∷ open_at (numbered x) (path_in b) (named es))
    ∙ renamed_is x e.0 b (named es) (opening (numbered e.0) (path_in e.1) ∷ open_at (numbered x) (path_in b) (named es)) (same_slot x e.0) refl
    ∙ rw (opened_is x b es) (sym (choose named (same_slot x e.0) ((e.0, b) ∷ es) (e ∷ opened x b es)))

open_by_on : (y : Slot) (i : ℕ) (q : Path) (c : List ℕ) (R : List Opening) → open_by y (path_on (sub i q) c) R ≡ opening y (path_on (sub i q) c) ∷ R
open_by_on y i q [] R = refl
open_by_on y i q (j ∷ c) R = open_by_on y j (sub i q) c R

kept_is : (s : List ℕ) (x : CodeSlot) (R : List Opening) (F : Pairs) → R ≡ named F → open_by (numbered x) (path_in s) R ≡ named (kept_by s x ++ F)
kept_is [] x R F e = e
kept_is (i ∷ s) x R F e = open_by_on (numbered x) i root s R ∙ ap (λ z. opening (numbered x) (path_in (i ∷ s)) ∷ z) e

joined_is : (t : Bool) (s : List ℕ) (e : CodeSlot × List ℕ) (R : List Opening) (F : Pairs) → R ≡ named F
    → (if t then open_by (numbered e.0) (path_in s) R else opening (numbered e.0) (path_in e.1) ∷ R) ≡ named ((if t then kept_by s e.0 else e ∷ []) ++ F)
joined_is true s e R F h = kept_is s e.0 R F h
joined_is false s e R F h = ap (λ z. opening (numbered e.0) (path_in e.1) ∷ z) h

pub join_is : (s : List ℕ) (es : Pairs) → cut (path_in s) (named es) ≡ named (flat_map (joined_one s) es)
join_is s [] = refl
join_is s (e ∷ es) =
    pick_under s e.1 (open_by (numbered e.0) (path_in s) (cut (path_in s) (named es))) (opening (numbered e.0) (path_in e.1) ∷ cut (path_in s) (named es))
    ∙ joined_is (begins s e.1) s e (cut (path_in s) (named es)) (flat_map (joined_one s) es) (join_is s es)

-- ---- the calls: es and f are what is kept before, w the same as the contract sees it

-- what is kept, as the contract sees it
abbrev pub kept : Pairs → Found → Kept
kept es f = record { opened = shown es; found = f }

module _ (es : Pairs) (f : Found) (w : Kept) (same : kept es f ≡ w) where
  pub after_touch_is : (b : List ℕ) (x : CodeSlot) (v : Found) → verdict_of v ≡ first_reason (verdict_of f) (touch_reason (numbered x) (met b x es))
      → watch_of (kept es v) ≡ after_touch (path_in b) (numbered x) (watch_of w)
  after_touch_is b x v e = subst (λ z. watch_of (kept es v) ≡ after_touch (path_in b) (numbered x) (watch_of z)) same (rw (met_is b x es, e) refl)

  pub after_once_is : (b : List ℕ) (v : Found) → verdict_of v ≡ first_reason (verdict_of f) (once_reason (option_map numbered (first_met b es)))
      → watch_of (kept es v) ≡ after_once (path_in b) (watch_of w)
  after_once_is b v e = subst (λ z. watch_of (kept es v) ≡ after_once (path_in b) (watch_of z)) same (rw (first_is b es, e) refl)

  pub after_write_is : (b m : List ℕ) (x : CodeSlot) (fs : Pairs) (v : Found) → fs ≡ (if begins b m then es else opened x b es)
      → verdict_of v ≡ first_reason (verdict_of f) (touch_reason (numbered x) (met b x es))
      → watch_of (kept fs v) ≡ after_write (path_in b) (path_in m) (numbered x) (watch_of w)
  after_write_is b m x fs v o e =
      let opens : named fs ≡ pick (under (path_in b) (path_in m)) (named es) (open_at (numbered x) (path_in b) (named es)) =
      ap named o ∙ choose named (begins b m) es (opened x b es) ∙ sym (rw (opened_is x b es) (pick_under b m (named es) (named (opened x b es)))) in
      subst (λ z. watch_of (kept fs v) ≡ after_write (path_in b) (path_in m) (numbered x) (watch_of z)) same (rw (met_is b x es, e, opens) refl)

  pub after_join_is : (s : List ℕ) (fs : Pairs) → fs ≡ flat_map (joined_one s) es → watch_of (kept fs f) ≡ after_join (path_in s) (watch_of w)
  after_join_is s fs e = subst (λ z. watch_of (kept fs f) ≡ after_join (path_in s) (watch_of z)) same (rw (join_is s es, e) refl)

pub no_reason : (v : Found) → verdict_of v ≡ first_reason (verdict_of v) independent
no_reason found.Independent = refl
no_reason (found.TouchedOpen s) = refl
no_reason (found.OnceWhileOpen s) = refl
no_reason (found.BranchThrew p) = refl
