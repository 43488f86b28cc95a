-- Slots by numbers, and what look-ups among pairs and changes of them come to.
use Rattle.std.proofs.Common.{◌≡◌, refl, ap, sym, ◌∙◌, subst, ℕ, zero, suc, ◌<◌, ◌+◌, Bool, true, false, ◌&&◌, ◌||◌, not, cond, true≢false, is_some, List, [], ◌∷◌, ◌++◌, length, drop, drop-cons, insert, Option, Some, None, slice_get, arith}
use Rattle.std.specs.Prelude.{◌==◌, if◌then◌else◌}
use Rattle.std.proofs.Math.Seq.{drop-length, take-length}
use Rattle.std.proofs.lemmas.Bool.Decides.{nat_tests}
use Rattle.std.proofs.lemmas.Option.{slice_get_within, get_or_from_slice_get}
use Rattle.std.proofs.lemmas.Map.Steps.{set_value_same}
use Rattle.std.specs.Cmp.{IsEquivalence}
use Rattle.std.specs.List.{IsDistinct, AllByRecursion, flat_map}
use Rattle.std.specs.Map.{keys_of, lookup, set_value, remove_entry}
use Rattle.turk_base.specs.Trace.{begins}
use Rattle.branch_check.specs.declared.Slot.{Slot}
use Rattle.branch_check.specs.Numbers.{Pairs, same_slot, met, first_met, opened, kept_by, joined_one, joined_at}

first_of : (x y : Bool) → x && y ≡ true → x ≡ true
first_of true y e = refl
first_of false y e = absurd (true≢false (sym e))

second_of : (x y : Bool) → x && y ≡ true → y ≡ true
second_of true y e = e
second_of false y e = absurd (true≢false (sym e))

pub same_is : (x y : Slot) → same_slot x y ≡ true → x ≡ y
same_is x y e =
    let h : (x.cell == y.cell) ≡ true = first_of (x.cell == y.cell) (x.key == y.key) e in
    let k : (x.key == y.key) ≡ true = second_of (x.cell == y.cell) (x.key == y.key) e in
    let cells : x.cell ≡ y.cell = grind (arith, nat_tests) in
    let keys : x.key ≡ y.key = grind (arith, nat_tests) in
    λ i. record { cell = cells i; key = keys i }

pub same_self : (x : Slot) → same_slot x x ≡ true
same_self x =
    let one : (x.cell == x.cell) ≡ true = grind (arith, nat_tests) in
    let two : (x.key == x.key) ≡ true = grind (arith, nat_tests) in
    rw (one, two) refl

same_turned : (x y : Slot) → same_slot x y ≡ same_slot y x
same_turned x y = by (same_slot x y) (same_slot y x) refl refl
  where
    by : (a b : Bool) → same_slot x y ≡ a → same_slot y x ≡ b → a ≡ b
    by true true h k = refl
    by false false h k = refl
    by true false h k = absurd (true≢false (sym (same_self y) ∙ ap (same_slot y) (sym (same_is x y h)) ∙ k))
    by false true h k = absurd (true≢false (sym (same_self x) ∙ ap (same_slot x) (sym (same_is y x k)) ∙ h))

pub same_laws : IsEquivalence same_slot
same_laws = record { refl = same_self; symm = same_turned; congr = λ x y z e. ap (λ w. same_slot w z) (same_is x y e) }

-- ---- changes that are undone

module _ {K V : Type 0} (t : K → Bool) where
  -- what was added last is taken out
  pub add_undone : (es : List (K × V)) (k : K) (v : V) → t k ≡ true → lookup t es ≡ None → remove_entry t (es ++ (k, v) ∷ []) ≡ es
  add_undone [] k v h e = rw h refl
  add_undone (x ∷ es) k v h e = by (t x.0) e (add_undone es k v h)
    where
      by : (b : Bool) → cond b (Some x.1) (lookup t es) ≡ None → (lookup t es ≡ None → remove_entry t (es ++ (k, v) ∷ []) ≡ es)
          → cond b (es ++ (k, v) ∷ []) (x ∷ remove_entry t (es ++ (k, v) ∷ [])) ≡ x ∷ es
      by true q rest = absurd (true≢false (ap is_some q))
      by false q rest = ap (λ l. x ∷ l) (rest q)

  -- what stood there before is set back
  pub set_undone : (es : List (K × V)) (v w : V) → lookup t es ≡ Some v → set_value t (set_value t es w) v ≡ es
  set_undone [] v w e = refl
  set_undone (x ∷ es) v w e = by (t x.0) refl e (set_undone es v w)
    where
      by : (b : Bool) → t x.0 ≡ b → cond b (Some x.1) (lookup t es) ≡ Some v → (lookup t es ≡ Some v → set_value t (set_value t es w) v ≡ es)
          → set_value t (cond b ((x.0, w) ∷ es) (x ∷ set_value t es w)) v ≡ x ∷ es
      by true h q rest = let k : x.1 ≡ v = cc in rw h (ap (λ y. (x.0, y) ∷ es) (sym k))
      by false h q rest = rw h (ap (λ l. x ∷ l) (rest q))

-- ---- what is open

or_none : (b : Bool) → b || false ≡ b
or_none true = refl
or_none false = refl

-- where a slot is open, no later pair has it
met_later : (b : List ℕ) (x y : Slot) (es : Pairs) → same_slot x y ≡ true → AllByRecursion (λ k. same_slot y k ≡ false) (keys_of es) → met b x es ≡ false
met_later b x y [] e h = refl
met_later b x y (f ∷ es) e h =
    let other : same_slot x f.0 ≡ false = subst (λ z. same_slot z f.0 ≡ false) (sym (same_is x y e)) h.0 in
    rw (other, met_later b x y es e h.1) refl

-- the path, where there is one, is no prefix of b
abbrev pub meets : List ℕ → Option (List ℕ) → Bool
meets b None = false
meets b (Some p) = not (begins p b)

pub met_looked_up : (b : List ℕ) (x : Slot) (es : Pairs) → IsDistinct same_slot (keys_of es) → met b x es ≡ meets b (lookup (same_slot x) es)
unfolding IsDistinct
met_looked_up b x [] d = refl
met_looked_up b x (e ∷ es) d = by (same_slot x e.0) refl (met_looked_up b x es d.1)
  where
    by : (t : Bool) → same_slot x e.0 ≡ t → met b x es ≡ meets b (lookup (same_slot x) es) → ((t && not (begins e.1 b)) || met b x es) ≡ meets b (cond t (Some e.1) (lookup (same_slot x) es))
    by true h rest = rw (met_later b x e.0 es h d.0) (or_none (not (begins e.1 b)))
    by false h rest = rest

-- ---- the first slot that is open

cut_at : (es : Pairs) (i : ℕ) (e : Slot × List ℕ) → slice_get es i ≡ Some e → drop i es ≡ e ∷ drop (suc i) es
cut_at es i e at = drop-cons es i e (slice_get_within es i e at) ∙ ap (λ x. x ∷ drop (suc i) es) (get_or_from_slice_get es i e e at)

first_at : (b : List ℕ) (es : Pairs) (i : ℕ) (e : Slot × List ℕ) → slice_get es i ≡ Some e → first_met b es ≡ first_met b (drop i es)
    → first_met b es ≡ (if begins e.1 b then first_met b (drop (suc i) es) else Some e.0)
first_at b es i e at before = before ∙ ap (first_met b) (cut_at es i e at)

pub first_here : (b : List ℕ) (es : Pairs) (i : ℕ) (e : Slot × List ℕ) → slice_get es i ≡ Some e → first_met b es ≡ first_met b (drop i es) → begins e.1 b ≡ false → Some e.0 ≡ first_met b es
first_here b es i e at before h = sym (first_at b es i e at before ∙ rw h refl)

pub first_later : (b : List ℕ) (es : Pairs) (i : ℕ) (e : Slot × List ℕ) → slice_get es i ≡ Some e → first_met b es ≡ first_met b (drop i es) → begins e.1 b ≡ true
    → first_met b es ≡ first_met b (drop (i + 1) es)
first_later b es i e at before h = let next : i + 1 ≡ suc i = omega arith in rw next (first_at b es i e at before ∙ rw h refl)

-- ---- a slot is opened

pub opened_last : (x : Slot) (b : List ℕ) (es : Pairs) → lookup (same_slot x) es ≡ None → opened x b es ≡ es ++ (x, b) ∷ []
opened_last x b [] h = refl
opened_last x b (e ∷ es) h = by (same_slot x e.0) h (opened_last x b es)
  where
    by : (t : Bool) → cond t (Some e.1) (lookup (same_slot x) es) ≡ None → (lookup (same_slot x) es ≡ None → opened x b es ≡ es ++ (x, b) ∷ [])
        → cond t ((e.0, b) ∷ es) (e ∷ opened x b es) ≡ e ∷ (es ++ (x, b) ∷ [])
    by true q rest = absurd (true≢false (ap is_some q))
    by false q rest = ap (λ l. e ∷ l) (rest q)

pub opened_there : (x : Slot) (b p : List ℕ) (es : Pairs) → lookup (same_slot x) es ≡ Some p → opened x b es ≡ set_value (same_slot x) es b
opened_there x b p [] h = cc
opened_there x b p (e ∷ es) h = by (same_slot x e.0) h (opened_there x b p es)
  where
    by : (t : Bool) → cond t (Some e.1) (lookup (same_slot x) es) ≡ Some p → (lookup (same_slot x) es ≡ Some p → opened x b es ≡ set_value (same_slot x) es b)
        → cond t ((e.0, b) ∷ es) (e ∷ opened x b es) ≡ cond t ((e.0, b) ∷ es) (e ∷ set_value (same_slot x) es b)
    by true q rest = refl
    by false q rest = ap (λ l. e ∷ l) (rest q)

-- a slot that is open by that path stays as it is
pub opened_same : (x : Slot) (b : List ℕ) (es : Pairs) → lookup (same_slot x) es ≡ Some b → opened x b es ≡ es
opened_same x b es h = opened_there x b b es h ∙ set_value_same (same_slot x) es b h

-- a pair put at the length is last
pub put_last : (es : Pairs) (place : ℕ) (e : Slot × List ℕ) → place ≡ length es → insert es place e ≡ es ++ e ∷ []
put_last es place e h = ap (λ n. insert es n e) h ∙ (λ i. take-length es i ++ e ∷ drop-length es i)

-- ---- branches join

-- where branches join in the script's scope, no slot stays open
pub none_left : (s : List ℕ) (es : Pairs) → length s ≡ 0 → flat_map (joined_one s) es ≡ []
none_left [] [] h = refl
none_left [] (e ∷ es) h = none_left [] es h
none_left (i ∷ s) es h = absurd (omega arith)

-- those at the first places joined
abbrev pub joined_first : List ℕ → ℕ → Pairs → Pairs
joined_first s zero es = es
joined_first s (suc n) [] = []
joined_first s (suc n) (e ∷ es) = joined_one s e ++ joined_first s n es

pub joined_all : (s : List ℕ) (es : Pairs) → joined_first s (length es) es ≡ flat_map (joined_one s) es
joined_all s [] = refl
joined_all s (e ∷ es) = ap (λ l. joined_one s e ++ l) (joined_all s es)

-- in a scope that is not the script's no slot is closed
one_joined : (i : ℕ) (s : List ℕ) (e : Slot × List ℕ) (l : Pairs) → length (joined_one (i ∷ s) e ++ l) ≡ suc (length l)
one_joined i s e l = by (begins (i ∷ s) e.1)
  where
    by : (t : Bool) → length ((if t then kept_by (i ∷ s) e.0 else e ∷ []) ++ l) ≡ suc (length l)
    by true = refl
    by false = refl

pub length-joined_first : (s : List ℕ) (n : ℕ) (es : Pairs) → 0 < length s → length (joined_first s n es) ≡ length es
length-joined_first [] n es h = absurd (omega arith)
length-joined_first (i ∷ s) zero es h = refl
length-joined_first (i ∷ s) (suc n) [] h = refl
length-joined_first (i ∷ s) (suc n) (e ∷ es) h = one_joined i s e (joined_first (i ∷ s) n es) ∙ ap suc (length-joined_first (i ∷ s) n es h)

-- one more is joined
pub joined_next : (s : List ℕ) (n : ℕ) (es : Pairs) → 0 < length s → joined_at s n (joined_first s n es) ≡ joined_first s (suc n) es
joined_next [] n es h = absurd (omega arith)
joined_next (i ∷ s) zero [] h = refl
joined_next (i ∷ s) zero (e ∷ es) h = refl
joined_next (i ∷ s) (suc n) [] h = refl
joined_next (i ∷ s) (suc n) (e ∷ es) h = by (begins (i ∷ s) e.1) (joined_next (i ∷ s) n es h)
  where
    by : (t : Bool) → joined_at (i ∷ s) n (joined_first (i ∷ s) n es) ≡ joined_first (i ∷ s) (suc n) es
        → joined_at (i ∷ s) (suc n) ((if t then kept_by (i ∷ s) e.0 else e ∷ []) ++ joined_first (i ∷ s) n es) ≡ (if t then kept_by (i ∷ s) e.0 else e ∷ []) ++ joined_first (i ∷ s) (suc n) es
    by true rest = ap (λ l. (e.0, i ∷ s) ∷ l) rest
    by false rest = ap (λ l. e ∷ l) rest

-- a path that doesn't begin with the scope stays
pub joined_beside : (s : List ℕ) (n : ℕ) (es : Pairs) (e : Slot × List ℕ) → slice_get es n ≡ Some e → begins s e.1 ≡ false → joined_at s n es ≡ es
joined_beside s n [] e h t = refl
joined_beside s zero (f ∷ es) e h t = let k : f ≡ e = cc in let u : begins s f.1 ≡ false = ap (λ g. begins s g.1) k ∙ t in rw u refl
joined_beside s (suc n) (f ∷ es) e h t = ap (λ l. f ∷ l) (joined_beside s n es e h t)

-- the scope's own path too
pub joined_same : (s : List ℕ) (n : ℕ) (es : Pairs) (e : Slot × List ℕ) → 0 < length s → slice_get es n ≡ Some e → s ≡ e.1 → joined_at s n es ≡ es
joined_same [] n es e l h t = absurd (omega arith)
joined_same (i ∷ s) n [] e l h t = refl
joined_same (i ∷ s) zero (f ∷ es) e l h t = by (begins (i ∷ s) f.1)
  where
    by : (b : Bool) → (if b then kept_by (i ∷ s) f.0 else f ∷ []) ++ es ≡ f ∷ es
    by true = let k : f ≡ e = cc in let u : i ∷ s ≡ f.1 = t ∙ ap (λ g. g.1) (sym k) in ap (λ p. (f.0, p) ∷ es) u
    by false = refl
joined_same (i ∷ s) (suc n) (f ∷ es) e l h t = ap (λ l. f ∷ l) (joined_same (i ∷ s) n es e l h t)

-- a key that stands later is another one
later_key : (x : Slot) (n : ℕ) (es : Pairs) (e : Slot × List ℕ) → slice_get es n ≡ Some e → AllByRecursion (λ k. same_slot x k ≡ false) (keys_of es) → same_slot x e.0 ≡ false
later_key x n [] e h d = cc
later_key x zero (f ∷ es) e h d = let k : f ≡ e = cc in ap (λ g. same_slot x g.0) (sym k) ∙ d.0
later_key x (suc n) (f ∷ es) e h d = later_key x n es e h d.1

-- a longer path gives way to the scope's
pub joined_opened : (s : List ℕ) (n : ℕ) (es : Pairs) (e : Slot × List ℕ) → 0 < length s → slice_get es n ≡ Some e → begins s e.1 ≡ true → IsDistinct same_slot (keys_of es) → opened e.0 s es ≡ joined_at s n es
unfolding IsDistinct
joined_opened s n [] e l h t d = cc
joined_opened [] zero (f ∷ es) e l h t d = absurd (omega arith)
joined_opened (i ∷ s) zero (f ∷ es) e l h t d =
    let k : f ≡ e = cc in
    let here : same_slot e.0 f.0 ≡ true = ap (λ g. same_slot e.0 g.0) k ∙ same_self e.0 in
    let u : begins (i ∷ s) f.1 ≡ true = ap (λ g. begins (i ∷ s) g.1) k ∙ t in
    rw (here, u) refl
joined_opened s (suc n) (f ∷ es) e l h t d =
    let other : same_slot e.0 f.0 ≡ false = same_turned e.0 f.0 ∙ later_key f.0 n es e h d.0 in
    rw other (ap (λ l. f ∷ l) (joined_opened s n es e l h t d.1))
