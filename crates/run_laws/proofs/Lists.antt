-- Facts on open slots and absent branches.
use Rattle.std.specs.Prelude.{List, Bool, true, false, Some, None}
use Rattle.std.proofs.Common.{◌≡◌, refl, ◌⊎◌, inl, inr, [], ◌∷◌, true≢false}
use Rattle.turk_base.specs.Names.{Path, root, sub, IsSub, Under, In, first, later, Part, Name, Slot, slot, slot_eq, pick, under}
use Rattle.turk_base.specs.State.{Opening, opening, open_at, open_by, cut, touched, first_open, any_gone, Verdict, independent, touched_open, once_while_open, branch_threw, first_reason, touch_reason, touch_all, write_all}

pub open_in : (x : Slot) (b : Path) (l : List Opening) → In Opening (opening x b) (open_at x b l)
open_in x b [] = first
open_in x b (opening y p ∷ l) = inner x b y p l (slot_eq y x) (open_in x b l)
  where
    inner : (x : Slot) (b : Path) (y : Slot) (p : Path) (l : List Opening) (d : Dec (y ≡ x)) → In Opening (opening x b) (open_at x b l) →
        In Opening (opening x b) (pick d (opening x b ∷ l) (opening y p ∷ open_at x b l))
    inner x b y p l (yes e) ih = first
    inner x b y p l (no n) ih = later ih

what_of : Opening → Slot
what_of (opening x p) = x

pub open_other : (x : Slot) (b : Path) (l : List Opening) {z : Slot} {q : Path} → ¬ (z ≡ x) →
    In Opening (opening z q) l → In Opening (opening z q) (open_at x b l)
open_other x b [] ne h = elim h [ ]
open_other x b (opening y p ∷ l) ne h = inner x b y p l (slot_eq y x) ne h (λ k. open_other x b l ne k)
  where
    inner : (x : Slot) (b : Path) (y : Slot) (p : Path) (l : List Opening) {z : Slot} {q : Path} (d : Dec (y ≡ x)) → ¬ (z ≡ x) →
        In Opening (opening z q) (opening y p ∷ l) → (In Opening (opening z q) l → In Opening (opening z q) (open_at x b l)) →
        In Opening (opening z q) (pick d (opening x b ∷ l) (opening y p ∷ open_at x b l))
    inner x b y p l (yes e) ne first ih = absurd (ne e)
    inner x b y p l (yes e) ne (later h) ih = later h
    inner x b y p l (no n) ne first ih = first
    inner x b y p l (no n) ne (later h) ih = later (ih h)

in_by : (y : Slot) (s : Path) (l : List Opening) {o : Opening} → In Opening o l → In Opening o (open_by y s l)
in_by y root l h = h
in_by y (sub i s) l h = later h

by_in : (y : Slot) (s : Path) (l : List Opening) → IsSub s → In Opening (opening y s) (open_by y s l)
by_in y root l h = absurd h
by_in y (sub i s) l h = first

pub cut_keep : (s : Path) (l : List Opening) {z : Slot} {q : Path} → ¬ (Under s q) → In Opening (opening z q) l → In Opening (opening z q) (cut s l)
cut_keep s [] n h = elim h [ ]
cut_keep s (opening y p ∷ l) n h = inner s l y p (under s p) n h (λ k. cut_keep s l n k)
  where
    inner : (s : Path) (l : List Opening) (y : Slot) (p : Path) {z : Slot} {q : Path} (d : Dec (Under s p)) → ¬ (Under s q) → In Opening (opening z q) (opening y p ∷ l) →
        (In Opening (opening z q) l → In Opening (opening z q) (cut s l)) → In Opening (opening z q) (pick d (open_by y s (cut s l)) (opening y p ∷ cut s l))
    inner s l y p (yes u) n first ih = absurd (n u)
    inner s l y p (yes u) n (later h) ih = in_by y s (cut s l) (ih h)
    inner s l y p (no u) n first ih = first
    inner s l y p (no u) n (later h) ih = later (ih h)

pub cut_under : (s : Path) (l : List Opening) {z : Slot} {q : Path} → IsSub s → Under s q → In Opening (opening z q) l → In Opening (opening z s) (cut s l)
cut_under s [] i n h = elim h [ ]
cut_under s (opening y p ∷ l) i n h = inner s l y p (under s p) i n h (λ k. cut_under s l i n k)
  where
    inner : (s : Path) (l : List Opening) (y : Slot) (p : Path) {z : Slot} {q : Path} (d : Dec (Under s p)) → IsSub s → Under s q → In Opening (opening z q) (opening y p ∷ l) →
        (In Opening (opening z q) l → In Opening (opening z s) (cut s l)) → In Opening (opening z s) (pick d (open_by y s (cut s l)) (opening y p ∷ cut s l))
    inner s l y p (yes u) i n first ih = by_in y s (cut s l) i
    inner s l y p (yes u) i n (later h) ih = in_by y s (cut s l) (ih h)
    inner s l y p (no u) i n first ih = absurd (u n)
    inner s l y p (no u) i n (later h) ih = later (ih h)

-- A touch that gives no reason: each pair of this slot has a path that is a prefix of b.
pub untouched : (b : Path) (x : Slot) (l : List Opening) {q : Path} → touched b x l ≡ false → In Opening (opening x q) l → Under q b
untouched b x [] e h = elim h [ ]
untouched b x (opening y p ∷ l) e h = inner (slot_eq y x) (under p b) e h (λ e' h'. untouched b x l e' h')
  where
    inner : {b : Path} {x : Slot} {y : Slot} {p : Path} {l : List Opening} {q : Path} (d : Dec (y ≡ x)) (u : Dec (Under p b)) →
        pick d (pick u (touched b x l) true) (touched b x l) ≡ false → In Opening (opening x q) (opening y p ∷ l) →
        (touched b x l ≡ false → In Opening (opening x q) l → Under q b) → Under q b
    inner (yes d) (yes u) e first ih = u
    inner (yes d) (yes u) e (later h) ih = ih e h
    inner (yes d) (no u) e h ih = absurd (true≢false e)
    inner (no d) u e first ih = absurd (d refl)
    inner (no d) u e (later h) ih = ih e h

some_none : {A : Type 0} {x : A} → Some x ≡ None → ⊥
some_none e = cc

-- No slot is open: each pair has a path that is a prefix of b.
pub none_open : (b : Path) (l : List Opening) {x : Slot} {q : Path} → first_open b l ≡ None → In Opening (opening x q) l → Under q b
none_open b [] e h = elim h [ ]
none_open b (opening y p ∷ l) e h = inner (under p b) e h (λ e' h'. none_open b l e' h')
  where
    inner : {b : Path} {x : Slot} {y : Slot} {p : Path} {l : List Opening} {q : Path} (u : Dec (Under p b)) →
        pick u (first_open b l) (Some y) ≡ None → In Opening (opening x q) (opening y p ∷ l) →
        (first_open b l ≡ None → In Opening (opening x q) l → Under q b) → Under q b
    inner (yes u) e first ih = u
    inner (yes u) e (later h) ih = ih e h
    inner (no u) e h ih = absurd (some_none e)

-- No absent branch stands in s.
pub none_gone : (s : Path) (l : List Path) {a : Path} → any_gone s l ≡ false → In Path a l → ¬ (Under s a)
none_gone s [] e h = elim h [ ]
none_gone s (c ∷ l) e h = inner (under s c) e h (λ e' h'. none_gone s l e' h')
  where
    inner : {s c a : Path} {l : List Path} (u : Dec (Under s c)) → pick u true (any_gone s l) ≡ false → In Path a (c ∷ l) →
        (any_gone s l ≡ false → In Path a l → ¬ (Under s a)) → ¬ (Under s a)
    inner (yes u) e h ih = absurd (true≢false e)
    inner (no u) e first ih = u
    inner (no u) e (later h) ih = ih e h

pub gone_none : (s : Path) (l : List Path) → ((a : Path) → In Path a l → ¬ (Under s a)) → any_gone s l ≡ false
gone_none s [] h = refl
gone_none s (c ∷ l) h = inner l (under s c) (h c first) (gone_none s l (λ a k. h a (later k)))
  where
    inner : {s c : Path} (l : List Path) (u : Dec (Under s c)) → ¬ (Under s c) → any_gone s l ≡ false → pick u true (any_gone s l) ≡ false
    inner l (yes u) n e = absurd (n u)
    inner l (no u) n e = e

-- ---- several slots of one cell, touched and written

pub reason_none : (v w : Verdict) → first_reason v w ≡ independent → w ≡ independent
reason_none independent w e = e
reason_none (touched_open x) w e = absurd (let z : ⊥ = cc in z)
reason_none (once_while_open x) w e = absurd (let z : ⊥ = cc in z)
reason_none (branch_threw x) w e = absurd (let z : ⊥ = cc in z)

pub first_clean : (v w : Verdict) → first_reason v w ≡ independent → v ≡ independent
first_clean independent w e = refl
first_clean (touched_open x) w e = e
first_clean (once_while_open x) w e = e
first_clean (branch_threw x) w e = e

touch_none : (x : Slot) (t : Bool) → touch_reason x t ≡ independent → t ≡ false
touch_none x true e = absurd (let z : ⊥ = cc in z)
touch_none x false e = refl

pub touch_clean : (b : Path) (c : Name) (ys : List Part) (l : List Opening) (v : Verdict) → touch_all b c ys l v ≡ independent → v ≡ independent
touch_clean b c [] l v e = e
touch_clean b c (y ∷ ys) l v e = first_clean v _ (touch_clean b c ys l _ e)

pub none_touched : (b : Path) (c : Name) (ys : List Part) (l : List Opening) (v : Verdict) → touch_all b c ys l v ≡ independent → {y : Part} → In Part y ys → touched b (slot c y) l ≡ false
none_touched b c [] l v e h = elim h [ ]
none_touched b c (y ∷ ys) l v e first = touch_none (slot c y) _ (reason_none v _ (touch_clean b c ys l _ e))
none_touched b c (y ∷ ys) l v e (later h) = none_touched b c ys l _ e h

write_own : (b : Path) (c : Name) (ys : List Part) (l : List Opening) {z : Slot} → In Opening (opening z b) l → In Opening (opening z b) (write_all b c ys l)
write_own b c [] l h = h
write_own b c (y ∷ ys) l {z} h = write_own b c ys (open_at (slot c y) b l) (inner (slot_eq z (slot c y)))
  where
    inner : Dec (z ≡ slot c y) → In Opening (opening z b) (open_at (slot c y) b l)
    inner (yes e) = rw e (open_in (slot c y) b l)
    inner (no n) = open_other (slot c y) b l n h

pub write_in : (b : Path) (c : Name) (ys : List Part) (l : List Opening) {y : Part} → In Part y ys → In Opening (opening (slot c y) b) (write_all b c ys l)
write_in b c [] l h = elim h [ ]
write_in b c (y ∷ ys) l first = write_own b c ys _ (open_in (slot c y) b l)
write_in b c (y ∷ ys) l (later h) = write_in b c ys _ h

-- One that was open still is, by the same path or by b.
pub write_still : (b : Path) (c : Name) (ys : List Part) (l : List Opening) {z : Slot} {q : Path} → In Opening (opening z q) l →
    In Opening (opening z q) (write_all b c ys l) ⊎ In Opening (opening z b) (write_all b c ys l)
write_still b c [] l h = inl h
write_still b c (y ∷ ys) l {z} {q} h = inner (slot_eq z (slot c y)) (λ k. write_still b c ys (open_at (slot c y) b l) k)
  where
    inner : Dec (z ≡ slot c y) → (In Opening (opening z q) (open_at (slot c y) b l) → In Opening (opening z q) (write_all b c ys (open_at (slot c y) b l)) ⊎ In Opening (opening z b) (write_all b c ys (open_at (slot c y) b l))) →
        In Opening (opening z q) (write_all b c ys (open_at (slot c y) b l)) ⊎ In Opening (opening z b) (write_all b c ys (open_at (slot c y) b l))
    inner (yes e) ih = inr (write_own b c ys (open_at (slot c y) b l) (rw e (open_in (slot c y) b l)))
    inner (no n) ih = ih (open_other (slot c y) b l n h)

pub write_other : (b : Path) (c : Name) (ys : List Part) (l : List Opening) {z : Slot} {q : Path} → ((y : Part) → In Part y ys → ¬ (z ≡ slot c y)) → In Opening (opening z q) l →
    In Opening (opening z q) (write_all b c ys l)
write_other b c [] l n h = h
write_other b c (y ∷ ys) l n h = write_other b c ys (open_at (slot c y) b l) (λ x m. n x (later m)) (open_other (slot c y) b l (n y first) h)
