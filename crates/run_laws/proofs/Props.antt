-- Facts on lists of properties and their keys.
use Rattle.std.specs.Prelude.{List, Bool, true, false, Some, None, ℕ, if◌then◌else◌}
use Rattle.std.proofs.Common.{◌≡◌, refl, ap, ◌⊎◌, inl, inr, [], ◌∷◌, ◌++◌, sym, ◌∙◌, true≢false}
use Rattle.turk_base.specs.Cells.{Props, found, keys_of, set_key, drop_key, drop_all, class_of, past_end, lower_than, put_down, doomed, deleted_all}
use Rattle.turk_base.specs.Names.{Units, In, first, later, Part, shape, at, pick, units_eq, part_eq}
use Rattle.turk_base.specs.Values.{Val, property}

pub none_some : {A : Type 0} {x : A} → None ≡ Some x → ⊥
none_some e = cc

pub in_left : {A : Type 0} {x : A} (l m : List A) → In A x l → In A x (l ++ m)
in_left [] m h = elim h [ ]
in_left (y ∷ l) m first = first
in_left (y ∷ l) m (later h) = later (in_left l m h)

pub in_right : {A : Type 0} {x : A} (l m : List A) → In A x m → In A x (l ++ m)
in_right [] m h = h
in_right (y ∷ l) m h = later (in_right l m h)

pub in_split : {A : Type 0} {x : A} (l m : List A) → In A x (l ++ m) → In A x l ⊎ In A x m
in_split [] m h = inr h
in_split (y ∷ l) m first = inl first
in_split (y ∷ l) m (later h) = elim (in_split l m h) [ inl a ↦ inl (later a) | inr a ↦ inr a ]

pub in_one : {A : Type 0} {x y : A} → In A x (y ∷ []) → x ≡ y
in_one first = refl
in_one (later h) = elim h [ ]

pub pick_yes : {A B : Type 0} {x : B} (y : B) (d : Dec A) → A → pick d x y ≡ x
pick_yes y (yes a) h = refl
pick_yes y (no n) h = absurd (n h)

pub pick_no : {A B : Type 0} (x : B) {y : B} (d : Dec A) → ¬ A → pick d x y ≡ y
pick_no x (yes a) h = absurd (h a)
pick_no x (no n) h = refl

-- ---- a key set

pub found_set : (k : Units) (v : Val) (p : Props) → found k (set_key k v p) ≡ Some v
found_set k v [] = pick_yes _ (units_eq k k) refl
found_set k v (property j w ∷ l) = inner (units_eq j k) (found_set k v l)
  where
    inner : (d : Dec (j ≡ k)) → found k (set_key k v l) ≡ Some v → found k (pick d (property j v ∷ l) (property j w ∷ set_key k v l)) ≡ Some v
    inner (yes e) ih = pick_yes _ (units_eq j k) e
    inner (no n) ih = pick_no _ (units_eq j k) n ∙ ih

pub found_set_other : (k : Units) (v : Val) (p : Props) {j : Units} → ¬ (j ≡ k) → found j (set_key k v p) ≡ found j p
found_set_other k v [] {j} n = pick_no _ (units_eq k j) (λ e. n (sym e))
found_set_other k v (property i w ∷ l) {j} n = inner (units_eq i k) (found_set_other k v l n)
  where
    inner : (d : Dec (i ≡ k)) → found j (set_key k v l) ≡ found j l → found j (pick d (property i v ∷ l) (property i w ∷ set_key k v l)) ≡ pick (units_eq i j) (Some w) (found j l)
    inner (yes e) ih = pick_no _ (units_eq i j) (λ z. n (sym z ∙ e)) ∙ sym (pick_no _ (units_eq i j) (λ z. n (sym z ∙ e)))
    inner (no m) ih = ap (λ z. pick (units_eq i j) (Some w) z) ih

pub keys_set_there : (k : Units) (v : Val) (p : Props) {w : Val} → found k p ≡ Some w → keys_of (set_key k v p) ≡ keys_of p
keys_set_there k v [] e = absurd (none_some e)
keys_set_there k v (property j u ∷ l) {w} e = inner (units_eq j k) e (λ z. keys_set_there k v l z)
  where
    inner : (d : Dec (j ≡ k)) → pick d (Some u) (found k l) ≡ Some w → (found k l ≡ Some w → keys_of (set_key k v l) ≡ keys_of l) → keys_of (pick d (property j v ∷ l) (property j u ∷ set_key k v l)) ≡ j ∷ keys_of l
    inner (yes d) e ih = refl
    inner (no n) e ih = ap (λ z. j ∷ z) (ih e)

pub keys_set_new : (k : Units) (v : Val) (p : Props) → found k p ≡ None → keys_of (set_key k v p) ≡ keys_of p ++ (k ∷ [])
keys_set_new k v [] e = refl
keys_set_new k v (property j u ∷ l) e = inner (units_eq j k) e (λ z. keys_set_new k v l z)
  where
    inner : (d : Dec (j ≡ k)) → pick d (Some u) (found k l) ≡ None → (found k l ≡ None → keys_of (set_key k v l) ≡ keys_of l ++ (k ∷ [])) → keys_of (pick d (property j v ∷ l) (property j u ∷ set_key k v l)) ≡ j ∷ (keys_of l ++ (k ∷ []))
    inner (yes d) e ih = absurd (none_some (sym e))
    inner (no n) e ih = ap (λ z. j ∷ z) (ih e)

-- ---- a key missing

pub none_keys : (k : Units) (p : Props) → found k p ≡ None → ¬ (In Units k (keys_of p))
none_keys k [] e h = elim h [ ]
none_keys k (property j u ∷ l) e h = inner u l (units_eq j k) e h (λ z w. none_keys k l z w)
  where
    inner : {k j : Units} (u : Val) (l : Props) (d : Dec (j ≡ k)) → pick d (Some u) (found k l) ≡ None → In Units k (j ∷ keys_of l) → (found k l ≡ None → ¬ (In Units k (keys_of l))) → ⊥
    inner u l (yes d) e h ih = absurd (none_some (sym e))
    inner u l (no n) e first ih = n refl
    inner u l (no n) e (later h) ih = ih e h

pub keys_none : (k : Units) (p : Props) → ¬ (In Units k (keys_of p)) → found k p ≡ None
keys_none k [] n = refl
keys_none k (property j u ∷ l) n = inner (units_eq j k) (keys_none k l (λ h. n (later h)))
  where
    inner : (d : Dec (j ≡ k)) → found k l ≡ None → pick d (Some u) (found k l) ≡ None
    inner (yes e) ih = absurd (n (rw e first))
    inner (no m) ih = ih

pub same_keys : (k : Units) (p q : Props) → keys_of p ≡ keys_of q → found k q ≡ None → found k p ≡ None
same_keys k p q e n = keys_none k p (λ h. none_keys k q n (rw (sym e) h))

-- ---- keys dropped

without : Units → List Units → List Units
without k [] = []
without k (j ∷ ks) = pick (units_eq j k) (without k ks) (j ∷ without k ks)

keys_drop : (k : Units) (p : Props) → keys_of (drop_key k p) ≡ without k (keys_of p)
unfolding without
keys_drop k [] = refl
keys_drop k (property j u ∷ l) = inner (units_eq j k) (keys_drop k l)
  where
    inner : (d : Dec (j ≡ k)) → keys_of (drop_key k l) ≡ without k (keys_of l) → keys_of (pick d (drop_key k l) (property j u ∷ drop_key k l)) ≡ pick d (without k (keys_of l)) (j ∷ without k (keys_of l))
    inner (yes e) ih = ih
    inner (no n) ih = ap (λ z. j ∷ z) ih

pub keys_drop_same : (k : Units) (p q : Props) → keys_of p ≡ keys_of q → keys_of (drop_key k p) ≡ keys_of (drop_key k q)
keys_drop_same k p q e = keys_drop k p ∙ ap (without k) e ∙ sym (keys_drop k q)

pub found_drop : (k : Units) (p : Props) → found k (drop_key k p) ≡ None
found_drop k [] = refl
found_drop k (property j u ∷ l) = inner (units_eq j k) (found_drop k l)
  where
    inner : (d : Dec (j ≡ k)) → found k (drop_key k l) ≡ None → found k (pick d (drop_key k l) (property j u ∷ drop_key k l)) ≡ None
    inner (yes e) ih = ih
    inner (no n) ih = pick_no _ (units_eq j k) n ∙ ih

pub found_drop_other : (k : Units) (p : Props) {j : Units} → ¬ (j ≡ k) → found j (drop_key k p) ≡ found j p
found_drop_other k [] n = refl
found_drop_other k (property i u ∷ l) {j} n = inner (units_eq i k) (found_drop_other k l n)
  where
    inner : (d : Dec (i ≡ k)) → found j (drop_key k l) ≡ found j l → found j (pick d (drop_key k l) (property i u ∷ drop_key k l)) ≡ pick (units_eq i j) (Some u) (found j l)
    inner (yes e) ih = ih ∙ sym (pick_no _ (units_eq i j) (λ z. n (sym z ∙ e)))
    inner (no m) ih = ap (λ z. pick (units_eq i j) (Some u) z) ih

pub drop_none : (k : Units) (p : Props) → found k p ≡ None → drop_key k p ≡ p
drop_none k [] e = refl
drop_none k (property j u ∷ l) e = inner (units_eq j k) e (λ z. drop_none k l z)
  where
    inner : (d : Dec (j ≡ k)) → pick d (Some u) (found k l) ≡ None → (found k l ≡ None → drop_key k l ≡ l) → pick d (drop_key k l) (property j u ∷ drop_key k l) ≡ property j u ∷ l
    inner (yes d) e ih = absurd (none_some (sym e))
    inner (no n) e ih = ap (λ z. property j u ∷ z) (ih e)

pub keys_drop_all : (ks : List Units) (p q : Props) → keys_of p ≡ keys_of q → keys_of (drop_all ks p) ≡ keys_of (drop_all ks q)
keys_drop_all [] p q e = e
keys_drop_all (k ∷ ks) p q e = keys_drop_all ks (drop_key k p) (drop_key k q) (keys_drop_same k p q e)

pub found_all_out : (ks : List Units) (p : Props) {j : Units} → ¬ (In Units j ks) → found j (drop_all ks p) ≡ found j p
found_all_out [] p n = refl
found_all_out (k ∷ ks) p {j} n = found_all_out ks (drop_key k p) (λ h. n (later h)) ∙ found_drop_other k p (λ e. n (rw e first))

found_all_none : (ks : List Units) (p : Props) (j : Units) → found j p ≡ None → found j (drop_all ks p) ≡ None
found_all_none [] p j e = e
found_all_none (k ∷ ks) p j e = found_all_none ks (drop_key k p) j (inner (units_eq j k))
  where
    inner : Dec (j ≡ k) → found j (drop_key k p) ≡ None
    inner (yes d) = rw d (found_drop k p)
    inner (no n) = found_drop_other k p n ∙ e

pub found_all_in : (ks : List Units) (p : Props) {j : Units} → In Units j ks → found j (drop_all ks p) ≡ None
found_all_in [] p h = elim h [ ]
found_all_in (k ∷ ks) p first = found_all_none ks (drop_key k p) k (found_drop k p)
found_all_in (k ∷ ks) p (later h) = found_all_in ks (drop_key k p) h

-- ---- the keys that a new length deletes

in_down : (k : Units) (ks : List Units) → In Units k (put_down k ks)
in_down k [] = first
in_down k (j ∷ ks) = inner (lower_than (class_of k) (class_of j)) (in_down k ks)
  where
    inner : (t : Bool) → In Units k (put_down k ks) → In Units k (if t then j ∷ put_down k ks else k ∷ j ∷ ks)
    inner true ih = later ih
    inner false ih = first

in_down_other : (k : Units) (ks : List Units) {x : Units} → In Units x ks → In Units x (put_down k ks)
in_down_other k [] h = elim h [ ]
in_down_other k (j ∷ ks) {x} h = inner k (lower_than (class_of k) (class_of j)) h (λ z. in_down_other k ks z)
  where
    inner : {j x : Units} {ks : List Units} (k : Units) (t : Bool) → In Units x (j ∷ ks) → (In Units x ks → In Units x (put_down k ks)) → In Units x (if t then j ∷ put_down k ks else k ∷ j ∷ ks)
    inner k true first ih = first
    inner k true (later h) ih = later (ih h)
    inner k false h ih = later h

down_in : (k : Units) (ks : List Units) {x : Units} → In Units x (put_down k ks) → (x ≡ k) ⊎ In Units x ks
down_in k [] h = inl (in_one h)
down_in k (j ∷ ks) {x} h = inner (lower_than (class_of k) (class_of j)) h (λ z. down_in k ks z)
  where
    two : {k x : Units} {ks : List Units} → In Units x (k ∷ ks) → (x ≡ k) ⊎ In Units x ks
    two first = inl refl
    two (later h) = inr h

    on : {k j x : Units} {ks : List Units} → In Units x (j ∷ put_down k ks) → (In Units x (put_down k ks) → (x ≡ k) ⊎ In Units x ks) → (x ≡ k) ⊎ In Units x (j ∷ ks)
    on first ih = inr first
    on (later h) ih = elim (ih h) [ inl e ↦ inl e | inr m ↦ inr (later m) ]

    inner : (t : Bool) → In Units x (if t then j ∷ put_down k ks else k ∷ j ∷ ks) → (In Units x (put_down k ks) → (x ≡ k) ⊎ In Units x ks) → (x ≡ k) ⊎ In Units x (j ∷ ks)
    inner true h ih = on h ih
    inner false h ih = two h

-- one that is deleted stands there and is past the length
pub doomed_in : (z : ℕ) (ks : List Units) {x : Units} → In Units x (doomed z ks) → In Units x ks × (past_end z (class_of x) ≡ true)
unfolding doomed
doomed_in z [] h = elim h [ ]
doomed_in z (k ∷ ks) {x} h = inner (past_end z (class_of k)) refl h (λ m. doomed_in z ks m)
  where
    own : past_end z (class_of k) ≡ true → (x ≡ k) ⊎ In Units x (doomed z ks) → (In Units x (doomed z ks) → In Units x ks × (past_end z (class_of x) ≡ true)) → In Units x (k ∷ ks) × (past_end z (class_of x) ≡ true)
    own e (inl d) ih = (rw d first, rw d e)
    own e (inr m) ih = (later (ih m).0, (ih m).1)

    inner : (t : Bool) → past_end z (class_of k) ≡ t → In Units x (if t then put_down k (doomed z ks) else doomed z ks) → (In Units x (doomed z ks) → In Units x ks × (past_end z (class_of x) ≡ true)) → In Units x (k ∷ ks) × (past_end z (class_of x) ≡ true)
    inner true e h ih = own e (down_in k (doomed z ks) h) ih
    inner false e h ih = (later (ih h).0, (ih h).1)

pub in_doomed : (z : ℕ) (ks : List Units) {x : Units} → In Units x ks → past_end z (class_of x) ≡ true → In Units x (doomed z ks)
unfolding doomed
in_doomed z [] h e = elim h [ ]
in_doomed z (k ∷ ks) {x} h e = inner (past_end z (class_of k)) refl h (λ m. in_doomed z ks m e)
  where
    down : {k : Units} {ks : List Units} → In Units x (k ∷ ks) → (In Units x ks → In Units x (doomed z ks)) → In Units x (put_down k (doomed z ks))
    down {ks = ks} first ih = in_down x (doomed z ks)
    down {ks = ks} (later m) ih = in_down_other _ (doomed z ks) (ih m)

    skip : {k : Units} {ks : List Units} → past_end z (class_of k) ≡ false → In Units x (k ∷ ks) → (In Units x ks → In Units x (doomed z ks)) → In Units x (doomed z ks)
    skip d first ih = absurd (true≢false (sym e ∙ d))
    skip d (later m) ih = ih m

    inner : (t : Bool) → past_end z (class_of k) ≡ t → In Units x (k ∷ ks) → (In Units x ks → In Units x (doomed z ks)) → In Units x (if t then put_down k (doomed z ks) else doomed z ks)
    inner true d h ih = down h ih
    inner false d h ih = skip d h ih

pub deleted_in : (ks : List Units) {k : Units} → In Part (at k) (deleted_all ks) → In Units k ks
deleted_in [] h = elim h [ ]
deleted_in (j ∷ ks) h = inner h (λ m. deleted_in ks m)
  where
    inner : {j k : Units} {ks : List Units} → In Part (at k) (at j ∷ shape ∷ deleted_all ks) → (In Part (at k) (deleted_all ks) → In Units k ks) → In Units k (j ∷ ks)
    inner first ih = first
    inner (later (later m)) ih = later (ih m)

pub part_in : (y : Part) (ys : List Part) → Dec (In Part y ys)
part_in y [] = no (λ h. elim h [ ])
part_in y (x ∷ ys) = elim (part_eq y x) [
  | yes e ↦ yes (rw e first)
  | no n ↦ elim (part_in y ys) [
    | yes h ↦ yes (later h)
    | no m ↦ no (λ h. not_both n m h)
  ]
]
  where
    not_both : {y x : Part} {ys : List Part} → ¬ (y ≡ x) → ¬ (In Part y ys) → ¬ (In Part y (x ∷ ys))
    not_both n m first = n refl
    not_both n m (later h) = m h

pub units_in : (y : Units) (ys : List Units) → Dec (In Units y ys)
units_in y [] = no (λ h. elim h [ ])
units_in y (x ∷ ys) = elim (units_eq y x) [
  | yes e ↦ yes (rw e first)
  | no n ↦ elim (units_in y ys) [
    | yes h ↦ yes (later h)
    | no m ↦ no (λ h. not_both n m h)
  ]
]
  where
    not_both : {y x : Units} {ys : List Units} → ¬ (y ≡ x) → ¬ (In Units y ys) → ¬ (In Units y (x ∷ ys))
    not_both n m first = n refl
    not_both n m (later h) = m h
