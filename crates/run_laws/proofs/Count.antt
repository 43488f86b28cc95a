-- Counting the once records of a trace at or after a place.
use Rattle.std.specs.Prelude.{List}
use Rattle.std.proofs.Common.{◌≡◌, ◌≤◌, ℕ, suc, ◌+◌, ◌*◌, ap, arith, ◌⊎◌, inl, inr, [], ◌∷◌, ◌++◌, sym}
use Rattle.turk_base.specs.declared.Record.{Record}
use Rattle.turk_base.specs.declared.Record.TheVariants as kept
use Rattle.turk_base.specs.Asks.{Rec, rec}
use Rattle.turk_base.specs.Data.{Data}
use Rattle.turk_base.specs.Names.{Path, root, sub, not_root, Under, self, down, In, first, later, path_eq, pick}
use Rattle.js_tree.specs.Eval.{once_of, onces}
use Rattle.run_laws.proofs.Paths.{under_step, up, one_index, not_below}
use Rattle.run_laws.proofs.Within.{After}
use native.Mathlib.Nat.{le_refl}
use native.Mathlib.Decide.{dec_le}

index_of : Path → ℕ
index_of root = 0
index_of (sub i p) = i

tail_of : Path → Path
tail_of root = root
tail_of (sub i p) = p

after_step : (s : Path) (c j : ℕ) (q : Path) → (After s c q → ⊥) → ((q ≡ s) → (c ≤ j) → ⊥) → After s c (sub j q) → ⊥
unfolding index_of tail_of
after_step s c j q n h (i, k, u) = choose (under_step u)
  where
    choose : (sub i s ≡ sub j q) ⊎ Under (sub i s) q → ⊥
    choose (inl e) = h (sym (ap tail_of e)) (rw (ap index_of e) at k)
    choose (inr w) = n (i, k, w)

pub after : (s : Path) (c : ℕ) (q : Path) → Dec (After s c q)
after s c root = no (λ a. not_root a.2)
after s c (sub j q) = inner (after s c q) (path_eq q s) (dec_le c j)
  where
    inner : Dec (After s c q) → Dec (q ≡ s) → Dec (c ≤ j) → Dec (After s c (sub j q))
    inner (yes a) e h = yes (a.0, a.1, down a.2)
    inner (no n) (yes e) (yes h) = yes (j, h, rw e self)
    inner (no n) (yes e) (no h) = no (λ a. after_step s c j q n (λ x y. h y) a)
    inner (no n) (no e) h = no (λ a. after_step s c j q n (λ x y. e x) a)

abbrev weight : Path → ℕ → Rec → ℕ
weight s c (rec p x) = pick (after s c p) (once_of x 0) 0

pub counts : List Rec → Path → ℕ → ℕ
counts [] s c = 0
counts (q ∷ T) s c = weight s c q + counts T s c

in_after : {c : ℕ} {s q : Path} → After (sub c s) 0 q → After s c q
in_after {c} (i, h, u) = (c, le_refl _, up u)

pick_le : {A B : Type 0} (d : Dec A) (e : Dec B) (m : ℕ) → (A → B) → pick d m 0 ≤ pick e m 0
pick_le (yes a) (yes b) m h = le_refl _
pick_le (yes a) (no b) m h = absurd (b (h a))
pick_le (no a) (yes b) m h = omega arith
pick_le (no a) (no b) m h = le_refl _

pick_two : {A B D : Type 0} (d : Dec A) (e : Dec B) (f : Dec D) (m : ℕ) → (A → D) → (B → D) → (A → B → ⊥) → pick d m 0 + pick e m 0 ≤ pick f m 0
pick_two (yes a) (yes b) f m g h n = absurd (n a b)
pick_two (yes a) (no b) (yes z) m g h n = omega arith
pick_two (yes a) (no b) (no z) m g h n = absurd (z (g a))
pick_two (no a) (yes b) (yes z) m g h n = omega arith
pick_two (no a) (yes b) (no z) m g h n = absurd (z (h b))
pick_two (no a) (no b) f m g h n = omega arith

pub count_step : (T : List Rec) (s : Path) (c : ℕ) → counts T s (suc c) ≤ counts T s c
unfolding counts
count_step [] s c = le_refl _
count_step (rec p x ∷ T) s c = let a = count_step T s c in let b = pick_le (after s (suc c) p) (after s c p) (once_of x 0) (λ w. (w.0, omega (arith, w.1), w.2)) in omega (arith, a, b)

apart : {c : ℕ} {s q : Path} → After (sub c s) 0 q → After s (suc c) q → ⊥
apart (i, h, u) (j, k, v) = omega (arith, one_index (up u) v)

pub count_two : (T : List Rec) (s : Path) (c : ℕ) → counts T (sub c s) 0 + counts T s (suc c) ≤ counts T s c
unfolding counts
count_two [] s c = le_refl _
count_two (rec p x ∷ T) s c = let a = count_two T s c in
    let b = pick_two (after (sub c s) 0 p) (after s (suc c) p) (after s c p) (once_of x 0) in_after (λ w. (w.0, omega (arith, w.1), w.2)) apart in omega (arith, a, b)

own_one : (T : List Rec) (s : Path) (c : ℕ) (d : Data) → In Rec (rec (sub c s) (kept.Once d)) T → suc (counts T (sub c s) 0 + counts T s (suc c)) ≤ counts T s c
unfolding counts
own_one [] s c d m = elim m [ ]
own_one (q ∷ T) s c d m = inner q m (count_two T s c) (λ z. own_one T s c d z)
  where
    inner : (q : Rec) → In Rec (rec (sub c s) (kept.Once d)) (q ∷ T) → counts T (sub c s) 0 + counts T s (suc c) ≤ counts T s c → (In Rec (rec (sub c s) (kept.Once d)) T → suc (counts T (sub c s) 0 + counts T s (suc c)) ≤ counts T s c) →
        suc ((weight (sub c s) 0 q + counts T (sub c s) 0) + (weight s (suc c) q + counts T s (suc c))) ≤ weight s c q + counts T s c
    inner q first a ih = one (after (sub c s) 0 (sub c s)) (after s (suc c) (sub c s)) (after s c (sub c s))
      where
        one : (x : Dec (After (sub c s) 0 (sub c s))) (y : Dec (After s (suc c) (sub c s))) (z : Dec (After s c (sub c s))) →
            suc ((pick x 1 0 + counts T (sub c s) 0) + (pick y 1 0 + counts T s (suc c))) ≤ pick z 1 0 + counts T s c
        one (yes x) y z = absurd (not_below x.2)
        one (no x) (yes y) z = absurd (omega (arith, y.1, one_index self y.2))
        one (no x) (no y) (yes z) = omega (arith, a)
        one (no x) (no y) (no z) = absurd (z (c, le_refl _, self))
    inner (rec p x) (later m) a ih = let b = pick_two (after (sub c s) 0 p) (after s (suc c) p) (after s c p) (once_of x 0) in_after (λ w. (w.0, omega (arith, w.1), w.2)) apart in omega (arith, ih m, b)

pub count_own : (T : List Rec) (s : Path) (c : ℕ) (d : Data) → In Rec (rec (sub c s) (kept.Once d)) T → suc (counts T (sub c s) 0 + counts T s (suc c)) ≤ counts T s c
count_own T s c d m = own_one T s c d m

pub count_more : (T m : List Rec) (s : Path) (c : ℕ) → counts T s c ≤ counts (T ++ m) s c
unfolding counts
count_more [] m s c = omega arith
count_more (q ∷ T) m s c = let a = count_more T m s c in omega (arith, a)

once_more : (x : Record) (n : ℕ) → once_of x n ≡ once_of x 0 + n
once_more (kept.Post t) n = omega arith
once_more (kept.Reply t x) n = omega arith
once_more (kept.Draw m k) n = omega arith
once_more (kept.Once d) n = omega arith

pub count_all : (T : List Rec) (s : Path) (c : ℕ) → counts T s c ≤ onces T
unfolding counts
count_all [] s c = le_refl _
count_all (rec p x ∷ T) s c = rw (once_more x (onces T)) (let a = count_all T s c in let b = low (after s c p) (once_of x 0) in omega (arith, a, b))
  where
    low : {A : Type 0} (d : Dec A) (m : ℕ) → pick d m 0 ≤ m
    low (yes a) m = le_refl _
    low (no a) m = omega arith

pub mul_le : (n a b : ℕ) → a ≤ b → n * a ≤ n * b
mul_le n a b h = grind arith

pub mul_two : (n a b c : ℕ) → a + b ≤ c → n * a + n * b ≤ n * c
mul_two n a b c h = let k : n * (a + b) ≤ n * c = mul_le n (a + b) c h in omega (arith, k)

pub mul_own : (n a b c : ℕ) → suc (a + b) ≤ c → n * suc a + n * b ≤ n * c
mul_own n a b c h = let k : n * suc (a + b) ≤ n * c = mul_le n (suc (a + b)) c h in omega (arith, k)
