-- Facts on paths.
use Rattle.std.proofs.Common.{◌≡◌, ℕ, suc, ◌≤◌, refl, ap, arith, ◌⊎◌, inl, inr, sym}
use Rattle.turk_base.specs.Names.{Path, root, sub, Under, self, down}

pub under_trans : {p q r : Path} → Under p q → Under q r → Under p r
under_trans u self = u
under_trans u (down v) = down (under_trans u v)

abbrev pub depth : Path → ℕ
depth root = 0
depth (sub i p) = suc (depth p)

pub under_depth : {p q : Path} → Under p q → depth p ≤ depth q
under_depth self = omega arith
under_depth (down u) = let h = under_depth u in omega arith

pub not_below : {i : ℕ} {p : Path} → Under (sub i p) p → ⊥
not_below u = let h = under_depth u in omega arith

pub under_step : {p q : Path} {j : ℕ} → Under p (sub j q) → (p ≡ sub j q) ⊎ Under p q
under_step self = inl refl
under_step (down u) = inr u

-- Two prefixes of one path: one is a prefix of the other.
pub comparable : {p q r : Path} → Under p r → Under q r → Under p q ⊎ Under q p
comparable self v = inr v
comparable (down u) v = inner (under_step v) (λ w. comparable u w) u
  where
    inner : {p q r : Path} {j : ℕ} → (q ≡ sub j r) ⊎ Under q r → (Under q r → Under p q ⊎ Under q p) → Under p r → Under p q ⊎ Under q p
    inner (inl e) k u = inl (rw e (down u))
    inner (inr w) k u = k w

abbrev last_of : ℕ → Path → ℕ
last_of d root = d
last_of d (sub i p) = i

under_sub : {i j : ℕ} {s : Path} → Under (sub i s) (sub j s) → i ≡ j
under_sub u = inner (under_step u)
  where
    inner : {i j : ℕ} {s : Path} → (sub i s ≡ sub j s) ⊎ Under (sub i s) s → i ≡ j
    inner {i} (inl e) = ap (last_of i) e
    inner (inr w) = absurd (not_below w)

-- Paths below two different indexes of one scope differ.
pub one_index : {i j : ℕ} {s q : Path} → Under (sub i s) q → Under (sub j s) q → i ≡ j
one_index u v = inner (comparable u v)
  where
    inner : {i j : ℕ} {s : Path} → Under (sub i s) (sub j s) ⊎ Under (sub j s) (sub i s) → i ≡ j
    inner (inl w) = under_sub w
    inner (inr w) = sym (under_sub w)

-- the scope of a path below an index
pub up : {i : ℕ} {s q : Path} → Under (sub i s) q → Under s q
up u = under_trans (down self) u
