-- The records made by a run, and which of their paths is the greatest (own rules).
use Rattle.std.specs.Prelude.{◌≡◌, ℕ, Bool, true, List, Option, Some, None}
use Rattle.std.specs.List.{AllByRecursion}
use Rattle.std.specs.Ordering.{nat_cmp, is_gt}
use Rattle.std.specs.Cmp.Lexicographic.{slice_cmp}
use Rattle.turk_base.specs.declared.Entry.{Entry}

-- the entries, and how many more they take without taking memory
pub record Made : Type 0 where
  pub items : List Entry
  pub room : ℕ

-- The first index that differs decides, and a path comes after each of its fronts.
abbrev pub comes_after : List ℕ → List ℕ → Bool
comes_after p q = is_gt (slice_cmp nat_cmp p q)

-- a path comes after that of the entry, where there is one
abbrev pub comes_after_entry : List ℕ → Option Entry → Bool
comes_after_entry p None = true
comes_after_entry p (Some e) = comes_after p e.path

-- A path that comes after that of this entry comes after each.
abbrev pub IsGreatest : Option Entry → List Entry → Type 0
IsGreatest e es = (p : List ℕ) → comes_after_entry p e ≡ true → AllByRecursion (λ f. comes_after p f.path ≡ true) es
