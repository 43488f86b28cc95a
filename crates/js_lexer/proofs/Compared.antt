-- When two lists of numbers are found equal, and when not.
use Rattle.std.proofs.Common.{◌≡◌, ℕ, ◌<◌, Bool, true, false, List, length, get_or, refl, sym, ◌∙◌, inl, inr, arith}
use Rattle.std.proofs.lemmas.List.{ext_get_or, get_or_past}
use Rattle.std.proofs.lemmas.Bool.Decides.{leb_tells}
use Rattle.std.proofs.lemmas.Slice.Eq.{bytes_eq-Decides}
use Rattle.std.specs.Str.{bytes_eq}

not_true : (b : Bool) → (b ≡ true → ⊥) → false ≡ b
not_true true h = absurd (h refl)
not_true false h = refl

pub differ : (xs ys : List ℕ) → (xs ≡ ys → ⊥) → false ≡ bytes_eq xs ys
differ xs ys h = not_true (bytes_eq xs ys) (λ e. h ((bytes_eq-Decides xs ys).0 e))

pub same : (xs ys : List ℕ) → length xs ≡ length ys → ((k : ℕ) → k < length xs → get_or xs k 0 ≡ get_or ys k 0) → true ≡ bytes_eq xs ys
same xs ys n h = sym ((bytes_eq-Decides xs ys).1 (ext_get_or 0 xs ys n h))

-- a character other than NUL stands within the text
pub stands_within : (text : List ℕ) (k c : ℕ) → get_or text k 0 ≡ c → 0 < c → k < length text
stands_within text k c e some = elim (leb_tells (length text) k) [
  | inl t ↦ (let f : c ≡ 0 = sym e ∙ get_or_past text k 0 t.1 in absurd (omega arith))
  | inr t ↦ t.1
]
