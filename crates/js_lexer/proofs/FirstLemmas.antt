-- What a piece is by its first character: no character begins two kinds of piece, but `/`, which begins comments and punctuators.
use Rattle.std.proofs.Common.{◌≡◌, ◌≤◌, ◌<◌, ◌+◌, ◌-◌, ℕ, zero, suc, Bool, true, false, not, ◌||◌, ◌&&◌, ◌==◌, nat_le, cond, Option, Some, None, is_some, refl, sym, ◌∙◌, ap, subst, inl, inr, lit≤, arith}
use Rattle.std.proofs.lemmas.Bool.Decides.{nat_tests, eqb_tells, leb_tells, Decides-eqb}
use Rattle.std.specs.Char.{digit_value}
use Rattle.unicode_ident.proofs.Computing.{unicode_ident}
use Rattle.js_lexer.specs.Chars.{is_white, is_line_end, is_digit, is_quote, starts}
use Rattle.js_lexer.proofs.NumberLemmas.{has_digit, clash}
use Rattle.js_lexer.specs.Marks.{single}
use Rattle.js_lexer.specs.declared.Mark.{Mark}

-- ---- a character that passes a test is one of the few that do

pick : (P : ℕ → Type 0) (c v : ℕ) {rest : Bool} → ((c == v) || rest) ≡ true → P v → (rest ≡ true → P c) → P c
pick P c v {rest} e here k = elim (eqb_tells c v) [
  | inl t ↦ subst P (sym t.1) here
  | inr t ↦ k (sym (ap (λ b. b || rest) t.0) ∙ e)
]

pick_some : (P : ℕ → Type 0) (c v : ℕ) {A : Type 0} (x rest : Option A) {y : A} → cond (c == v) x rest ≡ Some y → P v → (rest ≡ Some y → P c) → P c
pick_some P c v x rest e here k = elim (eqb_tells c v) [
  | inl t ↦ subst P (sym t.1) here
  | inr t ↦ k (sym (ap (λ b. cond b x rest) t.0) ∙ e)
]

last : (P : ℕ → Type 0) (c v : ℕ) → (c == v) ≡ true → P v → P c
last P c v e here = elim (eqb_tells c v) [
  | inl t ↦ subst P (sym t.1) here
  | inr t ↦ absurd (grind arith)
]

-- the test holds of so many numbers from one on
abbrev all_from : (ℕ → Bool) → ℕ → ℕ → Bool
all_from f low zero = true
all_from f low (suc n) = f low && all_from f (suc low) n

both : (a b : Bool) → (a && b) ≡ true → (a ≡ true) × (b ≡ true)
both true b e = (refl, e)
both false b e = absurd (clash e refl)

each_from : (f : ℕ → Bool) (low n c : ℕ) → all_from f low n ≡ true → low ≤ c → c < low + n → f c ≡ true
each_from f low zero c e a b = absurd (omega arith)
each_from f low (suc n) c e a b =
    let h = both (f low) (all_from f (suc low) n) e in
    elim (eqb_tells c low) [
      | inl t ↦ subst (λ x. f x ≡ true) (sym t.1) h.0
      | inr t ↦ each_from f (suc low) n c h.1 (let ne = t.1 in omega arith) (omega arith)
    ]

pick_range : (P : ℕ → Type 0) (c : ℕ) (f : ℕ → Bool) (low n : ℕ) {rest : Bool} → ((nat_le low c && nat_le c (low + n - 1)) || rest) ≡ true → all_from f low n ≡ true → 0 < n → (f c ≡ true → P c) → (rest ≡ true → P c) → P c
pick_range P c f low n {rest} e all some here k = elim (leb_tells low c) [
  | inr t ↦ k (sym (ap (λ b. (b && nat_le c (low + n - 1)) || rest) t.0) ∙ e)
  | inl t ↦ elim (leb_tells c (low + n - 1)) [
    | inr u ↦ k (sym (ap (λ b. b || rest) (ap (λ b. b && nat_le c (low + n - 1)) t.0 ∙ u.0)) ∙ e)
    | inl u ↦ here (each_from f low n c all t.1 (let h = u.1 in omega arith))
  ]
]

no_some : {A : Type 0} {x : A} → None ≡ Some x → ⊥
no_some e = cc

-- ---- the kind of piece that a character begins, by a number

abbrev pub sort : ℕ → ℕ
sort c = cond (is_white c) 1 (cond (is_line_end c) 2 (cond (is_digit 10 c) 4 (cond (is_quote c) 5 (cond (c == 47) 6 (cond (is_some (single c)) 7 (cond (starts c) 3 0))))))

pub sort-white : (c : ℕ) → is_white c ≡ true → sort c ≡ 1
sort-white c e = rw e refl

pub sort-line : (c : ℕ) → is_line_end c ≡ true → sort c ≡ 2
sort-line c e = let P : ℕ → Type 0 = λ x. sort x ≡ 2 in pick P c 10 e refl (λ e. pick P c 13 e refl (λ e. pick P c 8232 e refl (λ e. last P c 8233 e refl)))

digit_range : (c : ℕ) → digit_value c < 10 → (48 ≤ c) × (c < 58)
digit_range c h = (grind (arith, nat_tests), grind (arith, nat_tests))

pub digit_from : (f : ℕ → Bool) (c : ℕ) → all_from f 48 10 ≡ true → is_digit 10 c ≡ true → f c ≡ true
digit_from f c all e = let r = digit_range c (has_digit 10 c e) in each_from f 48 10 c all r.0 r.1

pub sort-digit : (c : ℕ) → is_digit 10 c ≡ true → sort c ≡ 4
sort-digit c e = (Decides-eqb (sort c) 4).0 (digit_from (λ x. sort x == 4) c refl e)

pub sort-quote : (c : ℕ) → is_quote c ≡ true → sort c ≡ 5
sort-quote c e = let P : ℕ → Type 0 = λ x. sort x ≡ 5 in pick P c 34 e refl (λ e. last P c 39 e refl)

pub sort-slash : (c : ℕ) → c ≡ 47 → sort c ≡ 6
sort-slash c e = subst (λ x. sort x ≡ 6) (sym e) refl

pub sort-single : (c : ℕ) {m : Mark} → single c ≡ Some m → 6 ≤ sort c
unfolding single
sort-single c e = let P : ℕ → Type 0 = λ x. 6 ≤ sort x in pick_some P c 123 _ _ e (lit≤ tt) (λ e. pick_some P c 125 _ _ e (lit≤ tt) (λ e. pick_some P c 40 _ _ e (lit≤ tt) (λ e. pick_some P c 41 _ _ e (lit≤ tt) (λ e. pick_some P c 91 _ _ e (lit≤ tt) (λ e. pick_some P c 93 _ _ e (lit≤ tt) (λ e. pick_some P c 46 _ _ e (lit≤ tt) (λ e. pick_some P c 59 _ _ e (lit≤ tt) (λ e. pick_some P c 44 _ _ e (lit≤ tt) (λ e. pick_some P c 60 _ _ e (lit≤ tt) (λ e. pick_some P c 62 _ _ e (lit≤ tt) (λ e. pick_some P c 61 _ _ e (lit≤ tt) (λ e. pick_some P c 33 _ _ e (lit≤ tt) (λ e. pick_some P c 43 _ _ e (lit≤ tt) (λ e. pick_some P c 45 _ _ e (lit≤ tt) (λ e. pick_some P c 42 _ _ e (lit≤ tt) (λ e. pick_some P c 37 _ _ e (lit≤ tt) (λ e. pick_some P c 38 _ _ e (lit≤ tt) (λ e. pick_some P c 124 _ _ e (lit≤ tt) (λ e. pick_some P c 94 _ _ e (lit≤ tt) (λ e. pick_some P c 126 _ _ e (lit≤ tt) (λ e. pick_some P c 63 _ _ e (lit≤ tt) (λ e. pick_some P c 58 _ _ e (lit≤ tt) (λ e. pick_some P c 47 _ _ e (lit≤ tt) (λ e. absurd (no_some e)))))))))))))))))))))))))

-- ---- what begins an identifier begins nothing else

flip : (b : Bool) → not b ≡ true → b ≡ false
flip true e = sym e
flip false e = refl

white_starts : (c : ℕ) → is_white c ≡ true → starts c ≡ false
unfolding unicode_ident
white_starts c e = let P : ℕ → Type 0 = λ x. starts x ≡ false in
    pick P c 9 e refl (λ e. pick P c 11 e refl (λ e. pick P c 12 e refl (λ e. pick P c 32 e refl (λ e. pick P c 160 e refl (λ e. pick P c 5760 e refl (λ e. pick_range P c (λ x. not (starts x)) 0x2000 11 e refl (omega arith) (flip (starts c)) (λ e. pick P c 0x202F e refl (λ e. pick P c 0x205F e refl (λ e. last P c 0x3000 e refl)))))))))

line_starts : (c : ℕ) → is_line_end c ≡ true → starts c ≡ false
unfolding unicode_ident
line_starts c e = let P : ℕ → Type 0 = λ x. starts x ≡ false in pick P c 10 e refl (λ e. pick P c 13 e refl (λ e. pick P c 8232 e refl (λ e. last P c 8233 e refl)))

digit_starts : (c : ℕ) → is_digit 10 c ≡ true → starts c ≡ false
unfolding unicode_ident
digit_starts c e = flip (starts c) (digit_from (λ x. not (starts x)) c refl e)

quote_starts : (c : ℕ) → is_quote c ≡ true → starts c ≡ false
unfolding unicode_ident
quote_starts c e = let P : ℕ → Type 0 = λ x. starts x ≡ false in pick P c 34 e refl (λ e. last P c 39 e refl)

single_starts : (c : ℕ) {m : Mark} → single c ≡ Some m → starts c ≡ false
unfolding single unicode_ident
single_starts c e = let P : ℕ → Type 0 = λ x. starts x ≡ false in pick_some P c 123 _ _ e refl (λ e. pick_some P c 125 _ _ e refl (λ e. pick_some P c 40 _ _ e refl (λ e. pick_some P c 41 _ _ e refl (λ e. pick_some P c 91 _ _ e refl (λ e. pick_some P c 93 _ _ e refl (λ e. pick_some P c 46 _ _ e refl (λ e. pick_some P c 59 _ _ e refl (λ e. pick_some P c 44 _ _ e refl (λ e. pick_some P c 60 _ _ e refl (λ e. pick_some P c 62 _ _ e refl (λ e. pick_some P c 61 _ _ e refl (λ e. pick_some P c 33 _ _ e refl (λ e. pick_some P c 43 _ _ e refl (λ e. pick_some P c 45 _ _ e refl (λ e. pick_some P c 42 _ _ e refl (λ e. pick_some P c 37 _ _ e refl (λ e. pick_some P c 38 _ _ e refl (λ e. pick_some P c 124 _ _ e refl (λ e. pick_some P c 94 _ _ e refl (λ e. pick_some P c 126 _ _ e refl (λ e. pick_some P c 63 _ _ e refl (λ e. pick_some P c 58 _ _ e refl (λ e. pick_some P c 47 _ _ e refl (λ e. absurd (no_some e)))))))))))))))))))))))))

pub not_both : (b : Bool) → (b ≡ true → ⊥) → b ≡ false
not_both true h = absurd (h refl)
not_both false h = refl

no_option : {A : Type 0} (o : Option A) → ((x : A) → o ≡ Some x → ⊥) → is_some o ≡ false
no_option None h = refl
no_option (Some x) h = absurd (h x refl)

slash_starts : starts 47 ≡ false
unfolding unicode_ident
slash_starts = refl

pub sort-starts : (c : ℕ) → starts c ≡ true → sort c ≡ 3
sort-starts c e =
    let a : is_white c ≡ false = not_both (is_white c) (λ h. clash e (white_starts c h)) in
    let b : is_line_end c ≡ false = not_both (is_line_end c) (λ h. clash e (line_starts c h)) in
    let d : is_digit 10 c ≡ false = not_both (is_digit 10 c) (λ h. clash e (digit_starts c h)) in
    let q : is_quote c ≡ false = not_both (is_quote c) (λ h. clash e (quote_starts c h)) in
    let m : is_some (single c) ≡ false = no_option (single c) (λ x h. clash e (single_starts c h)) in
    let s : (c == 47) ≡ false = not_both (c == 47) (λ h. clash (subst (λ x. starts x ≡ true) ((Decides-eqb c 47).0 h) e) slash_starts) in
    rw (a, b, d, q, s, m, e) refl
