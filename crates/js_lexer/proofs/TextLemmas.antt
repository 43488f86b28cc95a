-- A text, one part at a time.
use Rattle.std.proofs.Common.{◌≡◌, ◌≤◌, ◌<◌, ◌+◌, ◌-◌, ◌*◌, ℕ, zero, suc, true, false, List, ◌++◌, length, get_or, nat_lt, nat_le, refl, sym, ◌∙◌, ap, subst, append_assoc, append-nil, arith}
use Rattle.std.proofs.lemmas.Bool.Decides.{nat_tests}
use Rattle.std.specs.Char.{digit_value}
use Rattle.std.specs.Char.Escape.{encode_utf16}
use Rattle.js_lexer.specs.Pieces.{Body, nothing, part, next_of, hex_from}
use Rattle.js_lexer.specs.declared.Next.{Next}
use Rattle.js_lexer.specs.declared.Next.TheVariants.{Open, Wrong, Part}

pub body_more : {text : List ℕ} {quote s i k n : ℕ} {us : List ℕ} → Body text quote s us i → next_of text quote i ≡ Part n k → Body text quote s (us ++ encode_utf16 n) k
body_more {text} {quote} {k = k} {n = n} (nothing none here) p =
    part (subst (λ x. next_of text quote x ≡ Part n k) here p) (nothing refl refl) (ap (λ x. x ++ encode_utf16 n) none ∙ sym (append-nil (encode_utf16 n)))
body_more {n = n} (part {n = m} {vs = vs} first rest units) p =
    part first (body_more rest p) (ap (λ x. x ++ encode_utf16 n) units ∙ append_assoc (encode_utf16 m) vs (encode_utf16 n))

part_same : {n m k j : ℕ} → Part n k ≡ Part m j → (n ≡ m) × (k ≡ j)
part_same e = (cc, cc)

-- what stands at the next place decides how a text goes on, so that it ends in one way alone
pub one_end : {text : List ℕ} {quote s t i k : ℕ} {us vs : List ℕ} {a b : Next} → s ≡ t → ((n m : ℕ) → a ≡ Part n m → ⊥) → ((n m : ℕ) → b ≡ Part n m → ⊥)
    → Body text quote s us i → next_of text quote i ≡ a → Body text quote t vs k → next_of text quote k ≡ b → (us ≡ vs) × (i ≡ k) × (a ≡ b)
one_end {text} {quote} same na nb (nothing e f) p (nothing g h) q =
    (e ∙ sym g, f ∙ same ∙ sym h, sym p ∙ ap (next_of text quote) (f ∙ same ∙ sym h) ∙ q)
one_end {text} {quote} same na nb (nothing e f) p (part first rest units) q = absurd (na _ _ (sym p ∙ ap (next_of text quote) (f ∙ same) ∙ first))
one_end {text} {quote} same na nb (part first rest units) p (nothing g h) q = absurd (nb _ _ (sym q ∙ ap (next_of text quote) (h ∙ sym same) ∙ first))
one_end {text} {quote} same na nb (part {n = n} {vs = vs} first rest units) p (part {n = m} {vs = ws} first' rest' units') q =
    let parts = part_same (sym first ∙ ap (next_of text quote) same ∙ first') in
    let ends = one_end parts.1 na nb rest p rest' q in
    (units ∙ ap (λ x. encode_utf16 x ++ vs) parts.0 ∙ ap (λ x. encode_utf16 m ++ x) ends.0 ∙ sym units', ends.1, ends.2)

pub hex_step : (text : List ℕ) (n i rest d : ℕ) → 0 < rest → i < length text → digit_value (get_or text i 0) < 16 → digit_value (get_or text i 0) ≡ d → hex_from text n i rest ≡ hex_from text (n * 16 + d) (i + 1) (rest - 1)
hex_step text n i zero d some within digit same = absurd (omega arith)
hex_step text n i (suc count) d some within digit same =
    let a : nat_le (length text) i ≡ false = grind (arith, nat_tests) in
    let b : nat_lt (digit_value (get_or text i 0)) 16 ≡ true = grind (arith, nat_tests) in
    let e : suc count - 1 ≡ count = omega arith in
    rw (a, b, same, e) refl

pub hex_open : (text : List ℕ) (n i rest : ℕ) → 0 < rest → length text ≤ i → hex_from text n i rest ≡ Open
hex_open text n i zero some past = absurd (omega arith)
hex_open text n i (suc count) some past =
    let a : nat_le (length text) i ≡ true = grind (arith, nat_tests) in
    rw a refl

pub hex_wrong : (text : List ℕ) (n i rest : ℕ) → 0 < rest → i < length text → (digit_value (get_or text i 0) < 16 → ⊥) → hex_from text n i rest ≡ Wrong
hex_wrong text n i zero some within digit = absurd (omega arith)
hex_wrong text n i (suc count) some within digit =
    let a : nat_le (length text) i ≡ false = grind (arith, nat_tests) in
    let b : nat_lt (digit_value (get_or text i 0)) 16 ≡ false = grind (arith, nat_tests) in
    rw (a, b) refl

pub hex_place : (text : List ℕ) {n m i j a b : ℕ} → n ≡ m → i ≡ j → a ≡ b → hex_from text n i a ≡ hex_from text m j b
hex_place text e f g = cc
