-- The units of a text in UTF-8, and the two texts of a line.
use Rattle.std.proofs.Common.{◌≡◌, ℕ, ◌+◌, ◌*◌, ◌<◌, ◌≤◌, Bool, true, false, List, [], ◌∷◌, length, drop, ◌-◌, ◌/◌, ◌%◌, nat_lt, cond, refl, sym, ap, ◌∙◌, subst, arith, length-append}
use Rattle.std.proofs.lemmas.Grind.{common_steps}
use Rattle.std.proofs.lemmas.Str.{encodes_same, length-encode}
use Rattle.std.specs.Prelude.{encode_utf8, encode_utf8_all}
use Rattle.std.specs.List.{flat_map}
use Rattle.std.specs.Str.{IsUtf8}
use Rattle.std.specs.Char.Escape.{encode_utf16}
use Rattle.turk_base.specs.Encodings.{Spells, HasTextCause}
use Rattle.turk_base.specs.declared.TextStop.{TextStop}
use Rattle.turk_base.specs.declared.TextStop.TheVariants as why
use Rattle.reply_text.specs.Leaves.{Leaf, text, whole}
use Rattle.reply_text.specs.Lines.{IsText}

-- bytes spell one list of units
one_text : (bytes a b : List ℕ) → Spells bytes a → Spells bytes b → a ≡ b
one_text bytes a b h k = sym h.utf16 ∙ ap (λ cs. flat_map encode_utf16 cs) (encodes_same h.chars k.chars (h.utf8 ∙ sym k.utf8)) ∙ k.utf16

-- a character has at most four bytes, and a unit at least
one_char : (c : ℕ) → length (encode_utf8 c) ≤ 4 * length (encode_utf16 c)
one_char c = rw (length-encode c) (by (nat_lt c 0x80) (nat_lt c 0x800) (nat_lt c 0x1_0000))
  where
    by : (p q r : Bool) → cond p 1 (cond q 2 (cond r 3 4)) ≤ 4 * length (cond r (c ∷ []) ((0xD800 + (c - 0x1_0000) / 0x400) ∷ (0xDC00 + (c - 0x1_0000) % 0x400) ∷ []))
    by true q true = omega arith
    by true q false = omega arith
    by false true true = omega arith
    by false true false = omega arith
    by false false true = omega arith
    by false false false = omega arith

all_chars : (cs : List ℕ) → length (encode_utf8_all cs) ≤ 4 * length (flat_map encode_utf16 cs)
all_chars [] = omega arith
all_chars (c ∷ cs) =
    let e : length (encode_utf8_all (c ∷ cs)) ≡ length (encode_utf8 c) + length (encode_utf8_all cs) = length-append (encode_utf8 c) (encode_utf8_all cs) in
    let f : length (flat_map encode_utf16 (c ∷ cs)) ≡ length (encode_utf16 c) + length (flat_map encode_utf16 cs) = length-append (encode_utf16 c) (flat_map encode_utf16 cs) in
    omega (arith, e, f, one_char c, all_chars cs)

pub too_many : (bytes : List ℕ) → 4194304 < length bytes → (units : List ℕ) → IsText bytes units → ⊥
too_many bytes h units t =
    let few : length bytes ≤ 4 * length units = subst (λ bs. length bs ≤ 4 * length units) t.0.utf8 (subst (λ us. length (encode_utf8_all t.0.chars) ≤ 4 * length us) t.0.utf16 (all_chars t.0.chars)) in
    omega (arith, h, few, t.1)

pub refused : (stop : TextStop) (bytes : List ℕ) → HasTextCause stop bytes → (stop ≡ why.Memory → ⊥) → (units : List ℕ) → IsText bytes units → ⊥
refused (why.NotUtf8 n) bytes h m units t = h.longest (length bytes) h.short (subst IsUtf8 (grind (arith, common_steps)) (t.0.chars, (t.0.scalars, t.0.utf8)))
refused why.TooLong bytes h m units t =
    let same : length h.0 ≡ length units = ap (λ (us : List ℕ). length us) (one_text bytes h.0 units h.1.0 t.0) in
    omega (arith, h.1.1, same, t.1)
refused why.Memory bytes h m units t = m refl

-- ---- the two texts of a line

first_of : List Leaf → List ℕ
first_of (text s ∷ ls) = s
first_of (whole n ∷ ls) = []
first_of [] = []

pub first_text : (a b c d : List ℕ) → text a ∷ text b ∷ [] ≡ text c ∷ text d ∷ [] → a ≡ c
unfolding first_of
first_text a b c d e = ap first_of e

pub second_text : (a b c d : List ℕ) → text a ∷ text b ∷ [] ≡ text c ∷ text d ∷ [] → b ≡ d
unfolding first_of
second_text a b c d e = ap (λ (ls : List Leaf). first_of (drop 1 ls)) e
