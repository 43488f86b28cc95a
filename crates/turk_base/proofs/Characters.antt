-- A text is read character by character: what spells the rest completes the text.
use Rattle.std.specs.Prelude.{ℕ, ◌≡◌, refl, true, List, [], ◌∷◌, ◌++◌, length, encode_utf8, encode_utf8_all}
use Rattle.std.specs.List.{flat_map}
use Rattle.std.specs.Str.{all_scalars}
use Rattle.std.specs.Char.{IsScalar}
use Rattle.std.specs.Char.Escape.{encode_utf16}
use Rattle.std.proofs.Common.{arith, ap, sym, ◌∙◌, subst, append_assoc, append-nil}
use Rattle.turk_base.specs.Encodings.{Spells}

-- whatever spells the rest completes the text after these units
abbrev pub Completes : List ℕ → List ℕ → List ℕ → Type 0
Completes text units rest = (cs : List ℕ) → all_scalars cs ≡ true → encode_utf8_all cs ≡ rest → Spells text (units ++ flat_map encode_utf16 cs)

pub begin : (text units rest : List ℕ) → units ≡ [] → rest ≡ text → Completes text units rest
begin text units rest u e cs s c = record { chars = cs; scalars = s; utf8 = c ∙ e; utf16 = rw u refl }

pub go_on : (text units longer rest left : List ℕ) (c : ℕ) → Completes text units rest → IsScalar c → rest ≡ encode_utf8 c ++ left
    → longer ≡ units ++ encode_utf16 c → Completes text longer left
go_on text units longer rest left c f s e u cs sc ec =
    let grown : units ++ flat_map encode_utf16 (c ∷ cs) ≡ longer ++ flat_map encode_utf16 cs = sym (rw u (append_assoc units (encode_utf16 c) (flat_map encode_utf16 cs))) in
    subst (λ x. Spells text x) grown (f (c ∷ cs) (rw (s, sc) refl) (ap (encode_utf8 c ++◌) ec ∙ sym e))

pub finish : (text units rest : List ℕ) → Completes text units rest → length rest ≡ 0 → Spells text units
finish text units [] f h = subst (λ x. Spells text x) (append-nil units) (f [] refl refl)
finish text units (x ∷ xs) f h = absurd (omega (arith, h))
