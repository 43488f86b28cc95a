use Rattle.std.proofs.Common.{◌≡◌, ◌++◌, List, ℕ, length, true}
use Rattle.std.specs.Prelude.{encode_utf8_all}
use Rattle.std.specs.List.{flat_map}
use Rattle.std.specs.Str.{all_scalars}
use Rattle.std.specs.Str.Iter.{chars_rest}
use Rattle.std.specs.Char.Escape.{encode_utf16}
use Rattle.turk_base.specs.Encodings.{Spells}
use Rattle.turk_base.proofs.encodings.units_of.Given as goal

-- whatever spells what is left completes the text
abbrev pub invariant-loop-c : goal.invariant-loop-c
invariant-loop-c l =
    (cs : List ℕ) → all_scalars cs ≡ true → encode_utf8_all cs ≡ chars_rest l.chars → Spells l.text (l.units ++ flat_map encode_utf16 cs)

abbrev pub decreases-loop-c : goal.decreases-loop-c
decreases-loop-c l = length (chars_rest l.chars)
