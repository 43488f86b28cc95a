-- What bytes of UTF-8 (RFC 3629) and units of UTF-16 (RFC 2781) spell, on whole lists.
use Rattle.std.specs.Prelude.{ℕ, ◌^◌, ◌<◌, ◌≡◌, List, length, true, encode_utf8_all, ⊤}
use Rattle.std.specs.List.{flat_map}
use Rattle.std.specs.Str.{all_scalars, IsValidUpTo}
use Rattle.std.specs.Char.Escape.{encode_utf16}
use Rattle.std.specs.Char.Utf16.{utf16_lossy_chars}
use Rattle.turk_base.specs.declared.TextStop.{TextStop}
use Rattle.turk_base.specs.declared.TextStop.TheVariants as stop

-- the bytes and the units spell the same characters
pub record Spells (bytes units : List ℕ) : Type 0 where
  pub chars : List ℕ
  pub scalars : all_scalars chars ≡ true
  pub utf8 : encode_utf8_all chars ≡ bytes
  pub utf16 : flat_map encode_utf16 chars ≡ units

-- the bytes of the characters that units spell, with EF BF BD for each surrogate that has no partner
abbrev pub bytes_of : List ℕ → List ℕ
bytes_of units = encode_utf8_all (utf16_lossy_chars units)

-- when each refusal comes: the first n bytes are the longest beginning that is UTF-8; the text is longer than the limit
abbrev pub HasTextCause : TextStop → List ℕ → Type 0
HasTextCause (stop.NotUtf8 n) bytes = IsValidUpTo bytes n
HasTextCause stop.TooLong bytes = (units : List ℕ) × (Spells bytes units × (2 ^ 20 < length units))
HasTextCause stop.Memory bytes = ⊤
