-- What quoted texts tell (own rule).
use Rattle.std.specs.Prelude.{ℕ, ◌<◌, ◌≤◌, ◌^◌, ◌≡◌, List, false}
use Rattle.std.specs.Char.Utf16.{has_unpaired_surrogate}
use Rattle.std.specs.List.{All}
use Rattle.run_texts.specs.Texts.{quoted}

-- no unit of a quoted text is below 32: it stands on one line
abbrev pub StandsOnOneLine : Type 0
StandsOnOneLine = (us : List ℕ) → All (λ u. 32 ≤ u) (quoted us)

-- texts that are quoted alike are the same
abbrev pub TellsItsUnits : Type 0
TellsItsUnits = (us vs : List ℕ) → quoted us ≡ quoted vs → us ≡ vs

-- each surrogate in the quoted text of 16-bit units has its partner: its UTF-8 loses nothing
abbrev pub HasNoLoneSurrogate : Type 0
HasNoLoneSurrogate = (us : List ℕ) → All (λ u. u < 2 ^ 16) us → has_unpaired_surrogate (quoted us) ≡ false
