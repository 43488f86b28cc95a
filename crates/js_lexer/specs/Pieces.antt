-- The pieces that a text is cut into (ECMA-262 3rd ed. 7): each with the places where it begins and ends,
-- by the characters that stand at each place. Past the end of the text `slice_index` gives NUL, which belongs to no class.
use Rattle.std.specs.Prelude.{◌≡◌, ◌≤◌, ◌<◌, ◌+◌, ◌-◌, ◌*◌, ◌^◌, ℕ, zero, suc, Bool, true, false, not, ◌||◌, ◌&&◌, ◌==◌, nat_le, List, [], ◌++◌, length, slice_index, Some, ◌⊎◌, if◌then◌else◌, MatchBool}
use Rattle.std.specs.Char.{digit_value}
use Rattle.std.specs.Char.Escape.{encode_utf16}
use Rattle.js_lexer.specs.Chars.{is_line_end, is_digit, is_quote, starts, continues}
use Rattle.js_lexer.specs.Marks.{single, extend}
use Rattle.js_lexer.specs.declared.Mark.{Mark}
use Rattle.js_lexer.specs.declared.Escape.{Escape}
use Rattle.js_lexer.specs.declared.Escape.TheVariants as escape
use Rattle.js_lexer.specs.declared.Next.{Next}
use Rattle.js_lexer.specs.declared.Next.TheVariants as next
use Rattle.js_lexer.specs.declared.Quoted.{Quoted}
use Rattle.js_lexer.specs.declared.Quoted.TheVariants as quoted

-- ---- comments (7.4)

-- `//`, to before a line terminator or to the end
pub record IsLineComment (text : List ℕ) (i j : ℕ) : Type 0 where
  pub slash : slice_index text i ≡ 47
  pub slash_again : slice_index text (i + 1) ≡ 47
  pub after : i + 2 ≤ j
  pub within : j ≤ length text
  pub each : (k : ℕ) → i ≤ k → k < j → is_line_end (slice_index text k) ≡ false
  pub stop : j < length text → is_line_end (slice_index text j) ≡ true

-- a line terminator stands between the places, or none does
abbrev pub HasLineEnd : List ℕ → Bool → ℕ → ℕ → Type 0
HasLineEnd text line i j = MatchBool line
    ((k : ℕ) × (i ≤ k) × (k < j) × (is_line_end (slice_index text k) ≡ true))
    ((k : ℕ) → i ≤ k → k < j → is_line_end (slice_index text k) ≡ false)

-- `*/` ends at a place
abbrev pub Closes : List ℕ → ℕ → Type 0
Closes text k = (slice_index text k ≡ 42) × (slice_index text (k + 1) ≡ 47)

-- `/*`, to the next `*/` and past it; a line terminator stands in it or none does
pub record IsBlockComment (text : List ℕ) (line : Bool) (i j : ℕ) : Type 0 where
  pub slash : slice_index text i ≡ 47
  pub star : slice_index text (i + 1) ≡ 42
  pub after : i + 4 ≤ j
  pub within : j ≤ length text
  pub closes : Closes text (j - 2)
  pub first : (k : ℕ) → i + 2 ≤ k → k + 2 < j → Closes text k → ⊥
  pub lines : HasLineEnd text line (i + 2) (j - 2)

-- ---- words (7.6)

-- `$`, `_` or a letter, and what may go on
pub record IsWord (text : List ℕ) (i j : ℕ) : Type 0 where
  pub some : i < j
  pub within : j ≤ length text
  pub first : starts (slice_index text i) ≡ true
  pub rest : (k : ℕ) → i < k → k < j → continues (slice_index text k) ≡ true

-- ---- numbers (7.8.3)

-- the value of so many digits from a place on (7.8.3: the MV of digits and one more)
abbrev pub value : (base : ℕ) → List ℕ → ℕ → ℕ → ℕ
value base text i zero = 0
value base text i (suc n) = value base text i n * base + digit_value (slice_index text (i + n))

-- the places between are digits
abbrev pub AreDigits : (base : ℕ) → List ℕ → ℕ → ℕ → Type 0
AreDigits base text i j = (k : ℕ) → i ≤ k → k < j → is_digit base (slice_index text k) ≡ true

-- what may not follow a number: a digit, a point, the start of an identifier
abbrev pub follows_number : ℕ → Bool
follows_number c = not (is_digit 10 c || (c == 46 || starts c))

-- `x` or `X`
abbrev pub IsHexSign : ℕ → Type 0
IsHexSign c = (c ≡ 120) ⊎ (c ≡ 88)

-- `0`, or a digit 1 to 9 and digits, or `0x` and hexadecimal digits
pub data IsDigits (text : List ℕ) (n i j : ℕ) : Type 0 where
  zero_alone : slice_index text i ≡ 48 → j ≡ i + 1 → n ≡ 0 → IsDigits text n i j
  decimal : (slice_index text i ≡ 48 → ⊥) → i < j → AreDigits 10 text i j → n ≡ value 10 text i (j - i) → IsDigits text n i j
  hexadecimal : slice_index text i ≡ 48 → IsHexSign (slice_index text (i + 1)) → i + 2 < j → AreDigits 16 text (i + 2) j → n ≡ value 16 text (i + 2) (j - (i + 2)) → IsDigits text n i j

-- a number, at most 2^53 (own rule), after which nothing stands that may not follow it
pub record IsNumber (text : List ℕ) (n i j : ℕ) : Type 0 where
  pub digits : IsDigits text n i j
  pub within : j ≤ length text
  pub follows : follows_number (slice_index text j) ≡ true
  pub small : n ≤ 2 ^ 53

-- ---- texts (7.8.4)

-- what a backslash and this character begin
unfoldable pub escape_of : ℕ → Escape
escape_of c =
    if c == 98 then escape.Unit 8
    else (if c == 116 then escape.Unit 9
    else (if c == 110 then escape.Unit 10
    else (if c == 118 then escape.Unit 11
    else (if c == 102 then escape.Unit 12
    else (if c == 114 then escape.Unit 13
    else (if c == 48 then escape.Null
    else (if c == 120 then escape.Digits 2
    else (if c == 117 then escape.Digits 4
    else (if is_digit 10 c || is_line_end c then escape.Wrong
    else escape.Itself)))))))))

-- an escape has two or four digits
abbrev pub FewDigits : Escape → Type 0
FewDigits (escape.Unit n) = n < 0x110000
FewDigits (escape.Digits count) = (0 < count) × (count ≤ 4)
FewDigits _ = Unit {0}

-- so many hexadecimal digits, which go on from a value
abbrev pub hex_from : List ℕ → ℕ → ℕ → ℕ → Next
hex_from text n i zero = next.Part n i
hex_from text n i (suc count) =
    if nat_le (length text) i then next.Open
    else (if is_digit 16 (slice_index text i) then hex_from text (n * 16 + digit_value (slice_index text i)) (i + 1) count
    else next.Wrong)

-- what stands from the character after a backslash on
abbrev pub escaped_by : Escape → List ℕ → ℕ → Next
escaped_by (escape.Unit n) text i = next.Part n (i + 1)
escaped_by escape.Null text i = if is_digit 10 (slice_index text (i + 1)) then next.Wrong else next.Part 0 (i + 1)
escaped_by (escape.Digits count) text i = hex_from text 0 (i + 1) count
escaped_by escape.Itself text i = next.Part (slice_index text i) (i + 1)
escaped_by escape.Wrong text i = next.Wrong

unfoldable pub escaped : List ℕ → ℕ → Next
escaped text i = if nat_le (length text) i then next.Open else escaped_by (escape_of (slice_index text i)) text i

-- What stands at a place of a text: the closing quote, a character or an escape with the place after it,
-- a line terminator or a wrong escape, or it reaches the end.
unfoldable pub next_of : List ℕ → (quote : ℕ) → ℕ → Next
next_of text quote i =
    if nat_le (length text) i then next.Open
    else (if slice_index text i == quote then next.Close
    else (if slice_index text i == 92 then escaped text (i + 1)
    else (if is_line_end (slice_index text i) then next.Wrong
    else next.Part (slice_index text i) (i + 1))))

-- the characters and escapes between two places of a text, and their units (7.8.4, and 8.4 on characters past U+FFFF)
pub data Body (text : List ℕ) (quote : ℕ) : ℕ → List ℕ → ℕ → Type 0 where
  nothing : {i j : ℕ} {us : List ℕ} → us ≡ [] → j ≡ i → Body text quote i us j
  part : {i j k n : ℕ} {us vs : List ℕ} → next_of text quote i ≡ next.Part n k → Body text quote k vs j → us ≡ encode_utf16 n ++ vs → Body text quote i us j

-- a text after its opening quote goes on to a place where this stands, which ends it
pub record Ends (text : List ℕ) (quote : ℕ) (last : Next) (i : ℕ) (us : List ℕ) (k : ℕ) : Type 0 where
  pub body : Body text quote i us k
  pub there : next_of text quote k ≡ last

-- the next place is past this one and within the text, and the unit or character is in range
abbrev pub GoesOn : List ℕ → ℕ → Next → Type 0
GoesOn text i (next.Part n k) = (n < 0x110000) × (i < k) × (k ≤ length text)
GoesOn text i next.Close = i < length text
GoesOn text i _ = Unit {0}

-- How a text that begins after its opening quote ends: with its units and the place past the closing quote,
-- at the end of all characters, or at a fault.
abbrev pub EndsSo : List ℕ → (quote : ℕ) → ℕ → Quoted → Type 0
EndsSo text quote i (quoted.Closed us j) = (k : ℕ) × Ends text quote next.Close i us k × (j ≡ k + 1) × (i < j) × (j ≤ length text)
EndsSo text quote i quoted.Open = (us : List ℕ) × (k : ℕ) × Ends text quote next.Open i us k
EndsSo text quote i quoted.Wrong = (us : List ℕ) × (k : ℕ) × Ends text quote next.Wrong i us k

-- a text of at most 1,048,576 units (own rule)
pub record IsText (text us : List ℕ) (i j : ℕ) : Type 0 where
  pub quote : is_quote (slice_index text i) ≡ true
  pub place : ℕ
  pub ends : Ends text (slice_index text i) next.Close (i + 1) us place
  pub past : j ≡ place + 1
  pub small : length us ≤ 1048576

-- ---- punctuators (7.7)

-- the characters between two places are this punctuator
pub data Spells (text : List ℕ) (i : ℕ) : Mark → ℕ → Type 0 where
  one : {m : Mark} {j : ℕ} → single (slice_index text i) ≡ Some m → j ≡ i + 1 → Spells text i m j
  more : {m n : Mark} {j k : ℕ} → Spells text i m j → extend m (slice_index text j) ≡ Some n → k ≡ j + 1 → Spells text i n k

-- a `.` before a digit and the `/` of a `/*` are no punctuators
abbrev pub no_mark : ℕ → ℕ → Bool
no_mark c d = (c == 46 && is_digit 10 d) || (c == 47 && d == 42)

pub record IsMark (text : List ℕ) (m : Mark) (i j : ℕ) : Type 0 where
  pub spells : Spells text i m j
  pub mark : no_mark (slice_index text i) (slice_index text (i + 1)) ≡ false
