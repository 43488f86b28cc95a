-- Conversions of values (ECMA-262 3rd ed. 9), with whole numbers from -2^53 to 2^53 in place of doubles.
use Rattle.std.specs.Prelude.{ℕ, zero, ◌+◌, ◌-◌, ◌*◌, ◌%◌, ◌^◌, Bool, true, false, not, ◌&&◌, ◌||◌, ◌==◌, nat_lt, nat_le, [], ◌∷◌, length, reverse, ℤ, pos, negsuc, neg_ℤ, Option, Some, None, Result, Ok, Err, if◌then◌else◌, codes}
use Rattle.std.specs.Fmt.{signed_decimal}
use Rattle.turk_base.specs.Names.{Units}
use Rattle.turk_base.specs.Values.{Val, Undefined, Null, Truth, Number, Text, Object, Refusal, NotWhole, NoPrimitive}
pub use Rattle.turk_base.specs.Whole.{in_range, whole_or_none}

-- ---- words on lists of units

-- two texts are the same
abbrev pub same_units : Units → Units → Bool
same_units [] [] = true
same_units (x ∷ xs) (y ∷ ys) = (x == y) && same_units xs ys
same_units _ _ = false

-- all units have the test
abbrev pub every : (ℕ → Bool) → Units → Bool
every test [] = true
every test (u ∷ us) = test u && every test us

-- there is at least one unit, and all have the test
abbrev pub all_of : (ℕ → Bool) → Units → Bool
all_of test [] = false
all_of test (u ∷ us) = test u && every test us

-- what stands before the first unit with the test, the whole text where there is none
abbrev pub before : (ℕ → Bool) → Units → Units
before test [] = []
before test (u ∷ us) = if test u then [] else u ∷ before test us

-- what stands after the first unit with the test, none where there is none
abbrev pub after : (ℕ → Bool) → Units → Option Units
after test [] = None
after test (u ∷ us) = if test u then Some us else after test us

abbrev pub within : ℕ → ℕ → ℕ → Bool
within low high u = nat_le low u && nat_le u high

-- ---- truth (ECMA-262 9.2)

abbrev pub truth : Val → Bool
truth Undefined = false
truth Null = false
truth (Truth b) = b
truth (Number (pos zero)) = false
truth (Number n) = true
truth (Text []) = false
truth (Text (u ∷ us)) = true
truth (Object c) = true

-- ---- text (ECMA-262 9.8; an object is refused, own rule)

abbrev pub text_in : Val → Result Units Refusal
text_in Undefined = Ok (codes "undefined")
text_in Null = Ok (codes "null")
text_in (Truth true) = Ok (codes "true")
text_in (Truth false) = Ok (codes "false")
text_in (Number n) = Ok (signed_decimal n)
text_in (Text t) = Ok t
text_in (Object c) = Err NoPrimitive

-- ---- reading: what a value is as a number (ECMA-262 9.3)

-- a whole number in range; not a number; or a number that is not whole in range (own rule)
pub data Reading : Type 0 where
  Is : (n : ℤ) → Reading
  Nan : Reading
  Outside : Reading

abbrev pub read_whole : ℤ → Reading
read_whole n = if in_range n then Is n else Outside

-- white space and line terminators (ECMA-262 7.2, 7.3)
abbrev pub blank : ℕ → Bool
blank u = within 9 13 u || (u == 32) || (u == 160) || (u == 5760) || within 8192 8202 u || within 8232 8233 u || (u == 8239) || (u == 8287) || (u == 12288)

abbrev pub trim_front : Units → Units
trim_front [] = []
trim_front (u ∷ us) = if blank u then trim_front us else u ∷ us

-- the text without white space and line terminators at its ends
abbrev pub trim : Units → Units
trim t = reverse (trim_front (reverse (trim_front t)))

abbrev pub digit : ℕ → Bool
digit u = within 48 57 u

abbrev pub hex_digit : ℕ → Bool
hex_digit u = digit u || within 65 70 u || within 97 102 u

-- the value of a digit
abbrev pub digit_value : ℕ → ℕ
digit_value u = if nat_lt u 65 then u - 48 else (if nat_lt u 97 then u - 55 else u - 87)

-- the number that the digits go on to from n
abbrev pub value_onto : ℕ → ℕ → Units → ℕ
value_onto base n [] = n
value_onto base n (u ∷ us) = value_onto base (n * base + digit_value u) us

-- the text after its sign
abbrev pub unsigned : Units → Units
unsigned [] = []
unsigned (u ∷ us) = if (u == 43) || (u == 45) then us else u ∷ us

abbrev pub negative : Units → Bool
negative [] = false
negative (u ∷ us) = u == 45

abbrev pub signed : Bool → ℕ → ℤ
signed true n = neg_ℤ (pos n)
signed false n = pos n

abbrev pub exponent_mark : ℕ → Bool
exponent_mark u = (u == 69) || (u == 101)

-- what may stand after an exponent's mark
abbrev pub exponent_fits : Option Units → Bool
exponent_fits None = true
exponent_fits (Some t) = all_of digit (unsigned t)

-- digits with a point: at least one on one of the sides; digits without one
abbrev pub point_fits : Units → Option Units → Bool
point_fits whole None = all_of digit whole
point_fits whole (Some part) = every digit whole && every digit part && not (nat_le (length whole + length part) 0)

-- StrUnsignedDecimalLiteral of ECMA-262 9.3.1: `Infinity`, or digits with a point or an exponent
abbrev pub decimal_literal : Units → Bool
decimal_literal t = same_units t (codes "Infinity")
    || (point_fits (before (◌== 46) (before exponent_mark t)) (after (◌== 46) (before exponent_mark t)) && exponent_fits (after exponent_mark t))

-- what stands after `0x` or `0X` (ECMA-262 9.3.1, HexIntegerLiteral: it takes no sign)
abbrev pub hex_body : Units → Option Units
hex_body (u ∷ x ∷ t) = if (u == 48) && ((x == 120) || (x == 88)) then Some t else None
hex_body t = None

abbrev pub read_decimal : Units → Reading
read_decimal t = if all_of digit (unsigned t) then read_whole (signed (negative t) (value_onto 10 0 (unsigned t)))
    else (if decimal_literal (unsigned t) then Outside else Nan)

abbrev pub read_hex : Option Units → Units → Reading
read_hex (Some h) t = if all_of hex_digit h then read_whole (pos (value_onto 16 0 h)) else Nan
read_hex None t = read_decimal t

-- the empty text is 0
abbrev pub read_trimmed : Units → Reading
read_trimmed [] = Is (pos 0)
read_trimmed t = read_hex (hex_body t) t

-- what a text reads as (ECMA-262 9.3.1)
unfoldable pub read_text : Units → Reading
read_text t = read_trimmed (trim t)

abbrev pub reading : Val → Result Reading Refusal
reading Undefined = Ok Nan
reading Null = Ok (Is (pos 0))
reading (Truth true) = Ok (Is (pos 1))
reading (Truth false) = Ok (Is (pos 0))
reading (Number n) = Ok (Is n)
reading (Text t) = Ok (read_text t)
reading (Object c) = Err NoPrimitive

-- the number: other readings are refused (own rule)
abbrev pub whole_of : Result Reading Refusal → Result ℤ Refusal
whole_of (Ok (Is n)) = Ok n
whole_of (Ok r) = Err NotWhole
whole_of (Err why) = Err why

abbrev pub number_in : Val → Result ℤ Refusal
number_in v = whole_of (reading v)

-- the number of a text, none where it is refused
abbrev pub whole_in : Reading → Option ℤ
whole_in (Is n) = Some n
whole_in Nan = None
whole_in Outside = None

abbrev pub whole_of_text : Units → Option ℤ
whole_of_text t = whole_in (read_text t)

-- a position, and what bit operators take: the number, where Nan counts as 0 (ECMA-262 9.4 to 9.6)
abbrev pub or_zero : Result Reading Refusal → Result ℤ Refusal
or_zero (Ok (Is n)) = Ok n
or_zero (Ok Nan) = Ok (pos 0)
or_zero (Ok Outside) = Err NotWhole
or_zero (Err why) = Err why

abbrev pub integer_in : Val → Result ℤ Refusal
integer_in v = or_zero (reading v)

-- ---- 32 bits

-- ToUint32 (ECMA-262 9.6): the number modulo 2^32
abbrev pub unsigned_32 : ℤ → ℕ
unsigned_32 (pos n) = n % 2 ^ 32
unsigned_32 (negsuc n) = 2 ^ 32 - 1 - n % 2 ^ 32

-- a number modulo 2^32 as a signed one (ECMA-262 9.5, the last step)
abbrev pub signed_32 : ℕ → ℤ
signed_32 n = if nat_lt n (2 ^ 31) then pos n else neg_ℤ (pos (2 ^ 32 - n))

-- ToInt32 (ECMA-262 9.5)
abbrev pub to_int32 : ℤ → ℤ
to_int32 z = signed_32 (unsigned_32 z)
