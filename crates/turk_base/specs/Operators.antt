-- What operators give, of values alone (ECMA-262 3rd ed. 11.4 to 11.9), with exact whole numbers in place of doubles.
use Rattle.std.specs.Prelude.{ℕ, zero, ◌-◌, ◌*◌, ◌%◌, ◌/◌, ◌^◌, Bool, true, false, not, ◌&&◌, ◌||◌, ◌==◌, nat_lt, [], ◌∷◌, ℤ, pos, negsuc, ◌+ℤ◌, ◌-ℤ◌, ◌*ℤ◌, int_lt, int_le, int_div, int_rem, bit_and, bit_or, bit_xor, Option, Some, None, Result, Ok, Err, if◌then◌else◌}
use Rattle.turk_base.specs.Names.{Units, Name, name_eq, pick}
use Rattle.turk_base.specs.Values.{Val, Undefined, Null, Truth, Number, Text, Object, Refusal, NotWhole}
use Rattle.turk_base.specs.Conversions.{same_units, Reading, Is, Outside, reading, whole_or_none, number_in, integer_in, unsigned_32, signed_32, to_int32}

abbrev pub same_integer : ℤ → ℤ → Bool
same_integer (pos m) (pos n) = m == n
same_integer (negsuc m) (negsuc n) = m == n
same_integer _ _ = false

abbrev pub same_name : Name → Name → Bool
same_name a b = pick (name_eq a b) true false

abbrev pub same_truth : Bool → Bool → Bool
same_truth true b = b
same_truth false b = not b

abbrev pub and_then : {A B : Type 0} → Result A Refusal → (A → Result B Refusal) → Result B Refusal
and_then (Ok a) go = go a
and_then (Err why) go = Err why

-- a number as a value; where there is none it is refused
abbrev pub number_or_refused : Option ℤ → Result Val Refusal
number_or_refused (Some n) = Ok (Number n)
number_or_refused None = Err NotWhole

-- ---- arithmetic on numbers: the exact result, none where it is no number of the language (own rule)

-- 11.6.1, 11.6.2, 11.5.1
abbrev pub total : ℤ → ℤ → Option ℤ
total m n = whole_or_none (m +ℤ n)

abbrev pub difference : ℤ → ℤ → Option ℤ
difference m n = whole_or_none (m -ℤ n)

abbrev pub product : ℤ → ℤ → Option ℤ
product m n = whole_or_none (m *ℤ n)

-- 11.5.2: none by 0, and none where a remainder is left
abbrev pub quotient : ℤ → ℤ → Option ℤ
quotient m (pos zero) = None
quotient m n = if same_integer (int_rem m n) (pos 0) then whole_or_none (int_div m n) else None

-- 11.5.3: the sign is the dividend's; none by 0
abbrev pub remainder : ℤ → ℤ → Option ℤ
remainder m (pos zero) = None
remainder m n = whole_or_none (int_rem m n)

-- ---- bits of numbers

-- what a shift is by: the last five bits (11.7)
abbrev pub shift_count : ℤ → ℕ
shift_count n = unsigned_32 n % 32

-- 11.7.1
abbrev pub shift_left : ℤ → ℤ → ℤ
shift_left m n = signed_32 (unsigned_32 m * 2 ^ shift_count n % 2 ^ 32)

-- 11.7.2: the quotient by a power of 2, rounded down
abbrev pub halved : ℤ → ℕ → ℤ
halved (pos m) k = pos (m / 2 ^ k)
halved (negsuc m) k = negsuc (m / 2 ^ k)

abbrev pub shift_right : ℤ → ℤ → ℤ
shift_right m n = halved (to_int32 m) (shift_count n)

-- 11.7.3
abbrev pub shift_right_unsigned : ℤ → ℤ → ℤ
shift_right_unsigned m n = pos (unsigned_32 m / 2 ^ shift_count n)

-- 11.10
abbrev pub bits_and : ℤ → ℤ → ℤ
bits_and m n = signed_32 (bit_and (unsigned_32 m) (unsigned_32 n))

abbrev pub bits_or : ℤ → ℤ → ℤ
bits_or m n = signed_32 (bit_or (unsigned_32 m) (unsigned_32 n))

abbrev pub bits_xor : ℤ → ℤ → ℤ
bits_xor m n = signed_32 (bit_xor (unsigned_32 m) (unsigned_32 n))

-- 11.4.8: each of the 32 bits is turned
abbrev pub bits_not : ℤ → ℤ
bits_not m = signed_32 (2 ^ 32 - 1 - unsigned_32 m)

-- ---- operators on values: the numbers from left to right, then the operation

-- `- * / %`, by difference, product, quotient, remainder
abbrev pub numeric : (ℤ → ℤ → Option ℤ) → Val → Val → Result Val Refusal
numeric f x y = and_then (number_in x) (λ m. and_then (number_in y) (λ n. number_or_refused (f m n)))

-- the bit operators and shifts, by the definitions above
abbrev pub bitwise : (ℤ → ℤ → ℤ) → Val → Val → Result Val Refusal
bitwise f x y = and_then (integer_in x) (λ m. and_then (integer_in y) (λ n. Ok (Number (f m n))))

-- ---- order (11.8.5)

-- one text is before another, by units
abbrev pub units_less : Units → Units → Bool
units_less xs [] = false
units_less [] (y ∷ ys) = true
units_less (x ∷ xs) (y ∷ ys) = nat_lt x y || ((x == y) && units_less xs ys)

-- what is compared: units, numbers, or nothing where a reading is Nan
pub data Pair : Type 0 where
  Texts : (s t : Units) → Pair
  Numbers : (m n : ℤ) → Pair
  Unordered : Pair

abbrev pub numbers_of : Reading → Reading → Result Pair Refusal
numbers_of Outside y = Err NotWhole
numbers_of x Outside = Err NotWhole
numbers_of (Is m) (Is n) = Ok (Numbers m n)
numbers_of x y = Ok Unordered

abbrev pub pair_of : Val → Val → Result Pair Refusal
pair_of (Text s) (Text t) = Ok (Texts s t)
pair_of x y = and_then (reading x) (λ m. and_then (reading y) (λ n. numbers_of m n))

-- `<`, `>`, `<=`, `>=` of what is compared (11.8.1 to 11.8.4)
abbrev pub less : Pair → Bool
less (Texts s t) = units_less s t
less (Numbers m n) = int_lt m n
less Unordered = false

abbrev pub greater : Pair → Bool
greater (Texts s t) = units_less t s
greater (Numbers m n) = int_lt n m
greater Unordered = false

abbrev pub less_or_equal : Pair → Bool
less_or_equal (Texts s t) = not (units_less t s)
less_or_equal (Numbers m n) = int_le m n
less_or_equal Unordered = false

abbrev pub greater_or_equal : Pair → Bool
greater_or_equal (Texts s t) = not (units_less s t)
greater_or_equal (Numbers m n) = int_le n m
greater_or_equal Unordered = false

abbrev pub ordered : (Pair → Bool) → Val → Val → Result Val Refusal
ordered holds x y = and_then (pair_of x y) (λ p. Ok (Truth (holds p)))

-- ---- equality

-- `===` (11.9.6)
abbrev pub same : Val → Val → Bool
same Undefined Undefined = true
same Null Null = true
same (Truth a) (Truth b) = same_truth a b
same (Number m) (Number n) = same_integer m n
same (Text s) (Text t) = same_units s t
same (Object a) (Object b) = same_name a b
same _ _ = false

abbrev pub readings_equal : Reading → Reading → Result Bool Refusal
readings_equal Outside y = Err NotWhole
readings_equal x Outside = Err NotWhole
readings_equal (Is m) (Is n) = Ok (same_integer m n)
readings_equal x y = Ok false

-- two primitives that aren't undefined or null, by their readings
abbrev pub by_reading : Val → Val → Result Bool Refusal
by_reading x y = and_then (reading x) (λ m. and_then (reading y) (λ n. readings_equal m n))

abbrev pub nothing_equals : Val → Bool
nothing_equals Undefined = true
nothing_equals Null = true
nothing_equals v = false

-- `==` (11.9.3)
abbrev pub equal : Val → Val → Result Bool Refusal
equal Undefined y = Ok (nothing_equals y)
equal Null y = Ok (nothing_equals y)
equal x Undefined = Ok false
equal x Null = Ok false
equal (Text s) (Text t) = Ok (same_units s t)
equal (Object a) (Object b) = Ok (same_name a b)
equal x y = by_reading x y
