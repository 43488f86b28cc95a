-- The sixteen built-in calls, over the accesses of a heap alone.
use Rattle.std.specs.Prelude.{ℕ, zero, suc, ◌+◌, ◌-◌, ◌/◌, ◌%◌, ◌^◌, min, max, Bool, true, false, ◌&&◌, ◌==◌, List, [], ◌∷◌, ◌++◌, length, take, drop, slice_get, map, ℤ, pos, negsuc, Option, Some, None, Result, Ok, if◌then◌else◌, codes}
use Rattle.turk_base.specs.Names.{Units, Name}
use Rattle.turk_base.specs.Values.{Val, Undefined, Null, Number, Text, Object, Kind, Plain, Array, BuiltIn, Refusal, NotWhole}
use Rattle.turk_base.specs.Conversions.{integer_in, unsigned_32}
use Rattle.turk_base.specs.Prog.{KindOf, Make, Get, Put, Remove, Prog, Ask, ◌>>=◌, ask, value, refuse, given, made}
use Rattle.turk_base.specs.Errors.{built_in, is_key, or_undefined, index_text, error_cell, text_from, not_a_function}

abbrev pub argument : ℕ → List Val → Val
argument i args = or_undefined (slice_get args i)

-- ---- which built-in a key of a base means, where the key isn't found

abbrev pub array_method : Units → Option ℕ
array_method key = if is_key "push" key then Some 0 else (if is_key "pop" key then Some 1 else (if is_key "join" key then Some 2
    else (if is_key "concat" key then Some 3 else (if is_key "slice" key then Some 4 else (if is_key "reverse" key then Some 5 else None)))))

abbrev pub text_method : Units → Option ℕ
text_method key = if is_key "charAt" key then Some 6 else (if is_key "charCodeAt" key then Some 7 else (if is_key "indexOf" key then Some 8
    else (if is_key "substring" key then Some 9 else (if is_key "split" key then Some 10 else None))))

abbrev pub string_method : Units → Option ℕ
string_method key = if is_key "fromCharCode" key then Some 11 else None

abbrev pub cell_method : Kind → Units → Option ℕ
cell_method Array key = array_method key
cell_method (BuiltIn which) key = if which == 12 then string_method key else None
cell_method kind key = None

-- ---- arrays

abbrev pub natural_of : ℤ → ℕ
natural_of (pos n) = n
natural_of (negsuc n) = 0

abbrev pub natural_in : Option Val → ℕ
natural_in (Some (Number n)) = natural_of n
natural_in v = 0

abbrev pub length_of : Name → (ℕ → Prog) → Prog
length_of a go = do
  n ← ask (Get a (codes "length"))
  go (natural_in n)

abbrev pub set_length : Name → ℕ → (Unit {0} → Prog) → Prog
set_length a n go = do
  _ ← ask (Put a (codes "length") (Number (pos n)))
  go tt

-- for i, i + 1 and so on, count times
abbrev pub count_up : ℕ → ℕ → (ℕ → (Unit {0} → Prog) → Prog) → (Unit {0} → Prog) → Prog
count_up zero i turn go = go tt
count_up (suc count) i turn go = turn i (λ _. count_up count (suc i) turn go)

-- a present value is put; a hole stays one
abbrev pub put_found : Name → ℕ → Option Val → (Unit {0} → Prog) → Prog
put_found a i (Some v) go = Ask (Put a (index_text i) v) go
put_found a i None go = go tt

-- 15.4.4.7: `length` is read for each value, and once more for the answer
abbrev pub push : Name → List Val → Prog
push a [] = do
  n ← length_of a
  value (Number (pos n))
push a (v ∷ vs) = do
  n ← length_of a
  _ ← ask (Put a (index_text n) v)
  push a vs

-- 15.4.4.6; of an empty array nothing is written
abbrev pub pop_at : Name → ℕ → Prog
pop_at a zero = value Undefined
pop_at a (suc n) = do
  last ← ask (Get a (index_text n))
  _ ← ask (Remove a (index_text n))
  _ ← set_length a n
  value (or_undefined last)

abbrev pub pop : Name → Prog
pop a = do
  n ← length_of a
  pop_at a n

-- 15.4.4.5
abbrev pub separator_in : Val → (Units → Prog) → Prog
separator_in Undefined go = go (codes ",")
separator_in v go = text_from v go

abbrev pub item_text : Option Val → (Units → Prog) → Prog
item_text None go = go []
item_text (Some Undefined) go = go []
item_text (Some Null) go = go []
item_text (Some v) go = text_from v go

abbrev pub joined : Name → Units → ℕ → ℕ → Units → (Units → Prog) → Prog
joined a separator zero i so_far go = go so_far
joined a separator (suc count) i so_far go = do
  v ← ask (Get a (index_text i))
  t ← item_text v
  joined a separator count (suc i) (so_far ++ (if i == 0 then t else separator ++ t)) go

abbrev pub join : Name → Val → Prog
join a s = do
  n ← length_of a
  separator ← separator_in s
  t ← joined a separator n 0 []
  u ← made t
  value (Text u)

-- 15.4.4.4: arrays are spread and keep their holes
abbrev pub spread : Name → Name → ℕ → ℕ → (Unit {0} → Prog) → Prog
spread out from n at go = count_up n 0 (λ i next. Ask (Get from (index_text i)) (λ v. put_found out (at + i) v next)) go

abbrev pub add_piece : Name → Val → ℕ → Kind → (ℕ → Prog) → Prog
add_piece out (Object c) at Array go = do
  n ← length_of c
  _ ← spread out c n at
  go (at + n)
add_piece out v at kind go = do
  _ ← ask (Put out (index_text at) v)
  go (suc at)

abbrev pub kind_in : Val → (Kind → Prog) → Prog
kind_in (Object c) go = Ask (KindOf c) go
kind_in v go = go (Plain None)

abbrev pub pieces : Name → List Val → ℕ → (ℕ → Prog) → Prog
pieces out [] at go = go at
pieces out (v ∷ vs) at go = do
  kind ← kind_in v
  next ← add_piece out v at kind
  pieces out vs next go

abbrev pub concat : Name → List Val → Prog
concat a args = do
  out ← ask (Make Array)
  n ← pieces out (Object a ∷ args) 0
  _ ← set_length out n
  value (Object out)

-- a position counted from the end where it is negative (15.4.4.10)
abbrev pub from_end : ℤ → ℕ → ℕ
from_end (pos b) n = min b n
from_end (negsuc b) n = n - suc b

abbrev pub end_in : Val → ℕ → Result ℤ Refusal
end_in Undefined n = Ok (pos n)
end_in v n = integer_in v

abbrev pub slice : Name → Val → Val → Prog
slice a b e = do
  out ← ask (Make Array)
  n ← length_of a
  start ← given (integer_in b)
  stop ← given (end_in e n)
  let low = from_end start n
  let high = from_end stop n
  _ ← count_up (high - low) 0 (λ i next. Ask (Get a (index_text (low + i))) (λ v. put_found out i v next))
  _ ← set_length out (high - low)
  value (Object out)

-- 15.4.4.8: the lower one is written or deleted first; two holes stay
abbrev pub move_to : Name → ℕ → Option Val → (Unit {0} → Prog) → Prog
move_to a i (Some v) go = Ask (Put a (index_text i) v) go
move_to a i None go = Ask (Remove a (index_text i)) (λ _. go tt)

abbrev pub swap : Name → ℕ → ℕ → Option Val → Option Val → (Unit {0} → Prog) → Prog
swap a i j None None go = go tt
swap a i j lower upper go = do
  _ ← move_to a i upper
  _ ← move_to a j lower
  go tt

abbrev pub reverse_row : Name → Prog
reverse_row a = do
  n ← length_of a
  _ ← count_up (n / 2) 0 (λ i next. Ask (Get a (index_text i)) (λ lower. Ask (Get a (index_text (n - 1 - i))) (λ upper. swap a i (n - 1 - i) lower upper next)))
  value (Object a)

-- ---- texts

-- within the text (15.5.4.4)
abbrev pub unit_at : ℤ → Units → Option ℕ
unit_at (pos p) t = slice_get t p
unit_at (negsuc p) t = None

abbrev pub clamped : ℤ → ℕ → ℕ
clamped (pos p) n = min p n
clamped (negsuc p) n = 0

abbrev pub unit_text : Option ℕ → Units
unit_text (Some u) = u ∷ []
unit_text None = []

abbrev pub char_at : Units → Val → Prog
char_at t p = do
  at ← given (integer_in p)
  u ← made (unit_text (unit_at at t))
  value (Text u)

-- 15.5.4.5; refused out of range, where ES3 gives NaN
abbrev pub unit_value : Option ℕ → Prog
unit_value (Some u) = value (Number (pos u))
unit_value None = refuse NotWhole

abbrev pub char_code_at : Units → Val → Prog
char_code_at t p = do
  at ← given (integer_in p)
  unit_value (unit_at at t)

abbrev pub begins : Units → Units → Bool
begins [] t = true
begins (x ∷ xs) [] = false
begins (x ∷ xs) (y ∷ ys) = (x == y) && begins xs ys

-- the first place of u in t, which stands at this place
abbrev pub place_from : Units → Units → ℕ → Option ℕ
place_from u [] at = if begins u [] then Some at else None
place_from u (x ∷ xs) at = if begins u (x ∷ xs) then Some at else place_from u xs (suc at)

abbrev pub place_value : Option ℕ → Val
place_value (Some p) = Number (pos p)
place_value None = Number (negsuc 0)

-- 15.5.4.7
abbrev pub index_of : Units → Val → Val → Prog
index_of t s p = do
  u ← text_from s
  at ← given (integer_in p)
  let from = clamped at (length t)
  value (place_value (place_from u (drop from t) from))

-- 15.5.4.15
abbrev pub substring : Units → Val → Val → Prog
substring t b e = do
  start ← given (integer_in b)
  stop ← given (end_in e (length t))
  let p = clamped start (length t)
  let q = clamped stop (length t)
  u ← made (take (max p q - min p q) (drop (min p q) t))
  value (Text u)

-- 15.5.4.14: the pieces between the places of u, which isn't empty; skip units belong to it
abbrev pub cut_at : Units → ℕ → Units → Units → List Units
cut_at u skip piece [] = piece ∷ []
cut_at u (suc skip) piece (x ∷ xs) = cut_at u skip piece xs
cut_at u zero piece (x ∷ xs) = if begins u (x ∷ xs) then piece ∷ cut_at u (length u - 1) [] xs else cut_at u zero (piece ++ x ∷ []) xs

abbrev pub split_pieces : Units → Units → List Units
split_pieces [] t = map (λ x. x ∷ []) t
split_pieces u t = cut_at u 0 [] t

abbrev pub pieces_in : Val → Units → (List Units → Prog) → Prog
pieces_in Undefined t go = go (t ∷ [])
pieces_in v t go = do
  u ← text_from v
  go (split_pieces u t)

abbrev pub put_pieces : Name → ℕ → List Units → Prog
put_pieces a i [] = value (Object a)
put_pieces a i (t ∷ ts) = do
  u ← made t
  _ ← ask (Put a (index_text i) (Text u))
  put_pieces a (suc i) ts

abbrev pub split : Units → Val → Prog
split t s = do
  a ← ask (Make Array)
  ts ← pieces_in s t
  put_pieces a 0 ts

-- 15.5.3.2
abbrev pub codes_in : List Val → (Units → Prog) → Prog
codes_in [] go = go []
codes_in (v ∷ vs) go = do
  n ← given (integer_in v)
  us ← codes_in vs
  go (unsigned_32 n % 2 ^ 16 ∷ us)

abbrev pub from_char_code : List Val → Prog
from_char_code args = do
  us ← codes_in args
  t ← made us
  value (Text t)

-- 15.5.1.1
abbrev pub string_of : List Val → Prog
string_of [] = value (Text [])
string_of (v ∷ vs) = do
  t ← text_from v
  value (Text t)

-- 15.11.1.1
abbrev pub error_of : Name → Val → Prog
error_of prototype Undefined = do
  c ← ask (Make (Plain (Some prototype)))
  value (Object c)
error_of prototype m = do
  t ← text_from m
  c ← error_cell prototype t
  value (Object c)

-- ---- by number

abbrev pub on_array : (Name → List Val → Prog) → Val → List Val → Prog
on_array row (Object a) args = row a args
on_array row v args = not_a_function

abbrev pub on_text : (Units → List Val → Prog) → Val → List Val → Prog
on_text row (Text t) args = row t args
on_text row v args = not_a_function

abbrev pub built_ins : List (Val → List Val → Prog)
built_ins =
    on_array (λ a args. push a args)
    ∷ on_array (λ a args. pop a)
    ∷ on_array (λ a args. join a (argument 0 args))
    ∷ on_array (λ a args. concat a args)
    ∷ on_array (λ a args. slice a (argument 0 args) (argument 1 args))
    ∷ on_array (λ a args. reverse_row a)
    ∷ on_text (λ t args. char_at t (argument 0 args))
    ∷ on_text (λ t args. char_code_at t (argument 0 args))
    ∷ on_text (λ t args. index_of t (argument 0 args) (argument 1 args))
    ∷ on_text (λ t args. substring t (argument 0 args) (argument 1 args))
    ∷ on_text (λ t args. split t (argument 0 args))
    ∷ (λ this args. from_char_code args)
    ∷ (λ this args. string_of args)
    ∷ (λ this args. error_of (built_in 1) (argument 0 args))
    ∷ (λ this args. error_of (built_in 3) (argument 0 args))
    ∷ (λ this args. error_of (built_in 5) (argument 0 args))
    ∷ []

abbrev pub row_of : Option (Val → List Val → Prog) → Val → List Val → Prog
row_of (Some row) this args = row this args
row_of None this args = not_a_function

unfoldable pub call_built_in : ℕ → Val → List Val → Prog
call_built_in which this args = row_of (slice_get built_ins which) this args
