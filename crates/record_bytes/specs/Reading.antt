-- Reading from left to right: each reader gives a value and the bytes after it, or nothing where the front of the bytes
-- is no spelling. Beside Spelling it is the second description; that the two agree is proved.
use Rattle.std.specs.Prelude.{◌≡◌, ◌-◌, ◌^◌, ℕ, zero, suc, List, [], ◌∷◌, length, take, drop, map, Option, Some, None, Result, Ok, Err, Bool, true, false, ◌&&◌, not, nat_lt, nat_le, nat_eq, ℤ, pos, negsuc, if◌then◌else◌}
use Rattle.std.specs.Int.{Width, w16, w32, w64, byte_len, from_be_bytes}
use Rattle.std.specs.List.{list_any}
use Rattle.std.specs.Cmp.Lexicographic.{pointwise}
use Rattle.turk_base.specs.Data.{Data, DUndefined, DNull, DTruth, DNumber, DText, DList, DFields, items_of, fields_of}
use Rattle.turk_base.specs.declared.Entry.{Entry}
use Rattle.turk_base.specs.declared.Record.{Record}
use Rattle.turk_base.specs.declared.Record.TheVariants.{Post, Reply, Draw, Once}
use Rattle.record_bytes.specs.declared.stop.ReadStop.{ReadStop}
use Rattle.record_bytes.specs.declared.stop.ReadStop.TheVariants.{Bad, Memory}

infixl 10 ◌>>=◌
abbrev pub ◌>>=◌ : {A B : Type 0} → Option A → (A → Option B) → Option B
None >>= f = None
(Some x) >>= f = f x

-- what a stop says of reading
abbrev pub Fails : {Y : Type 0} → ReadStop → Option Y → Type 0
Fails Bad read = read ≡ None
Fails Memory read = Unit {0}

-- what a function returned, seen by view, is what reading gives, unless memory ran out
abbrev pub Gives : {X Y : Type 0} → (X → Y) → Result X ReadStop → Option Y → Type 0
Gives view (Ok x) read = read ≡ Some (view x)
Gives view (Err e) read = Fails e read

-- a value and the bytes after it
abbrev pub Reader : Type 0 → Type 0
Reader A = List ℕ → Option (A × List ℕ)

abbrev pub byte_at : Reader ℕ
byte_at [] = None
byte_at (b ∷ rest) = Some (b, rest)

abbrev pub number_at : Width → Reader ℕ
number_at w bytes = if nat_lt (length bytes) (byte_len w) then None else Some (from_be_bytes w (take (byte_len w) bytes), drop (byte_len w) bytes)

unfoldable pub numbers_at : Width → ℕ → Reader (List ℕ)
numbers_at w zero bytes = Some ([], bytes)
numbers_at w (suc n) bytes = do
  x ← number_at w bytes
  xs ← numbers_at w n x.1
  Some (x.0 ∷ xs.0, xs.1)

unfoldable pub text_at : Reader (List ℕ)
text_at bytes = do
  n ← number_at w32 bytes
  if nat_le n.0 1048576 then numbers_at w16 n.0 n.1 else None

unfoldable pub path_at : Reader (List ℕ)
path_at bytes = do
  n ← number_at w16 bytes
  if nat_lt 0 n.0 && nat_le n.0 800 then numbers_at w32 n.0 n.1 else None

-- the number that 64 bits stand for in two's complement, where it is one of the language
abbrev pub whole_from : ℕ → Option ℤ
whole_from n = if nat_le n (2 ^ 53) then Some (pos n) else if nat_le (2 ^ 64 - 2 ^ 53) n then Some (negsuc (2 ^ 64 - 1 - n)) else None

unfoldable pub whole_at : Reader ℤ
whole_at bytes = do
  n ← number_at w64 bytes
  z ← whole_from n.0
  Some (z, n.1)

-- no key stands twice
abbrev pub are_distinct : List (List ℕ) → Bool
are_distinct [] = true
are_distinct (k ∷ ks) = not (list_any (λ x. pointwise nat_eq k x) ks) && are_distinct ks

unfoldable pub items_at : Reader Data → ℕ → Reader (List Data)
items_at read zero bytes = Some ([], bytes)
items_at read (suc n) bytes = do
  d ← read bytes
  ds ← items_at read n d.1
  Some (d.0 ∷ ds.0, ds.1)

-- a field is a text and data
abbrev pub keyed : List ℕ → Data × List ℕ → Option ((List ℕ × Data) × List ℕ)
keyed k d = Some ((k, d.0), d.1)

abbrev pub field_at : Reader Data → Reader (List ℕ × Data)
field_at read bytes = text_at bytes >>= λ k. read k.1 >>= keyed k.0

unfoldable pub fields_at : Reader Data → ℕ → Reader (List (List ℕ × Data))
fields_at read zero bytes = Some ([], bytes)
fields_at read (suc n) bytes = do
  k ← text_at bytes
  d ← read k.1
  fs ← fields_at read n d.1
  Some ((k.0, d.0) ∷ fs.0, fs.1)

-- a list and fields whose parts the reader reads
unfoldable pub list_with : Reader Data → Reader Data
list_with read bytes = do
  n ← number_at w32 bytes
  if nat_le n.0 1000000 then (items_at read n.0 n.1 >>= λ ds. Some (DList (items_of ds.0), ds.1)) else None

unfoldable pub fields_with : Reader Data → Reader Data
fields_with read bytes = do
  n ← number_at w32 bytes
  fs ← fields_at read n.0 n.1
  if are_distinct (map (λ f. f.0) fs.0) then Some (DFields (fields_of fs.0), fs.1) else None

-- what the reader of the parts gives, if there is one: at the greatest nesting there is none
abbrev pub deeper : Option (Reader Data) → (Reader Data → Reader Data) → Reader Data
deeper None whole bytes = None
deeper (Some read) whole bytes = whole read bytes

abbrev pub tagged_at : Option (Reader Data) → ℕ → Reader Data
tagged_at parts zero rest = Some (DUndefined, rest)
tagged_at parts (suc zero) rest = Some (DNull, rest)
tagged_at parts (suc (suc zero)) rest = Some (DTruth false, rest)
tagged_at parts (suc (suc (suc zero))) rest = Some (DTruth true, rest)
tagged_at parts (suc (suc (suc (suc zero)))) rest = whole_at rest >>= λ z. Some (DNumber z.0, z.1)
tagged_at parts (suc (suc (suc (suc (suc zero))))) rest = text_at rest >>= λ t. Some (DText t.0, t.1)
tagged_at parts (suc (suc (suc (suc (suc (suc zero)))))) rest = deeper parts list_with rest
tagged_at parts (suc (suc (suc (suc (suc (suc (suc zero))))))) rest = deeper parts fields_with rest
tagged_at parts (suc (suc (suc (suc (suc (suc (suc (suc n)))))))) rest = None

abbrev pub data_with : Option (Reader Data) → Reader Data
data_with parts bytes = byte_at bytes >>= λ b. tagged_at parts b.0 b.1

-- data of at most this nesting
unfoldable pub data_at : ℕ → Reader Data
data_at zero bytes = data_with None bytes
data_at (suc nesting) bytes = data_with (Some (data_at nesting)) bytes

-- the reader of the parts of data of at most this nesting
abbrev pub parts_at : ℕ → Option (Reader Data)
parts_at zero = None
parts_at (suc nesting) = Some (data_at nesting)

-- a draw's bound and value
unfoldable pub draw_at : Reader Record
draw_at bytes = do
  b ← number_at w64 bytes
  v ← number_at w64 b.1
  if nat_lt v.0 b.0 && nat_le b.0 (2 ^ 53) then Some (Draw (pos b.0) (pos v.0), v.1) else None

unfoldable pub reply_at : Reader Record
reply_at bytes = do
  k ← text_at bytes
  t ← text_at k.1
  Some (Reply k.0 t.0, t.1)

abbrev pub body_at : ℕ → Reader Record
body_at zero rest = None
body_at (suc zero) rest = text_at rest >>= λ t. Some (Post t.0, t.1)
body_at (suc (suc zero)) rest = reply_at rest
body_at (suc (suc (suc zero))) rest = draw_at rest
body_at (suc (suc (suc (suc zero)))) rest = data_at 64 rest >>= λ d. Some (Once d.0, d.1)
body_at (suc (suc (suc (suc (suc n))))) rest = None

unfoldable pub entry_at : Reader Entry
entry_at bytes = do
  kind ← byte_at bytes
  p ← path_at kind.1
  r ← body_at kind.0 p.1
  Some (record { path = p.0; what = r.0 }, r.1)

abbrev pub task_pair : List ℕ → List ℕ × List ℕ → Option ((List ℕ × List ℕ) × List ℕ)
task_pair k t = Some ((k, t.0), t.1)

unfoldable pub task_at : Reader (List ℕ × List ℕ)
task_at bytes = text_at bytes >>= λ k. text_at k.1 >>= task_pair k.0

-- what is read, where nothing follows it
abbrev pub only : {A : Type 0} → A × List ℕ → Option A
only (x, []) = Some x
only (x, b ∷ bs) = None

abbrev pub whole : {A : Type 0} → Reader A → List ℕ → Option A
whole read bytes = read bytes >>= only
