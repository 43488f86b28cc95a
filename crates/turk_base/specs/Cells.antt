-- What can be done to the properties of one cell: what each such edit touches, writes, costs and answers.
-- An edit is a function of the list of properties alone; it knows nothing of scopes, branches or fuel.
use Rattle.std.specs.Prelude.{ℕ, List, Bool, true, false, not, Option, Some, None, ◌+◌, ◌-◌, ◌*◌, nat_lt, ◌==◌, ◌&&◌, if◌then◌else◌, pos, codes}
use Rattle.std.proofs.Common.{suc, [], ◌∷◌}
use Rattle.turk_base.specs.Names.{Units, Part, shape, at, pick, units_eq}
use Rattle.turk_base.specs.Values.{Val, Number, Property, property}

abbrev pub Props : Type 0
Props = List Property

abbrev pub found : Units → Props → Option Val
found k [] = None
found k (property j v ∷ l) = pick (units_eq j k) (Some v) (found k l)

abbrev pub keys_of : Props → List Units
keys_of [] = []
keys_of (property j v ∷ l) = j ∷ keys_of l

-- the present key set, or the new key created last
abbrev pub set_key : Units → Val → Props → Props
set_key k v [] = property k v ∷ []
set_key k v (property j w ∷ l) = pick (units_eq j k) (property j v ∷ l) (property j w ∷ set_key k v l)

abbrev pub drop_key : Units → Props → Props
drop_key k [] = []
drop_key k (property j w ∷ l) = pick (units_eq j k) (drop_key k l) (property j w ∷ drop_key k l)

abbrev pub drop_all : List Units → Props → Props
drop_all [] p = p
drop_all (k ∷ ks) p = drop_all ks (drop_key k p)

-- ---- keys of arrays

abbrev pub length_key : Units
length_key = codes "length"

-- the number that decimal digits go on to from n
abbrev pub digits_on : ℕ → Units → Option ℕ
digits_on n [] = Some n
digits_on n (d ∷ ds) = if nat_lt 47 d && nat_lt d 58 then digits_on (n * 10 + (d - 48)) ds else None

-- a decimal text without needless zeros
abbrev pub decimal_of : Units → Option ℕ
decimal_of [] = None
decimal_of (d ∷ []) = digits_on 0 (d ∷ [])
decimal_of (d ∷ e ∷ ds) = if d == 48 then None else digits_on 0 (d ∷ e ∷ ds)

-- what a key is for an array
pub data KeyClass : Type 0 where
  index : (i : ℕ) → KeyClass
  past : KeyClass  -- a decimal index from 1,000,000 to 4,294,967,294
  named : KeyClass

abbrev pub class_of_number : Option ℕ → KeyClass
class_of_number (Some i) = if nat_lt i 1000000 then index i else (if nat_lt i 4294967295 then past else named)
class_of_number None = named

unfoldable pub class_of : Units → KeyClass
class_of k = class_of_number (decimal_of k)

-- k is an element at or past z
abbrev pub past_end : ℕ → KeyClass → Bool
past_end z (index i) = not (nat_lt i z)
past_end z past = false
past_end z named = false

-- k, put in before the elements of lower index
abbrev pub lower_than : KeyClass → KeyClass → Bool
lower_than (index i) (index j) = nat_lt i j
lower_than (index i) past = false
lower_than (index i) named = false
lower_than past d = false
lower_than named d = false

abbrev pub put_down : Units → List Units → List Units
put_down k [] = k ∷ []
put_down k (j ∷ ks) = if lower_than (class_of k) (class_of j) then j ∷ put_down k ks else k ∷ j ∷ ks

-- the keys that setting the length to z deletes, from the highest index down
unfoldable pub doomed : ℕ → List Units → List Units
doomed z [] = []
doomed z (k ∷ ks) = if past_end z (class_of k) then put_down k (doomed z ks) else doomed z ks

-- ---- edits

pub data Edit : Type 0 where
  look : (key : Units) → Edit
  put : (key : Units) → (v : Val) → Edit
  remove : (key : Units) → Edit
  list : Edit
  trim : (z : ℕ) → Edit  -- elements at or past z are deleted
  grow : (i : ℕ) → Edit  -- where `length` is at most i it is set to i + 1

abbrev pub SaysOf : Edit → Type 0
SaysOf (look k) = Option Val
SaysOf (put k v) = Unit {0}
SaysOf (remove k) = Unit {0}
SaysOf list = List Units
SaysOf (trim z) = Unit {0}
SaysOf (grow i) = Unit {0}

abbrev pub says : (e : Edit) → Props → SaysOf e
says (look k) p = found k p
says (put k v) p = tt
says (remove k) p = tt
says list p = keys_of p
says (trim z) p = tt
says (grow i) p = tt

-- whether `length` is at most i
abbrev pub grows_at : ℕ → Option Val → Bool
grows_at i (Some (Number (pos n))) = not (nat_lt i n)
grows_at i _ = false

abbrev pub grown : Bool → ℕ → Props → Props
grown true i p = set_key length_key (Number (pos (suc i))) p
grown false i p = p

abbrev pub new_props : Edit → Props → Props
new_props (look k) p = p
new_props (put k v) p = set_key k v p
new_props (remove k) p = drop_key k p
new_props list p = p
new_props (trim z) p = drop_all (doomed z (keys_of p)) p
new_props (grow i) p = grown (grows_at i (found length_key p)) i p

-- a key looked up, set, deleted: its value and the shape
abbrev pub looked : Units → Option Val → List Part
looked k (Some v) = at k ∷ []
looked k None = shape ∷ []

abbrev pub set_at : Units → Option Val → List Part
set_at k (Some v) = at k ∷ []
set_at k None = at k ∷ shape ∷ []

abbrev pub deleted : Units → Option Val → List Part
deleted k (Some v) = at k ∷ shape ∷ []
deleted k None = shape ∷ []

abbrev pub deleted_all : List Units → List Part
deleted_all [] = []
deleted_all (k ∷ ks) = at k ∷ shape ∷ deleted_all ks

abbrev pub grown_at : Bool → List Part
grown_at true = at length_key ∷ []
grown_at false = []

abbrev pub touches : Edit → Props → List Part
touches (look k) p = looked k (found k p)
touches (put k v) p = set_at k (found k p)
touches (remove k) p = deleted k (found k p)
touches list p = shape ∷ []
touches (trim z) p = deleted_all (doomed z (keys_of p))
touches (grow i) p = grown_at (grows_at i (found length_key p))

abbrev pub unset : Units → Option Val → List Part
unset k (Some v) = at k ∷ shape ∷ []
unset k None = []

abbrev pub writes : Edit → Props → List Part
writes (look k) p = []
writes (put k v) p = set_at k (found k p)
writes (remove k) p = unset k (found k p)
writes list p = []
writes (trim z) p = deleted_all (doomed z (keys_of p))
writes (grow i) p = grown_at (grows_at i (found length_key p))

-- a created property costs 1
abbrev pub created : Option Val → ℕ
created (Some v) = 0
created None = 1

abbrev pub edit_cost : Edit → Props → ℕ
edit_cost (put k v) p = created (found k p)
edit_cost (look k) p = 0
edit_cost (remove k) p = 0
edit_cost list p = 0
edit_cost (trim z) p = 0
edit_cost (grow i) p = 0

-- what a slot holds
pub data Seen : Type 0 where
  value : (o : Option Val) → Seen
  keys : (l : List Units) → Seen

abbrev pub seen : Part → Props → Seen
seen shape p = keys (keys_of p)
seen (at k) p = value (found k p)
