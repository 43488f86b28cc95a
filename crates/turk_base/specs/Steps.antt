-- What each primitive of a script's meaning does, as a program of steps: the accesses with their touches, charges and
-- refusals in order, the asks, and the taking and putting of data.
use Rattle.std.specs.Prelude.{ℕ, List, Bool, true, false, Option, Some, None, ◌==◌, ◌&&◌, nat_lt, length, if◌then◌else◌, ℤ, pos, negsuc, Result, Ok, Err, codes, decimal}
use Rattle.std.proofs.Common.{suc, zero, [], ◌∷◌, ◌++◌}
use Rattle.turk_base.specs.Names.{Units, Name, pick, units_eq, name_eq}
use Rattle.turk_base.specs.Values.{Val, Undefined, Null, Truth, Number, Text, Object, Kind, Frame, Plain, Array, Function, BuiltIn, Refusal, TooLong, NotData}
use Rattle.turk_base.specs.Values.{Data, DUndefined, DNull, DTruth, DNumber, DText, DList, DFields, Items, NoItems, Item, Fields, NoFields, Field}
use Rattle.turk_base.specs.Conversions.{number_in}
use Rattle.turk_base.specs.Asks.{Question, posts, replies, draws, AnsOf}
use Rattle.turk_base.specs.Prog.{Prim, Pay, KindOf, Make, Inherits, Get, Put, Remove, Keys, ReadName, WriteName, Declare, Print, Post, Reply, Draw, Join, MayFork, Crash, Refuse, AnswerOf}
use Rattle.turk_base.specs.Cells.{Edit, look, put, remove, list, trim, grow, KeyClass, index, past, named, class_of, length_key}
use Rattle.turk_base.specs.State.{Op, charge, known_at, make, change, print, join, forks_here, crash, AnswerTo}

-- A small program: steps on the state, and asks of the outside.
pub data Small (A : Type 0) : Type 0 where
  give : (a : A) → Small A
  refuse : (why : Refusal) → Small A
  lost : Small A  -- a name that is no cell was used; no script does
  step : (o : Op) → (go : AnswerTo o → Small A) → Small A
  ask : (q : Question) → (go : AnsOf q → Small A) → Small A

abbrev pub bind : {A B : Type 0} → Small A → (A → Small B) → Small B
bind (give a) k = k a
bind (refuse why) k = refuse why
bind lost k = lost
bind (step o go) k = step o (λ a. bind (go a) k)
bind (ask q go) k = ask q (λ a. bind (go a) k)

-- a charge is paid first
abbrev pub pays : {A : Type 0} → ℕ → Small A → Small A
pays n p = step (charge n) (λ _. p)

-- one access of a cell's properties; what it creates is paid
abbrev pub edit : {A : Type 0} → (c : Name) → (e : Edit) → (AnswerTo (change true c e) → Small A) → Small A
edit c e k = step (change true c e) k

-- ---- accesses

abbrev pub or_else : Option Val → Small (Option Val) → Small (Option Val)
or_else (Some v) rest = give (Some v)
or_else None rest = rest

-- the key looked up in cell after cell (ECMA-262 3rd ed. 8.6.2.1)
abbrev pub get_in : List Name → Units → Small (Option Val)
get_in [] key = give None
get_in (c ∷ cs) key = edit c (look key) (λ o. or_else o (get_in cs key))

abbrev pub get : Name → Units → Small (Option Val)
get c key = step (known_at c) (λ k. get_in (c ∷ k.chain) key)

-- the own key set, or created last (8.6.2.2)
abbrev pub put_key : Name → Units → Val → Small (Unit {0})
put_key c key v = edit c (put key v) give

-- the length z is set (15.4.5.1; at most 1,000,000, own rule): elements at or past it go, from the highest down
abbrev pub set_length : Name → Option ℕ → Small (Unit {0})
set_length c (Some z) = if nat_lt 1000000 z then refuse TooLong else edit c (trim z) (λ _. put_key c length_key (Number (pos z)))
set_length c None = refuse TooLong

abbrev pub natural : ℤ → Option ℕ
natural (pos n) = Some n
natural (negsuc n) = None

-- the length is set to the number of a value
abbrev pub length_from : Name → Result ℤ Refusal → Small (Unit {0})
length_from c (Ok z) = set_length c (natural z)
length_from c (Err why) = refuse why

-- an element: where the index is at or past the length, the length is set to one more; past the greatest index it is refused
abbrev pub put_element : Name → Units → Val → KeyClass → Small (Unit {0})
put_element c key v (index i) = edit c (put key v) (λ _. edit c (grow i) give)
put_element c key v past = refuse TooLong
put_element c key v named = put_key c key v

abbrev pub put_in : Kind → Name → Units → Val → Small (Unit {0})
put_in Array c key v = pick (units_eq key length_key) (length_from c (number_in v)) (put_element c key v (class_of key))
put_in (Frame p) c key v = put_key c key v
put_in (Plain p) c key v = put_key c key v
put_in (Function n f) c key v = put_key c key v
put_in (BuiltIn w) c key v = put_key c key v

abbrev pub prototype_key : Units
prototype_key = codes "prototype"

-- the own key deleted (8.6.2.5)
abbrev pub drop_it : Name → Units → Small Bool
drop_it c key = edit c (remove key) (λ _. give true)

-- an array's `length` and a function's `prototype` stay
abbrev pub remove_in : Kind → Name → Units → Small Bool
remove_in Array c key = pick (units_eq key length_key) (give false) (drop_it c key)
remove_in (Function n f) c key = pick (units_eq key prototype_key) (give false) (drop_it c key)
remove_in (BuiltIn w) c key = pick (units_eq key prototype_key) (give false) (drop_it c key)
remove_in (Frame p) c key = drop_it c key
remove_in (Plain p) c key = drop_it c key

-- the keys of ks that are not in had, each once
abbrev pub has_key : Units → List Units → Bool
has_key k [] = false
has_key k (j ∷ ks) = pick (units_eq j k) true (has_key k ks)

abbrev pub add_keys : List Units → List Units → List Units
add_keys had [] = had
add_keys had (k ∷ ks) = if has_key k had then add_keys had ks else add_keys (had ++ (k ∷ [])) ks

abbrev pub without_length : Kind → List Units → List Units
without_length Array [] = []
without_length Array (k ∷ ks) = pick (units_eq k length_key) (without_length Array ks) (k ∷ without_length Array ks)
without_length (Frame p) ks = ks
without_length (Plain p) ks = ks
without_length (Function n f) ks = ks
without_length (BuiltIn w) ks = ks

-- the keys of cell after cell, each once; each cell's shape is touched, and `length` of an array is not listed
abbrev pub keys_in : List Units → List Name → Small (List Units)
keys_in had [] = give had
keys_in had (c ∷ cs) = step (known_at c) (λ k. edit c list (λ ks. keys_in (add_keys had (without_length k.kind ks)) cs))

abbrev pub there : Option Val → Small Val
there (Some v) = give v
there None = lost

-- ---- arrays and data

-- elements put at the end of a new array; `paid` says that cells and properties are charged
abbrev pub element : {A : Type 0} → Bool → Name → ℕ → Val → Small A → Small A
element paid c i v rest = step (change paid c (put (decimal i) v)) (λ _. step (change paid c (grow i)) (λ _. rest))

abbrev pub fill : Name → ℕ → List Val → Small Val
fill c i [] = give (Object c)
fill c i (v ∷ vs) = element true c i v (fill c (suc i) vs)

abbrev pub joined : Bool → List Val → Small Val
joined true vs = step (make true Array) (λ c. fill c 0 vs)
joined false vs = give Undefined

-- keys that are no index below n
abbrev pub is_index_below : ℕ → KeyClass → Bool
is_index_below n (index i) = nat_lt i n
is_index_below n past = false
is_index_below n named = false

abbrev pub all_below : ℕ → List Units → Bool
all_below n [] = true
all_below n (k ∷ ks) = is_index_below n (class_of k) && all_below n ks

-- the keys are just the indexes below n
abbrev pub just_elements : List Units → Option Val → Option ℕ
just_elements ks (Some (Number (pos n))) = if length ks == n && all_below n ks then Some n else None
just_elements ks o = None

-- the elements from i on, n of them, taken by `one`
abbrev pub take_items : (Val → Small Data) → Name → ℕ → ℕ → Small Items
take_items one c i zero = give NoItems
take_items one c i (suc n) = edit c (look (decimal i)) (λ o. bind (there o) (λ v. bind (one v) (λ d. bind (take_items one c (suc i) n) (λ ds. give (Item d ds)))))

abbrev pub take_list : (Val → Small Data) → Name → Option ℕ → Small Data
take_list one c (Some n) = bind (take_items one c 0 n) (λ ds. give (DList ds))
take_list one c None = refuse NotData

-- each field pays 1 and its key
abbrev pub take_fields : (Val → Small Data) → Name → List Units → Small Fields
take_fields one c [] = give NoFields
take_fields one c (k ∷ ks) = pays (suc (length k)) (edit c (look k) (λ o. bind (there o) (λ v. bind (one v) (λ d. bind (take_fields one c ks) (λ ds. give (Field k d ds))))))

abbrev pub take_cell : (Val → Small Data) → Name → Kind → Small Data
take_cell one c Array = pays 1 (edit c list (λ ks. edit c (look length_key) (λ o. take_list one c (just_elements (without_length Array ks) o))))
take_cell one c (Plain p) = pays 1 (edit c list (λ ks. bind (take_fields one c ks) (λ ds. give (DFields ds))))
take_cell one c (Frame p) = refuse NotData
take_cell one c (Function n f) = refuse NotData
take_cell one c (BuiltIn w) = refuse NotData

-- the data of a value, `left` lists and fields deep at most; each node pays its size, from the outside in
abbrev pub take : ℕ → Val → Small Data
take left Undefined = pays 1 (give DUndefined)
take left Null = pays 1 (give DNull)
take left (Truth b) = pays 1 (give (DTruth b))
take left (Number z) = pays 1 (give (DNumber z))
take left (Text t) = pays (suc (length t)) (give (DText t))
take zero (Object c) = refuse NotData
take (suc left) (Object c) = step (known_at c) (λ k. take_cell (take left) c k.kind)

unfoldable pub taking : Val → Small Data
taking v = take 64 v

-- the value of a data: its cells and properties are not charged again
abbrev mutual
  pub put_data : Data → Small Val
  put_data DUndefined = pays 1 (give Undefined)
  put_data DNull = pays 1 (give Null)
  put_data (DTruth b) = pays 1 (give (Truth b))
  put_data (DNumber z) = pays 1 (give (Number z))
  put_data (DText t) = pays (suc (length t)) (give (Text t))
  put_data (DList ds) = pays 1 (step (make false Array) (λ c. put_items c 0 ds))
  put_data (DFields ds) = pays 1 (step (make false (Plain None)) (λ c. put_fields c ds))

  pub put_items : Name → ℕ → Items → Small Val
  put_items c i NoItems = give (Object c)
  put_items c i (Item d ds) = bind (put_data d) (λ v. element false c i v (put_items c (suc i) ds))

  pub put_fields : Name → Fields → Small Val
  put_fields c NoFields = give (Object c)
  put_fields c (Field k d ds) = pays (suc (length k)) (bind (put_data d) (λ v. step (change false c (put k v)) (λ _. put_fields c ds)))

-- ---- the requests of a program

abbrev pub stands_in : Name → List Name → Bool
stands_in c [] = false
stands_in c (d ∷ ds) = pick (name_eq d c) true (stands_in c ds)

unfoldable pub steps_of : (p : Prim) → Small (AnswerOf p)
steps_of (Pay n) = step (charge n) give
steps_of (KindOf c) = step (known_at c) (λ k. give k.kind)
steps_of (Make kind) = step (make true kind) give
steps_of (Inherits c from) = step (known_at c) (λ k. give (stands_in from k.chain))
steps_of (Get c key) = get c key
steps_of (Put c key v) = step (known_at c) (λ k. put_in k.kind c key v)
steps_of (Remove c key) = step (known_at c) (λ k. remove_in k.kind c key)
steps_of (Keys c) = step (known_at c) (λ k. keys_in [] (c ∷ k.chain))
steps_of (ReadName f name) = edit f (look name) there
steps_of (WriteName f name v) = put_key f name v
steps_of (Declare f name v) = put_key f name v
steps_of (Print line) = step (print line) give
steps_of (Post text) = ask (posts text) give
steps_of (Reply token) = ask (replies token) give
steps_of (Draw bound) = ask (draws bound) give
steps_of (Join wanted) = step (join wanted) (λ vs. joined wanted vs)
steps_of MayFork = step forks_here give
steps_of Crash = step crash give
steps_of (Refuse why) = refuse why
