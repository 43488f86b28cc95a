-- The one spelling of records, heads and tasks. Numbers are big-endian (own rules).
use Rattle.std.specs.Prelude.{◌+◌, ◌-◌, ◌^◌, ℕ, Bool, true, false, List, [], ◌∷◌, ◌++◌, length, ℤ, pos, negsuc}
use Rattle.std.specs.List.{flat_map}
use Rattle.std.specs.Int.{w16, w32, w64, to_be_bytes}
use Rattle.turk_base.specs.Data.{Data, DUndefined, DNull, DTruth, DNumber, DText, DList, DFields, Items, NoItems, Item, Fields, NoFields, Field}
use Rattle.turk_base.specs.declared.Entry.{Entry}
use Rattle.turk_base.specs.declared.Record.{Record}
use Rattle.turk_base.specs.declared.Record.TheVariants.{Post, Reply, Draw, Once}
use Rattle.record_bytes.specs.declared.Head.{Head}

-- a text: its count of units, and each unit
unfoldable pub text_bytes : List ℕ → List ℕ
text_bytes t = to_be_bytes w32 (length t) ++ flat_map (to_be_bytes w16) t

-- a path: its length, and each index
unfoldable pub path_bytes : List ℕ → List ℕ
path_bytes p = to_be_bytes w16 (length p) ++ flat_map (to_be_bytes w32) p

-- a number in two's complement of 64 bits
abbrev pub twos_complement : ℤ → ℕ
twos_complement (pos n) = n
twos_complement (negsuc n) = 2 ^ 64 - (n + 1)

unfoldable pub number_bytes : ℤ → List ℕ
number_bytes z = to_be_bytes w64 (twos_complement z)

abbrev pub truth_tag : Bool → ℕ
truth_tag false = 2
truth_tag true = 3

abbrev pub count_items : Items → ℕ
count_items NoItems = 0
count_items (Item d rest) = count_items rest + 1

abbrev pub count_fields : Fields → ℕ
count_fields NoFields = 0
count_fields (Field key d rest) = count_fields rest + 1

-- data: a tag, and what it holds
unfoldable mutual
  pub data_bytes : Data → List ℕ
  data_bytes DUndefined = 0 ∷ []
  data_bytes DNull = 1 ∷ []
  data_bytes (DTruth b) = truth_tag b ∷ []
  data_bytes (DNumber z) = 4 ∷ number_bytes z
  data_bytes (DText t) = 5 ∷ text_bytes t
  data_bytes (DList items) = 6 ∷ to_be_bytes w32 (count_items items) ++ items_bytes items
  data_bytes (DFields fields) = 7 ∷ to_be_bytes w32 (count_fields fields) ++ fields_bytes fields

  pub items_bytes : Items → List ℕ
  items_bytes NoItems = []
  items_bytes (Item d rest) = data_bytes d ++ items_bytes rest

  pub fields_bytes : Fields → List ℕ
  fields_bytes NoFields = []
  fields_bytes (Field key d rest) = text_bytes key ++ data_bytes d ++ fields_bytes rest

abbrev pub kind_of : Record → ℕ
kind_of (Post t) = 1
kind_of (Reply k t) = 2
kind_of (Draw b v) = 3
kind_of (Once d) = 4

unfoldable pub body_bytes : Record → List ℕ
body_bytes (Post t) = text_bytes t
body_bytes (Reply k t) = text_bytes k ++ text_bytes t
body_bytes (Draw b v) = number_bytes b ++ number_bytes v
body_bytes (Once d) = data_bytes d

-- a record: its kind, its path, its body
unfoldable pub entry_bytes : Entry → List ℕ
entry_bytes e = kind_of e.what ∷ path_bytes e.path ++ body_bytes e.what

-- what a head begins with: 48 01, the name with its length; and what follows it
unfoldable pub named_bytes : List ℕ → List ℕ → List ℕ
named_bytes name rest = 72 ∷ 1 ∷ length name ∷ name ++ rest

-- a journal's head: behind its name the fuel, and the script to the end
unfoldable pub head_bytes : Head → List ℕ
head_bytes h = named_bytes h.name (to_be_bytes w64 h.fuel ++ h.script)

-- a task: its token and its text
unfoldable pub task_bytes : List ℕ → List ℕ → List ℕ
task_bytes token text = text_bytes token ++ text_bytes text
