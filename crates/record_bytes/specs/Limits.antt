-- What has a spelling: the limits that a caller keeps, and what every value of the code's types keeps (own rules).
use Rattle.std.specs.Prelude.{◌≡◌, ◌^◌, ◌<◌, ◌≤◌, ℕ, List, length, ℤ, pos}
use Rattle.std.specs.List.{AllByRecursion}
use Rattle.turk_base.specs.Whole.{IsWhole}
use Rattle.turk_base.specs.SessionName.{IsName}
use Rattle.turk_base.specs.Data.{Data, DUndefined, DNull, DTruth, DNumber, DText, DList, DFields, Items, NoItems, Item, Fields, NoFields, Field, nesting, keys, IsDistinctKeys}
use Rattle.turk_base.specs.declared.Entry.{Entry}
use Rattle.turk_base.specs.declared.Record.{Record}
use Rattle.turk_base.specs.declared.Record.TheVariants.{Post, Reply, Draw, Once}
use Rattle.record_bytes.specs.declared.Head.{Head}
use Rattle.record_bytes.specs.Spelling.{count_items, count_fields, entry_bytes, head_bytes, task_bytes}

-- ---- the limits that a caller keeps

-- a text has at most 1,048,576 units
abbrev pub IsTextWithin : List ℕ → Type 0
IsTextWithin t = length t ≤ 1048576

-- texts and keys of at most 1,048,576 units, lists of at most 1,000,000 items, fewer than 2 ^ 32 fields
unfoldable mutual
  pub IsDataWithin : Data → Type 0
  IsDataWithin DUndefined = Unit {0}
  IsDataWithin DNull = Unit {0}
  IsDataWithin (DTruth b) = Unit {0}
  IsDataWithin (DNumber z) = Unit {0}
  IsDataWithin (DText t) = IsTextWithin t
  IsDataWithin (DList items) = (count_items items ≤ 1000000) × AreItemsWithin items
  IsDataWithin (DFields fields) = (count_fields fields < 2 ^ 32) × AreFieldsWithin fields

  pub AreItemsWithin : Items → Type 0
  AreItemsWithin NoItems = Unit {0}
  AreItemsWithin (Item d rest) = IsDataWithin d × AreItemsWithin rest

  pub AreFieldsWithin : Fields → Type 0
  AreFieldsWithin NoFields = Unit {0}
  AreFieldsWithin (Field key d rest) = IsTextWithin key × (IsDataWithin d × AreFieldsWithin rest)

-- a draw's value lies from 0 to below its bound, which is at most 2 ^ 53
abbrev pub IsDraw : ℤ → ℤ → Type 0
IsDraw (pos b) (pos v) = (v < b) × (b ≤ 2 ^ 53)
IsDraw _ _ = ⊥

abbrev pub IsRecordWithin : Record → Type 0
IsRecordWithin (Post t) = IsTextWithin t
IsRecordWithin (Reply k t) = IsTextWithin k × IsTextWithin t
IsRecordWithin (Draw b v) = IsDraw b v
IsRecordWithin (Once d) = (nesting d ≤ 64) × IsDataWithin d

-- an entry within the limits
pub record IsWithin (e : Entry) : Type 0 where
  pub some : 0 < length e.path
  pub short : length e.path ≤ 800
  pub what : IsRecordWithin e.what

-- a head within the limits
pub record IsHeadWithin (h : Head) : Type 0 where
  pub some : 0 < h.fuel
  pub fuel : h.fuel ≤ 20000000
  pub script : length h.script ≤ 1048576

-- ---- what values of the code's types keep

abbrev pub AreUnits : List ℕ → Type 0
AreUnits t = AllByRecursion (λ u. u < 2 ^ 16) t

-- units of 16 bits, numbers of the language, distinct keys
unfoldable mutual
  pub IsData : Data → Type 0
  IsData DUndefined = Unit {0}
  IsData DNull = Unit {0}
  IsData (DTruth b) = Unit {0}
  IsData (DNumber z) = IsWhole z
  IsData (DText t) = AreUnits t
  IsData (DList items) = AreItems items
  IsData (DFields fields) = IsDistinctKeys (keys fields) × AreFields fields

  pub AreItems : Items → Type 0
  AreItems NoItems = Unit {0}
  AreItems (Item d rest) = IsData d × AreItems rest

  pub AreFields : Fields → Type 0
  AreFields NoFields = Unit {0}
  AreFields (Field key d rest) = AreUnits key × (IsData d × AreFields rest)

abbrev pub IsRecord : Record → Type 0
IsRecord (Post t) = AreUnits t
IsRecord (Reply k t) = AreUnits k × AreUnits t
IsRecord (Draw b v) = Unit {0}
IsRecord (Once d) = IsData d

pub record IsEntry (e : Entry) : Type 0 where
  pub path : AllByRecursion (λ i. i < 2 ^ 32) e.path
  pub what : IsRecord e.what

-- ---- bytes and what they spell

-- the bytes are the spelling of this entry
pub record Spells (bytes : List ℕ) (e : Entry) : Type 0 where
  pub within : IsWithin e
  pub typed : IsEntry e
  pub bytes_are : bytes ≡ entry_bytes e

-- the bytes are the spelling of this head
pub record SpellsHead (bytes : List ℕ) (h : Head) : Type 0 where
  pub within : IsHeadWithin h
  pub name : IsName h.name
  pub script : AllByRecursion (λ b. b < 2 ^ 8) h.script
  pub bytes_are : bytes ≡ head_bytes h

-- the bytes are the spelling of this task
pub record SpellsTask (bytes token text : List ℕ) : Type 0 where
  pub token_within : IsTextWithin token
  pub text_within : IsTextWithin text
  pub token_units : AreUnits token
  pub text_units : AreUnits text
  pub bytes_are : bytes ≡ task_bytes token text
