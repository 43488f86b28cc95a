-- The limits of a data that is put: its lists.
use Rattle.std.specs.Prelude.{ℕ, suc, ◌≤◌}
use Rattle.turk_base.specs.Data.{Data, DUndefined, DNull, DTruth, DNumber, DText, DList, DFields, Items, NoItems, Item, Fields, NoFields, Field}

abbrev pub many : Items → ℕ
many NoItems = 0
many (Item d rest) = suc (many rest)

-- lists of at most 1,000,000 items, at every level
unfoldable mutual
  pub IsShort : Data → Type 0
  IsShort DUndefined = Unit {0}
  IsShort DNull = Unit {0}
  IsShort (DTruth b) = Unit {0}
  IsShort (DNumber z) = Unit {0}
  IsShort (DText t) = Unit {0}
  IsShort (DList items) = (many items ≤ 1000000) × AreItemsShort items
  IsShort (DFields fields) = AreFieldsShort fields

  pub AreItemsShort : Items → Type 0
  AreItemsShort NoItems = Unit {0}
  AreItemsShort (Item d rest) = IsShort d × AreItemsShort rest

  pub AreFieldsShort : Fields → Type 0
  AreFieldsShort NoFields = Unit {0}
  AreFieldsShort (Field key d rest) = IsShort d × AreFieldsShort rest
