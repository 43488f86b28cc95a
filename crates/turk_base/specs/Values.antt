-- Values, kinds of cells, properties, and data.
use Rattle.std.specs.Prelude.{ℕ, ℤ, List, Bool, Option}
use Rattle.turk_base.specs.Names.{Units, Name, Path}
pub use Rattle.turk_base.specs.Data.{Data, DUndefined, DNull, DTruth, DNumber, DText, DList, DFields, Items, NoItems, Item, Fields, NoFields, Field}

pub data Val : Type 0 where
  Undefined : Val
  Null : Val
  Truth : (b : Bool) → Val
  Number : (z : ℤ) → Val
  Text : (units : Units) → Val
  Object : (name : Name) → Val

-- What is fixed when a cell is made.
pub data Kind : Type 0 where
  Frame : (parent : Option Name) → Kind
  Plain : (proto : Option Name) → Kind
  Array : Kind
  Function : (number : ℕ) → (frame : Name) → Kind
  BuiltIn : (which : ℕ) → Kind

-- A cell's kind, and the cells where a key is looked up after it: its prototype, the prototype's, and so on.
pub record Known : Type 0 where
  pub kind : Kind
  pub chain : List Name

pub data Property : Type 0 where
  property : (key : Units) → (v : Val) → Property

-- why a run is refused
pub data Refusal : Type 0 where
  NotWhole NoPrimitive TooDeep TooLong NotData ForkInOnce : Refusal

-- how a node ends, as far as a row can see it
pub data Outcome : Type 0 where
  Normal : (v : Val) → Outcome
  Break : Outcome
  Continue : Outcome
  Return : (v : Val) → Outcome
  Throw : (v : Val) → Outcome

-- what a run waits for
pub data Wait : Type 0 where
  task : (token : Units) → Wait
  crashed : (scope : Path) → Wait
