-- What a part of the walk over a script does: which tree it makes of which, and what it leaves of the walk.
use Rattle.std.specs.Prelude.{◌≡◌, ℕ, suc, ◌+◌, ◌≤◌, min, List, [], ◌∷◌, map, length, sum_by, slice_get, Option, Some, None, Result, IfOk}
use Rattle.std.specs.Option.{option_map}
use Rattle.std.specs.Borrow.{Bor}
use Rattle.js_tree.specs.declared.Named.{Named}
use Rattle.js_tree.specs.declared.Script.{Script}
use Rattle.js_tree.specs.Trees.{number_of}
use Rattle.js_tree.specs.Calls.{Code}
use Rattle.js_tree.specs.Table.{Codes, all_in, if_there}
use Rattle.js_tree.specs.Lawful.{Around, Each, IfThere, LawfulScript}
use Rattle.js_tree.specs.Binds.{FrameNames, Frames, BindsTo, IsBound}
use Rattle.js_tree.specs.Bare.{bare}
use Rattle.js_tree.specs.NameCount.{count_there, declared_count}
use Rattle.scope_names.specs.declared.walk.Walk.{Walk}
use Rattle.scope_names.specs.declared.NoRoom.{NoRoom}
use Rattle.scope_names.specs.Gathered.{collected}

-- The codes stand in the table from this place on.
abbrev pub Sits : Codes → ℕ → Codes → Type 0
Sits table from codes = (k : ℕ) (code : Code) → slice_get codes k ≡ Some code → slice_get table (from + k) ≡ Some code

-- The walk went past these functions, which it numbered in order, and past so many declared names.
pub record Moves (before after : Walk) (codes : Codes) (names : ℕ) : Type 0 where
  pub scopes : after.scopes ≡ before.scopes
  pub counted : min after.names 65536 ≡ min (before.names + names) 65536
  pub next : after.next ≡ before.next + length codes
  pub numbered : (k : ℕ) (code : Code) → slice_get codes k ≡ Some code → number_of code.body ≡ before.next + k

-- Besides, what the walk made has these functions at each depth that suffices, and its names are bound.
pub record Part (before after : Walk) (names : ℕ) (codes_at : ℕ → Codes) (least : ℕ) (Bound : Codes → Frames → Type 0) : Type 0 where
  pub codes : Codes
  pub listed : (depth : ℕ) → least ≤ depth → codes_at depth ≡ codes
  pub moves : Moves before after codes names
  pub bound : (table : Codes) (frames : Frames) → before.scopes ≡ map collected frames → Sits table before.next codes → Bound table frames

-- What is said of one kind of tree: its declared names, its functions, that its names are bound, the tree without bindings, that it is lawful.
pub record Kind (A : Type 0) : Type 1 where
  pub count : A → ℕ
  pub codes : ℕ → A → Codes
  pub least : ℕ
  pub Bound : Codes → Frames → A → Type 0
  pub bare : A → A
  pub Lawful : Around → A → Type 0

-- The walk made this tree of that.
pub record Resolves {A : Type 0} (kind : Kind A) (before : Walk) (given made : A) (after : Walk) : Type 0 where
  pub part : Part before after (kind.count given) (λ depth. kind.codes depth made) kind.least (λ table frames. kind.Bound table frames made)
  pub same : kind.bare made ≡ kind.bare given
  pub lawful : (around : Around) → kind.Lawful around given → kind.Lawful around made

-- The walk made these two trees of those, one after the other.
pub record ResolvesTwo {A B : Type 0} (first : Kind A) (second : Kind B) (before : Walk) (x : A) (y : B) (made : A) (then : B) (after : Walk) : Type 0 where
  pub between : Walk
  pub former : Resolves first before x made between
  pub latter : Resolves second between y then after

-- The walk made these three trees of those, one after the other.
pub record ResolvesThree {A B C : Type 0} (first : Kind A) (second : Kind B) (third : Kind C) (before : Walk) (x : A) (y : B) (z : C) (made : A) (then : B) (last : C) (after : Walk) : Type 0 where
  pub between : Walk
  pub former : Resolves first before x made between
  pub rest : ResolvesTwo second third between y z then last after

abbrev pub list_kind : {A : Type 0} → Kind A → Kind (List A)
list_kind kind = record {
  count = sum_by kind.count;
  codes = λ depth. all_in (kind.codes depth);
  least = kind.least;
  Bound = λ table frames. Each (kind.Bound table frames);
  bare = map kind.bare;
  Lawful = λ around. Each (kind.Lawful around);
}

abbrev pub option_kind : {A : Type 0} → Kind A → Kind (Option A)
option_kind kind = record {
  count = count_there kind.count;
  codes = λ depth. if_there (kind.codes depth);
  least = kind.least;
  Bound = λ table frames. IfThere (kind.Bound table frames);
  bare = option_map kind.bare;
  Lawful = λ around. IfThere (kind.Lawful around);
}

-- The name with the place of its declaration.
pub record NameBound (frames : Frames) (given made : Named) : Type 0 where
  pub same : made.name ≡ given.name
  pub bound : BindsTo frames made.name made.own made.binding

-- The next number is taken.
pub record Numbers (before : Walk) (number : ℕ) (after : Walk) : Type 0 where
  pub taken : number ≡ before.next
  pub scopes : after.scopes ≡ before.scopes
  pub counted : after.names ≡ before.names
  pub next : after.next ≡ suc before.next

-- A frame more stands round the place.
pub record Enters (before : Walk) (frame : FrameNames) (after : Walk) : Type 0 where
  pub scopes : after.scopes ≡ frame ∷ before.scopes
  pub counted : min after.names 65536 ≡ min (before.names + length frame.names) 65536
  pub next : after.next ≡ before.next

-- The innermost frame is left.
pub record LeavesFrame (before after : Walk) : Type 0 where
  pub scopes : (frame : FrameNames) (outer : Frames) → before.scopes ≡ frame ∷ outer → after.scopes ≡ outer
  pub counted : after.names ≡ before.names
  pub next : after.next ≡ before.next

-- A function that makes trees of this kind of what it is lent.
pub record Makes {A : Type 0} (kind : ℕ → Kind A) (left : ℕ) (pre : Walk → ℕ → Bor A → Type 0) (post : Walk → ℕ → Bor A → Result (A × Walk) NoRoom → Type 0) : Type 0 where
  pub callable : (walk : Walk) (given : Bor A) → pre walk left given
  pub makes : (walk : Walk) (given : Bor A) (r : Result (A × Walk) NoRoom) → post walk left given r → IfOk r (λ made. Resolves (kind left) walk given.now made.0 made.1)

-- The names of a script were bound, and so many are declared, where more than 65,536 aren't told apart.
pub record ScriptBound (given made : Script) (names : ℕ) : Type 0 where
  pub bound : IsBound made
  pub same : bare made ≡ bare given
  pub lawful : LawfulScript given → LawfulScript made
  pub counted : min names 65536 ≡ min (declared_count given) 65536
