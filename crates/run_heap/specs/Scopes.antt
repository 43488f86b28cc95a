-- Scopes of a run's heap.
use Rattle.std.specs.Prelude.{◌≡◌, ◌<◌, List, [], ◌∷◌, ◌++◌, Bool, ℕ, Some, slice_get, if◌then◌else◌}
use Rattle.turk_base.specs.Names.{path_in, Name, Under, home}
use Rattle.branch_check.specs.Watch.{Kept}
use Rattle.value_cells.specs.Held.{Cell}
use Rattle.run_heap.specs.Core.{Core}

-- No cell stands in the scope at p or below it.
pub record IsUnused (p : List ℕ) (names : List Name) : Type 0 where
  pub unused : (i : ℕ) (n : Name) → slice_get names i ≡ Some n → Under (path_in p) (home n) → ⊥

-- The path of a call of the scope s that was counted, where no cell stands.
pub record IsReady (p s : List ℕ) (calls : ℕ) (names : List Name) : Type 0 where
  pub index : ℕ
  pub path : p ≡ s ++ index ∷ []
  pub counted : index < calls
  pub free : IsUnused p names

-- The scope at p is entered: the one that ran is around it, and what there is can be taken back.
pub record Enters (p : List ℕ) (branch : Bool) (old new : Core) : Type 0 where
  pub now : new.cells.now ≡ old.cells.now
  pub marks : new.cells.marks ≡ old.cells.marks ++ old.cells.now ∷ []
  pub current : new.slots.current ≡ old.slots.current
  pub keys : new.slots.keys ≡ old.slots.keys
  pub kept : new.slots.marks ≡ old.slots.marks ++ old.slots.current ∷ []
  pub path : new.place.path ≡ p
  pub held : new.place.branch ≡ (if branch then p else old.place.branch)
  pub made : new.place.made ≡ 0
  pub calls : new.place.calls ≡ 0
  pub outer : new.outer ≡ old.outer ++ old.place ∷ []
  pub left : new.left ≡ old.left

-- The scope is left, and cells and slots are what they were when it was entered.
pub record LeavesBack (old new : Core) : Type 0 where
  pub cells : old.cells.marks ≡ new.cells.marks ++ new.cells.now ∷ []
  pub slots : old.slots.marks ≡ new.slots.marks ++ new.slots.current ∷ []
  pub keys : new.slots.keys ≡ old.slots.keys
  pub outer : old.outer ≡ new.outer ++ new.place ∷ []
  pub left : new.left ≡ old.left

-- The scope is left, and cells and slots are as they are in it.
pub record LeavesKeep (old new : Core) : Type 0 where
  pub now : new.cells.now ≡ old.cells.now
  pub current : new.slots.current ≡ old.slots.current
  pub keys : new.slots.keys ≡ old.slots.keys
  pub cells : (saved : List Cell) × (old.cells.marks ≡ new.cells.marks ++ saved ∷ [])
  pub slots : (saved : Kept) × (old.slots.marks ≡ new.slots.marks ++ saved ∷ [])
  pub outer : old.outer ≡ new.outer ++ new.place ∷ []
  pub left : new.left ≡ old.left
