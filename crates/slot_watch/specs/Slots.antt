-- What a contract sees of the watch over slots: the keys in the order of their numbers, what is kept now, and at each open mark.
use Rattle.std.specs.Prelude.{◌≡◌, ℕ, List, Some, slice_get}
use Rattle.turk_base.specs.Names.{Name}
use Rattle.branch_check.specs.Watch.{Watch, Kept}
use Rattle.key_table.specs.Keys.{Key}
use Rattle.slot_watch.specs.Named.{named, TellsApart}

pub record Slots : Type 0 where
  pub keys : List Key
  pub current : Kept
  pub marks : List Kept

-- A call that speaks of the first n cells alone does f, under each naming that tells these cells apart.
pub record Turns (f : (ℕ → Name) → Watch → Watch) (n : ℕ) (old new : Slots) : Type 0 where
  pub now : (nu : ℕ → Name) → TellsApart nu n → named nu new.keys new.current ≡ f nu (named nu old.keys old.current)

-- What was kept at the open marks means what it meant.
pub record KeepsMarks (old new : Slots) : Type 0 where
  pub marks : new.marks ≡ old.marks
  pub meaning : (nu : ℕ → Name) (i : ℕ) (k : Kept) → slice_get old.marks i ≡ Some k → named nu new.keys k ≡ named nu old.keys k
