-- How the fields of the watch give what a contract sees, and what is true of them: each slot's key has a number.
use Rattle.std.specs.Prelude.{◌≡◌, ℕ, length, Some, slice_get}
use Rattle.branch_check.specs.Watch.{Kept}
use Rattle.slot_watch.specs.declared.SlotWatch.TheInside.{Inside}
use Rattle.slot_watch.specs.Slots.{Slots}
use Rattle.slot_watch.specs.Within.{KeysWithin}

abbrev pub slots_of : Inside → Slots
slots_of a = record { keys = a.keys; current = a.monitor.current; marks = a.monitor.marks }

pub record IsWatch (a : Inside) : Type 0 where
  pub current : KeysWithin (length a.keys) a.monitor.current
  pub marks : (i : ℕ) (k : Kept) → slice_get a.monitor.marks i ≡ Some k → KeysWithin (length a.keys) k
