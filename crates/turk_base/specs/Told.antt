-- What the types of this crate tell of the definitions: records and their entries, slots, verdicts.
use Rattle.std.specs.Prelude.{List, map}
use Rattle.turk_base.specs.Names.{indexes, path_in, cell, Part, shape, at, Slot, slot}
use Rattle.turk_base.specs.State.{Verdict, independent, touched_open, once_while_open, branch_threw}
use Rattle.turk_base.specs.Asks.{Rec, rec}
use Rattle.turk_base.specs.declared.Entry.{Entry}
use Rattle.turk_base.specs.declared.SlotKey.{SlotKey}
use Rattle.turk_base.specs.declared.SlotKey.TheVariants as slot_key
use Rattle.turk_base.specs.declared.SlotName.{SlotName}
use Rattle.turk_base.specs.declared.Verdict.{Verdict as VerdictTold}
use Rattle.turk_base.specs.declared.Verdict.TheVariants as told

-- a record as an entry of a trace, and back
abbrev pub entry_of : Rec → Entry
entry_of (rec p x) = record { path = indexes p; what = x }

abbrev pub record_of : Entry → Rec
record_of e = rec (path_in e.path) e.what

abbrev pub entries_of : List Rec → List Entry
entries_of l = map entry_of l

abbrev pub records_of : List Entry → List Rec
records_of l = map record_of l

-- a slot by the name of its cell
abbrev pub slot_key_told : Part → SlotKey
slot_key_told shape = slot_key.Shape
slot_key_told (at key) = slot_key.Key key

abbrev pub slot_told : Slot → SlotName
slot_told (slot (cell s n) y) = record { scope = indexes s; number = n; key = slot_key_told y }

abbrev pub verdict_told : Verdict → VerdictTold
verdict_told independent = told.Independent
verdict_told (touched_open x) = told.TouchedOpen (slot_told x)
verdict_told (once_while_open x) = told.OnceWhileOpen (slot_told x)
verdict_told (branch_threw p) = told.BranchThrew (indexes p)
