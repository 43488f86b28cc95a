-- The verdict rule over the slots of a heap, and the verdict by names.
use Rattle.std.proofs.Common.{◌≡◌, refl, ap, sym, ◌∙◌, ℕ, zero, suc, ◌<◌, length, Some}
use Rattle.turk_base.specs.Names.{Name, cell, path_in, Part, slot}
use Rattle.turk_base.specs.Told.{slot_key_told, slot_told}
use Rattle.turk_base.specs.declared.SlotName.{SlotName}
use Rattle.branch_check.specs.declared.Slot.{Slot as CodeSlot}
use Rattle.branch_check.specs.Watch.{Watch, part_numbered, numbered}
use Rattle.value_cells.specs.declared.CellName.{CellName}
use Rattle.value_cells.specs.Held.{Key, IsWhole}
use Rattle.value_cells.specs.Seen.{Naming, name_in}
use Rattle.slot_watch.specs.Keys.{part_in}
use Rattle.slot_watch.specs.Named.{key_number, by_names}
use Rattle.slot_watch.specs.Slots.{Slots, Turns}
use Rattle.std.proofs.Common.{List}
use Rattle.run_heap.specs.Core.{Core}
use Rattle.run_heap.specs.Watching.{Watches}
use Rattle.run_heap.proofs.Tables.{tells, path_back}

pub watches_of : (f : Watch → Watch) (old : Core) (slots : Slots) → IsWhole old.cells.now → Turns (λ nu w. f w) (length old.cells.now) old.slots slots → Watches f old (record old { slots = slots })
watches_of f old slots whole t = record { cells = refl; made = refl; left = refl; now = λ nu fits. t.now nu (tells nu old.cells.now whole fits) }

key_is : (k : ℕ) → key_number (part_numbered k) ≡ k
key_is zero = refl
key_is (suc k) = refl

pub slot_is : (nu : Naming) (keys : List Key) (x : CodeSlot) → by_names nu keys (numbered x) ≡ slot (nu x.cell) (part_in keys x.key)
slot_is nu keys x = ap (λ k. slot (nu x.cell) (part_in keys k)) (key_is x.key)

pub told_name : (name : CellName) (n : Name) (part : Part) → n ≡ name_in name → record { scope = name.scope; number = name.number; key = slot_key_told part } ≡ slot_told (slot n part)
told_name name n part e = (λ i. record { scope = sym (path_back name.scope) i; number = name.number; key = slot_key_told part }) ∙ ap (λ m. slot_told (slot m part)) (sym e)
