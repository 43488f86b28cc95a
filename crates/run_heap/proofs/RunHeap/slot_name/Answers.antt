use Rattle.std.proofs.Common.{◌≡◌, sym, ap, ◌∙◌, subst, ℕ, Some, slice_get}
use Rattle.turk_base.specs.declared.SlotName.{SlotName}
use Rattle.value_cells.specs.Held.{names_of}
use Rattle.value_cells.specs.Seen.{name_in}
use Rattle.slot_watch.specs.Keys.{part_in}
use Rattle.run_heap.specs.Core.{Core}
use Rattle.run_heap.proofs.Tables.{name_at}
use Rattle.run_heap.proofs.Verdicts.{told_name}
use Rattle.run_heap.proofs.RunHeap.slot_name.Goals as goal

pub returns : goal.returns
returns c = λ nu fits.
    let name = c.name-name.result.now in
    let s = c.args.self.now in
    let here : slice_get (names_of s.cells.now) c.args.cell ≡ Some name = subst (λ (s : Core). slice_get (names_of s.cells.now) c.args.cell ≡ Some name) c.self.view_is c.name-name.ensures in
    let is : nu c.args.cell ≡ name_in name = fits.agrees c.args.cell (name_in name) (name_at s.cells.now c.args.cell name here) in
    let scope : c.in_ok-scope.scope ≡ name.scope = c.in_ok-scope.ensures in
    let key = c.in_ok-key.ensures in
    (λ i. record { scope = scope i; number = name.number; key = key i }) ∙ told_name name (nu c.args.cell) (part_in s.slots.keys c.args.number) is
