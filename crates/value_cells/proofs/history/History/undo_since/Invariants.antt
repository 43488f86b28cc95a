use Rattle.std.proofs.Common.{◌≡◌, ◌+◌, length}
use Rattle.value_cells.proofs.Undone.{Undoing}
use Rattle.value_cells.proofs.history.History.undo_since.Given as goal

abbrev pub invariant-loop : goal.invariant-loop
invariant-loop l =
    Undoing l.initial.self.steps.items l.self.steps.items l.initial.cells.items l.cells.items × ((l.counter + length l.self.steps.items ≡ l.from + l.end) × (l.self.marks.items ≡ l.initial.self.marks.items))
