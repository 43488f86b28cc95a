use Rattle.std.proofs.Common.{◌≡◌, ◌∙◌, sym, ap, List, take, drop}
use Rattle.value_cells.specs.declared.CellData.{CellData}
use Rattle.value_cells.specs.Undone.{undone, before, befores}
use Rattle.value_cells.proofs.Kept.{good-taken, seen-taken}
use Rattle.value_cells.proofs.Cells.take_back.Goals as goal

back : (c : goal.After-settle) → c.undo_since.new.cells.items ≡ before c.self.inside.history.steps.items c.self.inside.cells.items c.in-Some.point
back c = c.undo_since.ensures.cells ∙ ap (undone (drop c.in-Some.point.steps c.self.inside.history.steps.items)) c.truncate.ensures.items

same : (c : goal.After-settle) (ds : List CellData) → befores c.settle.new.self.steps.items c.settle.new.self.marks.items ds
    ≡ befores (take c.in-Some.point.steps c.self.inside.history.steps.items) c.pop.new.self.items ds
same c ds = c.settle.ensures.same ds ∙ (λ i. befores (c.undo_since.ensures.steps i) (c.undo_since.ensures.marks i) ds)

pub invariant_of-self : goal.invariant_of-self
invariant_of-self c =
    good-taken c.self.inside c.self.invariant c.pop.new.self.items c.in-Some.point c.in-Some.ensures.items c.settle.new.self (c.settle.ensures.marks ∙ c.undo_since.ensures.marks) c.settle.ensures.nested
    c.undo_since.new.cells (back c) (same c)

pub returns : goal.returns
returns c =
    ap (λ h. h.marks) (sym c.self.view_is)
    ∙ seen-taken c.self.inside c.self.invariant c.pop.new.self.items c.in-Some.point c.in-Some.ensures.items c.settle.new.self (c.settle.ensures.marks ∙ c.undo_since.ensures.marks) c.settle.ensures.nested
    c.undo_since.new.cells (back c) (same c)
