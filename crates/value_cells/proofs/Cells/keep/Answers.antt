use Rattle.std.proofs.Common.{◌≡◌, arith, ◌∷◌, [], ◌++◌}
use Rattle.value_cells.specs.declared.history.Point.{Point}
use Rattle.value_cells.proofs.Kept.{popped, marks-long, good-kept}
use Rattle.value_cells.proofs.Cells.keep.Goals as goal

last : (c : goal.After-settle) → (q : Point) × (c.self.inside.history.marks.items ≡ c.pop.new.self.items ++ q ∷ [])
last c =
    popped c.self.inside.history.marks.items c.pop.new.self.items c.pop.result c.pop.ensures.items
    (c.pop.ensures.variant.1 (omega (arith, c.requires.open, marks-long c.self.inside c.args.self.now c.self.view_is, c.self.inside.history.marks.ok.0)))

pub invariant_of-self : goal.invariant_of-self
invariant_of-self c =
    let q = last c in
    good-kept c.self.inside c.self.invariant c.pop.new.self.items q.0 q.1 c.settle.new.self c.settle.ensures.marks c.settle.ensures.nested c.settle.ensures.same
