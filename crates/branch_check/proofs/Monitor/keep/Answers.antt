use Rattle.std.proofs.Common.{◌≡◌, ap, sym, ◌∙◌, length, ◌<◌, arith}
use Rattle.std.proofs.lemmas.Bool.Decides.{nat_tests}
use Rattle.std.proofs.lemmas.List.{length-map}
use Rattle.branch_check.specs.Watch.{kept_at}
use Rattle.branch_check.proofs.Marks.{rising_popped, last_closed}
use Rattle.branch_check.proofs.Monitor.keep.Goals as goal

pub invariant_of-self-else-is_empty : goal.invariant_of-self-else-is_empty
invariant_of-self-else-is_empty c = rising_popped (length c.self.inside.opens.steps.items) c.pop.new.self.items c.self.inside.marks.items c.pop.result c.pop.ensures.items c.self.invariant

pub returns-then-is_empty-clause-closed : goal.returns-then-is_empty-clause-closed
returns-then-is_empty-clause-closed c =
    let l = c.pop.new.self.items in
    let none : length l ≡ 0 = grind (arith, nat_tests) in
    let some : 0 < length c.self.inside.marks.items = omega (arith, c.requires.open, ap (λ s. length s.marks) c.self.view_is, length-map c.self.inside.marks.items (kept_at c.self.inside.opens)) in
    let closed = last_closed c.self.inside.opens (record { slots = c.self.inside.opens.slots; steps = c.clear.new.self }) c.self.inside.marks.items l c.pop.result c.pop.ensures.items none some in
    (closed.0, sym (ap (λ s. s.marks) c.self.view_is) ∙ closed.1)
