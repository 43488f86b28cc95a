use Rattle.std.proofs.Common.{◌≡◌, ap, sym, ◌∙◌, subst, [], ◌∷◌, ◌++◌, length, map, rules}
use Rattle.branch_check.specs.Numbers.{shown}
use Rattle.branch_check.specs.Steps.{Rising}
use Rattle.branch_check.specs.Watch.{kept_at}
use Rattle.branch_check.proofs.Marks.{rising_newest, taken_back}
use Rattle.branch_check.proofs.Monitor.take_back.Goals as goal

pub undo_from-requires : goal.undo_from-requires
undo_from-requires c = (rising_newest (length c.self.inside.opens.steps.items) c.self.inside.marks.items c.pop.new.self.items c.in-Some.saved c.in-Some.ensures.items c.self.invariant).1

pub invariant_of-self : goal.invariant_of-self
invariant_of-self c =
    subst (λ n. Rising 0 c.pop.new.self.items n) (sym c.undo_from.ensures.steps)
    (rising_newest (length c.self.inside.opens.steps.items) c.self.inside.marks.items c.pop.new.self.items c.in-Some.saved c.in-Some.ensures.items c.self.invariant).0

pub invariant_of-self-in-Some-2 : goal.invariant_of-self-in-Some-2
invariant_of-self-in-Some-2 c =
    subst (λ n. Rising 0 c.pop.new.self.items n) (sym c.undo_from.ensures.steps)
    (rising_newest (length c.self.inside.opens.steps.items) c.self.inside.marks.items c.pop.new.self.items c.in-Some.saved c.in-Some.ensures.items c.self.invariant).0

pub returns-in-Some : goal.returns-in-Some
returns-in-Some c =
    let old = c.self.inside.opens in
    let new = c.undo_from.new.opens in
    let l = c.pop.new.self.items in
    let m = c.in-Some.saved in
    let back : c.args.self.now.marks ≡ map (kept_at new) l ++ record { opened = shown new.slots; found = m.found } ∷ [] =
    sym (ap (λ s. s.marks) c.self.view_is) ∙ ap (map (kept_at old)) c.in-Some.ensures.items
    ∙ taken_back old new l m c.undo_from.ensures.back c.undo_from.ensures.steps (rising_newest (length old.steps.items) c.self.inside.marks.items l m c.in-Some.ensures.items c.self.invariant).0 in
    search (rules, back)
