use Rattle.std.proofs.Common.{◌≡◌, refl, ap, sym, ◌∙◌, true, false}
use Rattle.branch_check.specs.Numbers.{met}
use Rattle.branch_check.proofs.Rules.{kept, after_touch_is, no_reason}
use Rattle.branch_check.proofs.Monitor.touch.Goals as goal

pub returns-then-is_met-clause-now : goal.returns-then-is_met-clause-now
returns-then-is_met-clause-now c =
    let es = c.self.inside.opens.slots in
    let t : met c.args.by.now c.args.slot es ≡ true = sym c.is_met.ensures ∙ c.if-is_met.true in
    after_touch_is es c.self.inside.found c.args.self.now.current (ap (λ s. s.current) c.self.view_is) c.args.by.now c.args.slot c.note.new.found (rw t c.note.ensures)

pub returns-else-is_met-clause-now : goal.returns-else-is_met-clause-now
returns-else-is_met-clause-now c =
    let es = c.self.inside.opens.slots in
    let f = c.self.inside.found in
    let t : met c.args.by.now c.args.slot es ≡ false = sym c.is_met.ensures ∙ c.if-is_met.false in
    rw (← ap (λ s. s.current) c.self.view_is) (after_touch_is es f (kept es f) refl c.args.by.now c.args.slot f (rw t (no_reason f)))
