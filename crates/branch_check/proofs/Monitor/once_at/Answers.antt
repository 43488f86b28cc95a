use Rattle.std.proofs.Common.{◌≡◌, refl, ap, sym, ◌∙◌, Some, None}
use Rattle.branch_check.specs.Numbers.{first_met}
use Rattle.branch_check.proofs.Rules.{kept, after_once_is, no_reason}
use Rattle.branch_check.proofs.Monitor.once_at.Goals as goal

pub returns-in-None-clause-now : goal.returns-in-None-clause-now
returns-in-None-clause-now c =
    let es = c.self.inside.opens.slots in
    let f = c.self.inside.found in
    let t : first_met c.args.by.now es ≡ None = sym c.first.ensures ∙ c.in-None.is in
    rw (← ap (λ s. s.current) c.self.view_is) (after_once_is es f (kept es f) refl c.args.by.now f (rw t (no_reason f)))

pub returns-in-Some-clause-now : goal.returns-in-Some-clause-now
returns-in-Some-clause-now c =
    let es = c.self.inside.opens.slots in
    let t : first_met c.args.by.now es ≡ Some c.in-Some.slot = sym c.first.ensures ∙ c.in-Some.is in
    after_once_is es c.self.inside.found c.args.self.now.current (ap (λ s. s.current) c.self.view_is) c.args.by.now c.note.new.found (rw t c.note.ensures)
