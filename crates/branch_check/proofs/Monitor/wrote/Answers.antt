use Rattle.std.proofs.Common.{◌≡◌, ap, sym, ◌∙◌, true, false, not}
use Rattle.std.specs.Prelude.{if◌then◌else◌, ◌==◌}
use Rattle.turk_base.specs.Trace.{begins}
use Rattle.branch_check.specs.Numbers.{met, opened}
use Rattle.branch_check.proofs.Marks.{noted_marks, noted_rising}
use Rattle.branch_check.proofs.Rules.{after_write_is, no_reason}
use Rattle.branch_check.proofs.Monitor.wrote.Goals as goal

pub invariant_of-self : goal.invariant_of-self
invariant_of-self c = noted_rising c.self.inside.opens c.open_outside.new.opens (not c.is_empty-noted.result) c.open_outside.ensures.back c.self.inside.marks.items (ap not c.is_empty-noted.ensures ∙ ap (λ n. not (n == 0)) c.self.inside.marks.ok.0) c.self.invariant

pub invariant_of-self-then-met : goal.invariant_of-self-then-met
invariant_of-self-then-met c = noted_rising c.self.inside.opens c.open_outside.new.opens (not c.is_empty-noted.result) c.open_outside.ensures.back c.self.inside.marks.items (ap not c.is_empty-noted.ensures ∙ ap (λ n. not (n == 0)) c.self.inside.marks.ok.0) c.self.invariant

pub invariant_of-self-else-met : goal.invariant_of-self-else-met
invariant_of-self-else-met c = noted_rising c.self.inside.opens c.open_outside.new.opens (not c.is_empty-noted.result) c.open_outside.ensures.back c.self.inside.marks.items (ap not c.is_empty-noted.ensures ∙ ap (λ n. not (n == 0)) c.self.inside.marks.ok.0) c.self.invariant

pub returns-in_err-open_outside-clause-marks : goal.returns-in_err-open_outside-clause-marks
returns-in_err-open_outside-clause-marks c =
    noted_marks c.self.inside.opens c.open_outside.new.opens (not c.is_empty-noted.result) c.open_outside.ensures.back c.self.inside.marks.items (ap not c.is_empty-noted.ensures ∙ ap (λ n. not (n == 0)) c.self.inside.marks.ok.0) c.self.invariant
    ∙ ap (λ s. s.marks) c.self.view_is

pub returns-then-met-clause-marks : goal.returns-then-met-clause-marks
returns-then-met-clause-marks c =
    noted_marks c.self.inside.opens c.open_outside.new.opens (not c.is_empty-noted.result) c.open_outside.ensures.back c.self.inside.marks.items (ap not c.is_empty-noted.ensures ∙ ap (λ n. not (n == 0)) c.self.inside.marks.ok.0) c.self.invariant
    ∙ ap (λ s. s.marks) c.self.view_is

pub returns-else-met-clause-marks : goal.returns-else-met-clause-marks
returns-else-met-clause-marks c =
    noted_marks c.self.inside.opens c.open_outside.new.opens (not c.is_empty-noted.result) c.open_outside.ensures.back c.self.inside.marks.items (ap not c.is_empty-noted.ensures ∙ ap (λ n. not (n == 0)) c.self.inside.marks.ok.0) c.self.invariant
    ∙ ap (λ s. s.marks) c.self.view_is

pub returns-then-met-clause-ok : goal.returns-then-met-clause-ok
returns-then-met-clause-ok c =
    let es = c.self.inside.opens.slots in
    let t : met c.args.by.now c.args.slot es ≡ true = sym c.is_met-met.ensures ∙ c.if-met.true in
    let o : c.open_outside.new.opens.slots ≡ (if begins c.args.by.now c.args.maker.now then es else opened c.args.slot c.args.by.now es) = c.in_ok-open_outside.ensures.ok in
    after_write_is es c.self.inside.found c.args.self.now.current (ap (λ s. s.current) c.self.view_is) c.args.by.now c.args.maker.now c.args.slot c.open_outside.new.opens.slots c.note.new.found o (rw t c.note.ensures)

pub returns-else-met-clause-ok : goal.returns-else-met-clause-ok
returns-else-met-clause-ok c =
    let es = c.self.inside.opens.slots in
    let t : met c.args.by.now c.args.slot es ≡ false = sym c.is_met-met.ensures ∙ c.if-met.false in
    let o : c.open_outside.new.opens.slots ≡ (if begins c.args.by.now c.args.maker.now then es else opened c.args.slot c.args.by.now es) = c.in_ok-open_outside.ensures.ok in
    after_write_is es c.self.inside.found c.args.self.now.current (ap (λ s. s.current) c.self.view_is) c.args.by.now c.args.maker.now c.args.slot c.open_outside.new.opens.slots c.self.inside.found o (rw t (no_reason c.self.inside.found))
