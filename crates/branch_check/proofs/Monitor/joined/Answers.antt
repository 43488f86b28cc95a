use Rattle.std.proofs.Common.{ap, ◌∙◌, not}
use Rattle.std.specs.Prelude.{◌==◌}
use Rattle.branch_check.proofs.Marks.{noted_marks, noted_rising, on_ok}
use Rattle.branch_check.proofs.Rules.{after_join_is}
use Rattle.branch_check.proofs.Monitor.joined.Goals as goal

pub invariant_of-self : goal.invariant_of-self
invariant_of-self c =
    noted_rising c.self.inside.opens c.join.new.opens (not c.is_empty-noted.result) c.join.ensures.back c.self.inside.marks.items (ap not c.is_empty-noted.ensures ∙ ap (λ n. not (n == 0)) c.self.inside.marks.ok.0) c.self.invariant

pub returns-clause-marks : goal.returns-clause-marks
returns-clause-marks c =
    noted_marks c.self.inside.opens c.join.new.opens (not c.is_empty-noted.result) c.join.ensures.back c.self.inside.marks.items (ap not c.is_empty-noted.ensures ∙ ap (λ n. not (n == 0)) c.self.inside.marks.ok.0) c.self.invariant
    ∙ ap (λ s. s.marks) c.self.view_is

pub returns-clause-ok : goal.returns-clause-ok
returns-clause-ok c =
    on_ok c.join.result (after_join_is c.self.inside.opens.slots c.self.inside.found c.args.self.now.current (ap (λ s. s.current) c.self.view_is) c.args.scope.now c.join.new.opens.slots) c.join.ensures.ok
