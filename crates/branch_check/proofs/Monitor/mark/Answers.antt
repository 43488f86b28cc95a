use Rattle.std.proofs.Common.{◌∙◌, is_ok, length}
use Rattle.branch_check.proofs.Marks.{rising_pushed}
use Rattle.branch_check.proofs.Monitor.mark.Goals as goal

pub invariant_of-self : goal.invariant_of-self
invariant_of-self c =
    rising_pushed (length c.self.inside.opens.steps.items) c.self.inside.marks.items c.push.new.self.items (record { steps = c.len.result; found = c.in_ok-copy_found.field-0 }) (is_ok c.push.result) c.push.ensures.items
    (c.len.ensures ∙ c.self.inside.opens.steps.ok.0) c.self.invariant
