use Rattle.std.proofs.Common.{ap, ◌∙◌, [], ◌∷◌}
use Rattle.std.specs.Map.{remove_entry}
use Rattle.branch_check.specs.declared.Step.TheVariants.{Added}
use Rattle.branch_check.specs.Numbers.{same_slot}
use Rattle.branch_check.proofs.Pairs.{add_undone, same_self}
use Rattle.branch_check.proofs.opens.add.Goals as goal

pub returns-clause-back : goal.returns-clause-back
returns-clause-back c = λ noted. record {
  more = Added c.args.slot ∷ [];
  steps = c.note_step.ensures noted;
  back = ap (remove_entry (same_slot c.args.slot)) c.in_ok-add_last.ensures.ok ∙ add_undone (same_slot c.args.slot) c.args.opens.now.slots c.args.slot c.args.by (same_self c.args.slot) c.requires.closed;
}
