use Rattle.std.proofs.Common.{◌≡◌, ap, sym, ◌∙◌, Some, None, not}
use Rattle.std.specs.Map.{lookup}
use Rattle.branch_check.specs.Numbers.{same_slot}
use Rattle.branch_check.proofs.Pairs.{meets, met_looked_up}
use Rattle.branch_check.proofs.opens.is_met.Goals as goal

pub returns-in-Some : goal.returns-in-Some
returns-in-Some c =
    let at : Some c.in-Some.path.now ≡ lookup (same_slot c.args.slot) c.args.slots.now = c.in-Some.ensures in
    ap not c.begins.ensures ∙ ap (meets c.args.by.now) at ∙ sym (met_looked_up c.args.by.now c.args.slot c.args.slots.now c.len.ensures.distinct)

pub returns-in-None : goal.returns-in-None
returns-in-None c =
    let at : None ≡ lookup (same_slot c.args.slot) c.args.slots.now = c.in-None.ensures in
    ap (meets c.args.by.now) at ∙ sym (met_looked_up c.args.by.now c.args.slot c.args.slots.now c.len.ensures.distinct)
