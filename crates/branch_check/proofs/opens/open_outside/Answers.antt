use Rattle.std.proofs.Common.{◌≡◌, sym, ◌∙◌, false, Some}
use Rattle.std.specs.Map.{lookup}
use Rattle.turk_base.specs.Trace.{begins}
use Rattle.branch_check.specs.Numbers.{same_slot}
use Rattle.branch_check.proofs.Pairs.{opened_same}
use Rattle.branch_check.proofs.opens.open_outside.Goals as goal

pub returns-then-is_open_by-clause-ok : goal.returns-then-is_open_by-clause-ok
returns-then-is_open_by-clause-ok c =
    let outside : begins c.args.by.now c.args.maker.now ≡ false = sym c.begins.ensures ∙ c.if-begins.false in
    let there : lookup (same_slot c.args.slot) c.args.opens.now.slots ≡ Some c.args.by.now = c.is_open_by.ensures c.if-is_open_by.true in
    rw outside (sym (opened_same c.args.slot c.args.by.now c.args.opens.now.slots there))
