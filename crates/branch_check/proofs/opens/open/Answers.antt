use Rattle.std.proofs.Common.{◌≡◌, ap, sym, ◌∙◌, [], ◌∷◌, None, rules}
use Rattle.std.specs.Map.{lookup, set_value}
use Rattle.branch_check.specs.declared.Step.TheVariants.{Replaced}
use Rattle.branch_check.specs.Numbers.{same_slot, open_slot}
use Rattle.branch_check.proofs.Pairs.{set_undone, opened_last, opened_there}
use Rattle.branch_check.proofs.opens.open.Goals as goal

pub returns-then-is_none-clause-ok : goal.returns-then-is_none-clause-ok
returns-then-is_none-clause-ok c =
    let none : lookup (same_slot c.args.slot) c.args.opens.now.slots ≡ None = search rules in
    rw (opened_last c.args.slot c.args.by c.args.opens.now.slots none) c.add.ensures.ok

pub returns-in-Some-clause-ok : goal.returns-in-Some-clause-ok
returns-in-Some-clause-ok c = c.set.ensures.new ∙ sym (opened_there c.args.slot c.args.by c.in-Some.by c.args.opens.now.slots (sym c.in-Some.ensures.old))

pub returns-in-Some-clause-back : goal.returns-in-Some-clause-back
returns-in-Some-clause-back c = λ noted. record {
  more = Replaced (open_slot c.args.slot c.in-Some.by) ∷ [];
  steps = c.note_step.ensures noted;
  back = ap (λ es. set_value (same_slot c.args.slot) es c.in-Some.by) c.set.ensures.new ∙ set_undone (same_slot c.args.slot) c.args.opens.now.slots c.in-Some.by c.args.by (sym c.in-Some.ensures.old);
}
