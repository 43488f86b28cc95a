use Rattle.std.proofs.Common.{sym, ◌∙◌, rules, ◌≡◌, None, Some}
use Rattle.turk_base.specs.Trace.{at}
use Rattle.ask_model.proofs.Finds.{at_some, at_none}
use Rattle.ask_model.proofs.scans.record_in.Goals as goal

pub returns-in-Some : goal.returns-in-Some
returns-in-Some c =
    let found : at c.args.trace.now c.args.path.now ≡ Some c.in-Some.record.now = search rules in
    sym (at_some c.args.trace.now c.args.made.now c.args.path.now c.in-Some.record.now found)

pub returns-in-None : goal.returns-in-None
returns-in-None c =
    let none : at c.args.trace.now c.args.path.now ≡ None = search rules in
    c.record_at-in-None.ensures ∙ sym (at_none c.args.trace.now c.args.made.now c.args.path.now none)
