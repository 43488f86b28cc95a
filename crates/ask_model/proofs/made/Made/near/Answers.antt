use Rattle.std.proofs.Common.{rules, ◌≡◌, true, sym, ap, ◌∙◌}
use Rattle.std.specs.List.{slice_get}
use Rattle.turk_base.specs.Trace.{at, below}
use Rattle.ask_model.specs.Made.{comes_after_entry}
use Rattle.ask_model.proofs.Orders.{alone}
use Rattle.ask_model.proofs.made.Made.near.Goals as goal

pub returns-then-is_after-clause-at : goal.returns-then-is_after-clause-at
returns-then-is_after-clause-at c =
    let p = c.args.path.now in
    let es = c.self.inside.entries.items in
    let greatest = slice_get es c.self.inside.greatest in
    let after : comes_after_entry p greatest ≡ true = search rules in
    sym ((alone p greatest es c.self.invariant after).0) ∙ ap (λ made. at made.items p) c.self.view_is

pub returns-then-is_after-clause-below : goal.returns-then-is_after-clause-below
returns-then-is_after-clause-below c =
    let p = c.args.path.now in
    let es = c.self.inside.entries.items in
    let greatest = slice_get es c.self.inside.greatest in
    let after : comes_after_entry p greatest ≡ true = search rules in
    sym ((alone p greatest es c.self.invariant after).1) ∙ ap (λ made. below made.items p) c.self.view_is
