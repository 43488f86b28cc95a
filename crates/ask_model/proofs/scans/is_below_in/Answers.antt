use Rattle.std.proofs.Common.{◌≡◌, ◌∙◌, sym, ap, ◌||◌, true, false}
use Rattle.turk_base.specs.Trace.{below}
use Rattle.ask_model.proofs.Finds.{below_both}
use Rattle.ask_model.proofs.scans.is_below_in.Goals as goal

pub returns-then-is_below : goal.returns-then-is_below
returns-then-is_below c =
    let l = c.args.trace.now in
    let m = c.args.made.now in
    let p = c.args.path.now in
    let low : below l p ≡ true = sym c.is_below.ensures ∙ c.if-is_below.true in
    c.if-is_below.true ∙ sym (below_both l m p ∙ ap (λ b. b || below m p) low)

pub returns-else-is_below : goal.returns-else-is_below
returns-else-is_below c =
    let l = c.args.trace.now in
    let m = c.args.made.now in
    let p = c.args.path.now in
    let low : below l p ≡ false = sym c.is_below.ensures ∙ c.if-is_below.false in
    c.is_below-else-is_below.ensures ∙ sym (below_both l m p ∙ ap (λ b. b || below m p) low)
