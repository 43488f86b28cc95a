use Rattle.std.proofs.Common.{◌≡◌, sym, ◌∙◌, true, false}
use Rattle.turk_base.specs.Trace.{begins}
use Rattle.branch_check.proofs.Pairs.{first_here, first_later}
use Rattle.branch_check.proofs.opens.first.Goals as goal

pub returns-then-not-begins : goal.returns-then-not-begins
returns-then-not-begins c =
    let t : begins c.in-Some.path.now c.args.by.now ≡ false = sym c.begins.ensures ∙ c.if-not-begins.true in
    first_here c.args.by.now c.args.slots.now c.loop-place.place (c.in-Some.slot.now, c.in-Some.path.now) (sym c.in-Some.ensures.pair) c.loop-place.invariant t

pub loop-place-preserved : goal.loop-place-preserved
loop-place-preserved c =
    let t : begins c.in-Some.path.now c.args.by.now ≡ true = sym c.begins.ensures ∙ c.if-not-begins.false in
    first_later c.args.by.now c.args.slots.now c.loop-place.place (c.in-Some.slot.now, c.in-Some.path.now) (sym c.in-Some.ensures.pair) c.loop-place.invariant t
