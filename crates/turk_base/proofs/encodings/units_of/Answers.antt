use Rattle.turk_base.proofs.Characters.{begin, go_on, finish}
use Rattle.turk_base.proofs.encodings.units_of.Goals as goal

pub loop-c-init : goal.loop-c-init
loop-c-init c = begin _ _ _ c.new-units.ensures c.chars-chars.ensures.rest

pub loop-c-preserved : goal.loop-c-preserved
loop-c-preserved c =
    go_on _ _ _ _ _ c.in-Some.c c.loop-c.invariant c.push_char.ensures.scalar c.in-Some.ensures.steps.0 c.in_ok-push_char.ensures.units

pub returns : goal.returns
returns c = finish _ _ _ c.loop-c.invariant c.in_default.ensures.steps.0.0
