use Rattle.std.proofs.Common.{sym, ◌∙◌}
use Rattle.builtin_calls.proofs.Places.{place_here}
use Rattle.builtin_calls.proofs.texts.place_from.Goals as goal

pub returns-then-begins : goal.returns-then-begins
returns-then-begins c = sym (place_here c.args.part.now c.loop-rest.rest.now c.loop-rest.at (sym c.begins.ensures ∙ c.if-begins.true)) ∙ c.loop-rest.invariant.same
