use Rattle.std.proofs.Common.{arith, ap, length}
use Rattle.trace_journal.proofs.Opening.{place_small}
use Rattle.trace_journal.proofs.open.same_head.Goals as goal

pub overflow_cast-result : goal.overflow_cast-result
overflow_cast-result c = omega (arith, place_small c.as_slice-script.result.now c.as_slice-then-ne-2.result.now c.first_difference-place.result c.first_difference-place.ensures (omega (arith, ap length c.as_slice-script.ensures, c.requires.script)))
