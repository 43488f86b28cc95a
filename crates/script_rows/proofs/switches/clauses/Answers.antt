use Rattle.std.proofs.Common.{rules, refl}
use Rattle.part_rows.proofs.Turns.{at_last}
use Rattle.script_rows.proofs.Members.{again_clauses, fits}
use Rattle.script_rows.proofs.switches.clauses.Goals as goal

pub returns-in-Ok-None-clause-meets : goal.returns-in-Ok-None-clause-meets
returns-in-Ok-None-clause-meets g c = at_last c.loop-case.invariant.so_far refl ((rw c.in-Ok-None.field-0-is at c.in-Ok-None.ensures.takes).row _)

pub returns-in-Err-clause-meets : goal.returns-in-Err-clause-meets
returns-in-Err-clause-meets g c not = c.loop-case.invariant.so_far.stops _ ((c.in-Err.ensures.takes not).row _)

pub loop-case-smaller : goal.loop-case-smaller
loop-case-smaller g c = (rw c.in-Ok-Some.field-0-is at c.in-Ok-Some.ensures.takes).shorter

pub loop-case-preserved : goal.loop-case-preserved
loop-case-preserved g c = record {
  so_far = again_clauses c.loop-case.invariant.so_far (rw c.in-Ok-Some.field-0-is at c.in-Ok-Some.ensures.takes) _ _ c.in_ok-all-in-Ok-Some.ensures (search rules);
  small = fits c.args.base c.loop-case.tall c.in-Ok-Some.height c.max-tall.result c.loop-case.invariant.small (rw c.in-Ok-Some.field-0-is at c.in-Ok-Some.ensures.small) (search rules);
}
