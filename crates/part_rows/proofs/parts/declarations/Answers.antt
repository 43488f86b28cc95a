use Rattle.std.proofs.Common.{sym, ◌∙◌, rules}
use Rattle.script_grammar.proofs.Along.{row, peeks_end}
use Rattle.part_rows.proofs.Turns.{next_variable, again_variables, last_variables, smaller_variables}
use Rattle.part_rows.proofs.parts.declarations.Goals as goal

pub returns-in-Err-clause-meets : goal.returns-in-Err-clause-meets
returns-in-Err-clause-meets g c not = c.loop-one.invariant.so_far.stops _ (row ((c.in-Err.ensures.takes not).row _ 0 (next_variable c.args.no_in c.loop-one.all)))

pub returns-in-Err-first-clause-meets : goal.returns-in-Err-first-clause-meets
returns-in-Err-first-clause-meets g c not = c.loop-one.invariant.so_far.stops _ (row (c.in-Ok.ensures.takes.row _ 0 (next_variable c.args.no_in c.loop-one.all) _ (peeks_end c.in-Err-first.ensures.0 c.in-Err-first.ensures.1)))

pub returns-then-not-is-clause-meets : goal.returns-then-not-is-clause-meets
returns-then-not-is-clause-meets g c = last_variables c.loop-one.invariant.so_far c.in-Ok.ensures.takes c.in-Ok-first.ensures (sym c.is.ensures ∙ c.if-not-is.true) _ _ c.in_ok-all-in-Ok.ensures (search rules)

pub loop-one-smaller : goal.loop-one-smaller
loop-one-smaller g c = smaller_variables c.loop-one.invariant.so_far c.in-Ok.ensures.takes c.in-Ok-first.ensures

pub loop-one-preserved : goal.loop-one-preserved
loop-one-preserved g c = record {
  so_far = again_variables c.loop-one.invariant.so_far c.in-Ok.ensures.takes c.in-Ok-first.ensures (sym c.is.ensures ∙ c.if-not-is.false) _ _ c.in_ok-all-in-Ok.ensures (search rules);
  small = search rules;
}
