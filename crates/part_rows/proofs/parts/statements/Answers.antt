use Rattle.std.proofs.Common.{sym, ◌∙◌, refl, rules}
use Rattle.script_grammar.proofs.Along.{row, gives, peeks, peeks_end, fails_level, yes, no}
use Rattle.part_rows.proofs.Turns.{again_statements, at_last}
use Rattle.part_rows.proofs.Hungry.{statement_shorter}
use Rattle.part_rows.proofs.parts.statements.Goals as goal

pub returns-in-Err-clause-meets : goal.returns-in-Err-clause-meets
returns-in-Err-clause-meets g c not = c.loop-token.invariant.so_far.stops _ (row (peeks_end c.in-Err.ensures.0 c.in-Err.ensures.1))

pub returns-then-stops-clause-meets : goal.returns-then-stops-clause-meets
returns-then-stops-clause-meets g c = at_last c.loop-token.invariant.so_far refl (row (peeks c.in-Ok.ensures (yes _ (sym c.stops.ensures ∙ c.if-stops.true) (gives refl refl))))

pub returns-in-Err-one-clause-meets : goal.returns-in-Err-one-clause-meets
returns-in-Err-one-clause-meets g c not = c.loop-token.invariant.so_far.stops _ (row (peeks c.in-Ok.ensures (no _ (sym c.stops.ensures ∙ c.if-stops.false) (fails_level (c.in-Err-one.ensures.meets not)))))

pub loop-token-smaller : goal.loop-token-smaller
loop-token-smaller g c = statement_shorter c.in-Ok-one.ensures.meets

pub loop-token-preserved : goal.loop-token-preserved
loop-token-preserved g c = record {
  so_far = again_statements c.loop-token.invariant.so_far c.in-Ok.ensures (sym c.stops.ensures ∙ c.if-stops.false) c.in-Ok-one.ensures.meets _ _ c.in_ok-all-in-Ok-one.ensures (search rules);
  small = search rules;
}
