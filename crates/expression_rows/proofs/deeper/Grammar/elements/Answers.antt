use Rattle.std.proofs.Common.{rules}
use Rattle.script_grammar.proofs.Along.{row}
use Rattle.script_grammar.proofs.Repeated.{again_items, last_items}
use Rattle.expression_rows.proofs.deeper.Grammar.elements.Goals as goal

pub returns-in-Err-clause-meets : goal.returns-in-Err-clause-meets
returns-in-Err-clause-meets g c not = c.loop-one.invariant.so_far.stops _ (row ((c.in-Err.ensures.item not).row _ 0))

pub returns-then-not-more-clause-meets : goal.returns-then-not-more-clause-meets
returns-then-not-more-clause-meets g c = last_items c.loop-one.invariant.so_far c.in-Ok.ensures.item c.if-not-more.true _ _ c.in_ok-all-in-Ok.ensures (search rules)

pub loop-one-smaller : goal.loop-one-smaller
loop-one-smaller g c = c.in-Ok.ensures.item.shorter c.if-not-more.false

pub loop-one-preserved : goal.loop-one-preserved
loop-one-preserved g c = record {
  so_far = again_items c.loop-one.invariant.so_far c.in-Ok.ensures.item c.if-not-more.false _ _ c.in_ok-all-in-Ok.ensures (search rules);
  small = search rules;
}
