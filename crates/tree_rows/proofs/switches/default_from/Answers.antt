use Rattle.js_tree.specs.Statements.{default_of}
use Rattle.std.proofs.Common.{ap, arith, refl, sym, ◌∙◌}
use Rattle.tree_rows.proofs.Clauses.{default_here, default_next, default_none, first_and_rest, none_left, others_of}
use Rattle.tree_rows.proofs.switches.default_from.Goals as goal

pub loop-rest-init : goal.loop-rest-init
loop-rest-init c = λ table expr stmt here. refl

pub returns-in-empty : goal.returns-in-empty
returns-in-empty c = λ table expr stmt here. c.loop-rest.invariant table expr stmt here ∙ default_none table expr stmt here (none_left _ (omega arith))

pub returns-in-None : goal.returns-in-None
returns-in-None c = λ table expr stmt here. c.loop-rest.invariant table expr stmt here ∙ default_here table expr stmt here (first_and_rest _ _ (omega arith) c.case-item.is) c.in-None.is

pub loop-rest-preserved : goal.loop-rest-preserved
loop-rest-preserved c = λ table expr stmt here. c.loop-rest.invariant table expr stmt here ∙ default_next table expr stmt here (first_and_rest _ _ (omega arith) c.case-item.is) c.in-Some.is ∙ ap (default_of table expr stmt here) (sym (others_of c.loop-rest.rest.now))
