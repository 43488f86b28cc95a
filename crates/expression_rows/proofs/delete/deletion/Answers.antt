use Rattle.std.proofs.Common.{refl, ap, sym, ◌∙◌, arith}
use Rattle.script_grammar.specs.Grammar.{plain}
use Rattle.script_grammar.proofs.Along.{row, gives, refuses}
use Rattle.expression_rows.proofs.Unaries.{as_deleted, not_deleted}
use Rattle.expression_rows.proofs.Negations.{not_true, not_false}
use Rattle.expression_rows.proofs.delete.deletion.Goals as goal

pub returns-then-not-left-clause-end : goal.returns-then-not-left-clause-end
returns-then-not-left-clause-end c b h _ = row (not_deleted (not_true c.args.left.target c.if-not-left.true) (refuses c.requires.whole c.refused.ensures))

pub returns-in-Some-clause-end : goal.returns-in-Some-clause-end
returns-in-Some-clause-end c b h = row (as_deleted _ (not_false c.args.left.target c.if-not-left.false) c.in-Some.ensures (gives c.plain.ensures refl))

pub returns-in-None-clause-end : goal.returns-in-None-clause-end
returns-in-None-clause-end c b h _ = row (as_deleted _ (not_false c.args.left.target c.if-not-left.false) c.in-None.ensures (refuses c.requires.whole c.refused-in-None.ensures))
