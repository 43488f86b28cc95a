use Rattle.std.proofs.Common.{◌∷◌, ◌+◌, refl, arith}
use Rattle.script_grammar.specs.declared.classes.Head.TheVariants as head
use Rattle.script_grammar.specs.Grammar.{primary_by, plain}
use Rattle.script_grammar.specs.Rules.Symbol.{Primary}
use Rattle.script_grammar.specs.Rules.Rule.{give}
use Rattle.script_grammar.proofs.Along.{row, gives, eats, fails, handed}
use Rattle.expression_rows.proofs.deeper.Grammar.parenthesis.Goals as goal

pub returns-then-base-eq-LIMIT-clause-after : goal.returns-then-base-eq-LIMIT-clause-after
returns-then-base-eq-LIMIT-clause-after g c t live not = row (eats live refl (fails (c.beyond.ensures not (c.args.base + 1) (omega arith))))

pub returns-in_err-inner-clause-after : goal.returns-in_err-inner-clause-after
returns-in_err-inner-clause-after g c t live = handed Primary c.args.base (primary_by head.Parenthesis) (t ∷ c.args.rest.now) c.from_residual.result c.from_residual.ensures.1 (λ not. eats live refl ((c.in_err-inner.ensures.row not).row _ _ (λ v _. give (plain v.expr))))

pub returns-clause-after : goal.returns-clause-after
returns-clause-after g c t live = row (eats live refl (c.in_ok-inner.ensures.row.row _ _ (λ v _. give (plain v.expr)) _ (gives c.plain.ensures (omega arith))))
