use Rattle.std.proofs.Common.{◌∷◌, refl, ap, sym, ◌∙◌, arith}
use Rattle.script_grammar.specs.Grammar.{plain, unary_by}
use Rattle.script_grammar.specs.Rules.Symbol.{Unary}
use Rattle.script_grammar.specs.declared.classes.Prefix.TheVariants as prefix
use Rattle.script_grammar.proofs.Along.{row, gives, refuses, rises, sinks, yes, no, passes, fails, handed}
use Rattle.expression_rows.proofs.Unaries.{refuses_end}
use Rattle.expression_rows.proofs.deeper.Grammar.update.Goals as goal

pub returns-then-base-eq-LIMIT-clause-after : goal.returns-then-base-eq-LIMIT-clause-after
returns-then-base-eq-LIMIT-clause-after g c t live _ = row (sinks live refl (omega arith))

pub returns-in_err-operand-clause-after : goal.returns-in_err-operand-clause-after
returns-in_err-operand-clause-after g c t live = handed Unary c.args.base (unary_by (prefix.Update c.args.step)) (t ∷ c.args.rest.now) c.from_residual.result c.from_residual.ensures.1 (λ not. rises live refl (omega arith) (fails (c.in_err-operand.ensures.meets not)))

pub returns-then-operand-clause-after : goal.returns-then-operand-clause-after
returns-then-operand-clause-after g c t live = row (rises live refl (omega arith) (passes c.in_ok-operand.ensures.meets (yes _ c.if-operand.true (gives (c.plain.ensures ∙ ap plain c.in_ok-made.ensures) (omega arith)))))

pub returns-in_err-token-clause-after : goal.returns-in_err-token-clause-after
returns-in_err-token-clause-after g c t live = handed Unary c.args.base (unary_by (prefix.Update c.args.step)) (t ∷ c.args.rest.now) c.from_residual-in_err-token.result c.from_residual-in_err-token.ensures.1
    (λ _. rises live refl (omega arith) (passes c.in_ok-operand.ensures.meets (no _ c.if-operand.false (refuses_end _ c.in_err-token.ensures.0 c.in_err-token.ensures.1))))

pub returns-clause-after : goal.returns-clause-after
returns-clause-after g c t live _ = row (rises live refl (omega arith) (passes c.in_ok-operand.ensures.meets (no _ c.if-operand.false (refuses c.in_ok-token.ensures c.refused.ensures))))
