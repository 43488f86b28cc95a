use Rattle.std.proofs.Common.{◌∷◌, refl, ap, ◌∙◌, arith}
use Rattle.script_grammar.specs.declared.classes.Head.TheVariants as head
use Rattle.script_grammar.specs.Grammar.{primary_by, plain}
use Rattle.script_grammar.specs.Rules.Symbol.{Primary}
use Rattle.script_grammar.proofs.Along.{row, gives, rises, sinks, expects, misses, handed}
use Rattle.expression_rows.proofs.primary.alone.Goals as goal

pub returns-then-base-eq-LIMIT-clause-after : goal.returns-then-base-eq-LIMIT-clause-after
returns-then-base-eq-LIMIT-clause-after c t live _ = row (sinks live refl (omega arith))

pub returns-in_err-rest-clause-after : goal.returns-in_err-rest-clause-after
returns-in_err-rest-clause-after c t live = handed Primary c.args.base (primary_by (head.Zero c.args.word)) (t ∷ c.args.rest.now) c.from_residual.result c.from_residual.ensures.1 (λ not. rises live refl (omega arith) (misses _ _ c.in_err-rest.ensures))

pub returns-in_err-rest-2-clause-after : goal.returns-in_err-rest-2-clause-after
returns-in_err-rest-2-clause-after c t live = handed Primary c.args.base (primary_by (head.Zero c.args.word)) (t ∷ c.args.rest.now) c.from_residual-in_err-rest-2.result c.from_residual-in_err-rest-2.ensures.1 (λ not. rises live refl (omega arith) (expects c.in_ok-rest.ensures (misses _ _ c.in_err-rest-2.ensures)))

pub returns-clause-after : goal.returns-clause-after
returns-clause-after c t live = row (rises live refl (omega arith) (expects c.in_ok-rest.ensures (expects c.in_ok-rest-2.ensures (gives (c.plain.ensures ∙ ap plain c.called_alone.ensures) (omega arith)))))
