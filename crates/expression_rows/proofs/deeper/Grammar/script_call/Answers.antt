use Rattle.std.proofs.Common.{◌∷◌, refl, ap, ◌∙◌, arith}
use Rattle.script_grammar.specs.declared.classes.Head.TheVariants as head
use Rattle.script_grammar.specs.Grammar.{primary_by, plain}
use Rattle.script_grammar.specs.Rules.Symbol.{Primary}
use Rattle.script_grammar.proofs.Along.{row, gives, rises, sinks, passes, fails, expects, misses, handed}
use Rattle.expression_rows.proofs.deeper.Grammar.script_call.Goals as goal

pub returns-then-base-eq-LIMIT-clause-after : goal.returns-then-base-eq-LIMIT-clause-after
returns-then-base-eq-LIMIT-clause-after g c t live _ = row (sinks live refl (omega arith))

pub returns-in_err-rest-clause-after : goal.returns-in_err-rest-clause-after
returns-in_err-rest-clause-after g c t live = handed Primary c.args.base (primary_by (head.One c.args.word)) (t ∷ c.args.rest.now) c.from_residual.result c.from_residual.ensures.1 (λ not. rises live refl (omega arith) (misses _ _ c.in_err-rest.ensures))

pub returns-in_err-argument-clause-after : goal.returns-in_err-argument-clause-after
returns-in_err-argument-clause-after g c t live = handed Primary c.args.base (primary_by (head.One c.args.word)) (t ∷ c.args.rest.now) c.from_residual-in_err-argument.result c.from_residual-in_err-argument.ensures.1 (λ not. rises live refl (omega arith) (expects c.in_ok-rest.ensures (fails (c.in_err-argument.ensures.meets not))))

pub returns-in_ok-called-in-Ok-clause-after : goal.returns-in_ok-called-in-Ok-clause-after
returns-in_ok-called-in-Ok-clause-after g c t live = row (rises live refl (omega arith) (expects c.in_ok-rest.ensures (passes c.in_ok-argument.ensures.meets (expects c.in-Ok.ensures (gives (c.plain-made.ensures ∙ ap plain c.in_ok-called-in-Ok.ensures) (omega arith))))))

pub returns-in-Err-clause-after : goal.returns-in-Err-clause-after
returns-in-Err-clause-after g c t live _ = row (rises live refl (omega arith) (expects c.in_ok-rest.ensures (passes c.in_ok-argument.ensures.meets (misses _ _ c.in-Err.ensures))))
