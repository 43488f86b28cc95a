use Rattle.std.proofs.Common.{◌∷◌, refl, ap, ◌∙◌, arith}
use Rattle.script_grammar.specs.declared.classes.Head.TheVariants as head
use Rattle.script_grammar.specs.Exprs as e
use Rattle.script_grammar.specs.Grammar.{primary_by, plain}
use Rattle.script_grammar.specs.Rules.Symbol.{Primary}
use Rattle.script_grammar.specs.Rules.Rule.{give}
use Rattle.script_grammar.proofs.Along.{row, gives, rises, sinks, expects, misses, handed}
use Rattle.expression_rows.proofs.deeper.Grammar.print.Goals as goal

pub returns-then-base-eq-LIMIT-clause-after : goal.returns-then-base-eq-LIMIT-clause-after
returns-then-base-eq-LIMIT-clause-after g c t live _ = row (sinks live refl (omega arith))

pub returns-in_err-rest-clause-after : goal.returns-in_err-rest-clause-after
returns-in_err-rest-clause-after g c t live = handed Primary c.args.base (primary_by head.Many) (t ∷ c.args.rest.now) c.from_residual.result c.from_residual.ensures.1 (λ not. rises live refl (omega arith) (misses _ _ c.in_err-rest.ensures))

pub returns-in_err-all-clause-after : goal.returns-in_err-all-clause-after
returns-in_err-all-clause-after g c t live = handed Primary c.args.base (primary_by head.Many) (t ∷ c.args.rest.now) c.from_residual-in_err-all.result c.from_residual-in_err-all.ensures.1 (λ not. rises live refl (omega arith) (expects c.in_ok-rest.ensures ((c.in_err-all.ensures.row not).row _ _ (λ all _. give (plain (e.Print all))))))

pub returns-clause-after : goal.returns-clause-after
returns-clause-after g c t live = row (rises live refl (omega arith) (expects c.in_ok-rest.ensures (c.in_ok-all.ensures.row.row _ _ (λ all _. give (plain (e.Print all))) _ (omega arith) (gives (c.plain.ensures ∙ ap plain c.print.ensures) (omega arith)))))
