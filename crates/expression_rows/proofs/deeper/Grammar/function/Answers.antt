use Rattle.std.proofs.Common.{Some, None, ◌∷◌, refl, ap, sym, ◌∙◌, arith}
use Rattle.script_grammar.specs.declared.classes.Head.TheVariants as head
use Rattle.script_grammar.specs.Exprs as e
use Rattle.script_grammar.specs.Grammar.{primary_by, plain, function}
use Rattle.script_grammar.specs.Rules.Symbol.{Primary}
use Rattle.script_grammar.specs.Rules.Rule.{give}
use Rattle.script_grammar.proofs.Along.{row, gives, peeks, peeks_end, unpeeks, rises, sinks, yes, no, handed}
use Rattle.expression_rows.proofs.deeper.Grammar.function.Goals as goal

pub returns-then-base-eq-LIMIT-clause-after : goal.returns-then-base-eq-LIMIT-clause-after
returns-then-base-eq-LIMIT-clause-after g c t live _ = row (sinks live refl (omega arith))

pub returns-in_err-token-clause-after : goal.returns-in_err-token-clause-after
returns-in_err-token-clause-after g c t live = handed Primary c.args.base (primary_by head.Function) (t ∷ c.args.rest.now) c.from_residual.result c.from_residual.ensures.1 (λ not. rises live refl (omega arith) (peeks_end c.in_err-token.ensures.0 c.in_err-token.ensures.1))

pub returns-in_err-names-clause-after : goal.returns-in_err-names-clause-after
returns-in_err-names-clause-after g c t live = let q = sym c.is.ensures ∙ c.if-is.true in handed Primary c.args.base (primary_by head.Function) (t ∷ c.args.rest.now) c.from_residual-in_err-names.result c.from_residual-in_err-names.ensures.1 (λ not. rises live refl (omega arith) (peeks c.in_ok-token.ensures (yes _ q ((c.in_err-names.ensures.row not).row _ _ (λ names body. give (plain (e.Function None names body)))))))

pub returns-then-is-clause-after : goal.returns-then-is-clause-after
returns-then-is-clause-after g c t live = let q = sym c.is.ensures ∙ c.if-is.true in row (rises live refl (omega arith) (peeks c.in_ok-token.ensures (yes _ q (c.in_ok-names.ensures.row.row _ _ (λ names body. give (plain (e.Function None names body))) _ (gives (c.plain.ensures ∙ ap plain c.function.ensures) (omega (arith, c.in_ok-names.ensures.high)))))))

pub returns-in_err-own-clause-after : goal.returns-in_err-own-clause-after
returns-in_err-own-clause-after g c t live = let q = sym c.is.ensures ∙ c.if-is.false in handed Primary c.args.base (primary_by head.Function) (t ∷ c.args.rest.now) c.from_residual-in_err-own.result c.from_residual-in_err-own.ensures.1 (λ not. rises live refl (omega arith) (peeks c.in_ok-token.ensures (no _ q (unpeeks c.in_ok-token.ensures ((c.in_err-own.ensures not).row _ c.args.base _ (λ units. function (λ names body. give (plain (e.Function (Some units) names body)))))))))

pub returns-in_err-names-2-clause-after : goal.returns-in_err-names-2-clause-after
returns-in_err-names-2-clause-after g c t live = let q = sym c.is.ensures ∙ c.if-is.false in handed Primary c.args.base (primary_by head.Function) (t ∷ c.args.rest.now) c.from_residual-in_err-names-2.result c.from_residual-in_err-names-2.ensures.1 (λ not. rises live refl (omega arith) (peeks c.in_ok-token.ensures (no _ q (unpeeks c.in_ok-token.ensures (c.in_ok-own.ensures.row _ c.args.base _ (λ units. function (λ names body. give (plain (e.Function (Some units) names body)))) _ ((c.in_err-names-2.ensures.row not).row _ _ (λ names body. give (plain (e.Function (Some c.in_ok-own.own) names body)))))))))

pub returns-clause-after : goal.returns-clause-after
returns-clause-after g c t live = let q = sym c.is.ensures ∙ c.if-is.false in row (rises live refl (omega arith) (peeks c.in_ok-token.ensures (no _ q (unpeeks c.in_ok-token.ensures (c.in_ok-own.ensures.row _ c.args.base _ (λ units. function (λ names body. give (plain (e.Function (Some units) names body)))) _ (c.in_ok-names-2.ensures.row.row _ _ (λ names body. give (plain (e.Function (Some c.in_ok-own.own) names body))) _ (gives (c.plain-2.ensures ∙ ap plain c.function-2.ensures) (omega (arith, c.in_ok-names-2.ensures.high)))))))))
