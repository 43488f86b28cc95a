use Rattle.std.proofs.Common.{◌∷◌, refl, ap, sym, ◌∙◌, arith}
use Rattle.js_lexer.specs.declared.Mark.TheVariants as m
use Rattle.script_grammar.specs.declared.classes.Head.TheVariants as head
use Rattle.script_grammar.specs.Exprs as e
use Rattle.script_grammar.specs.Grammar.{primary_by, plain}
use Rattle.script_grammar.specs.Rules.Symbol.{Primary}
use Rattle.script_grammar.proofs.Along.{row, gives, peeks, peeks_end, eats, rises, sinks, yes, no, passes, fails, expects, misses, handed}
use Rattle.script_grammar.proofs.Tokens.{live_mark}
use Rattle.expression_rows.proofs.deeper.Grammar.object.Goals as goal

pub returns-then-base-eq-LIMIT-clause-after : goal.returns-then-base-eq-LIMIT-clause-after
returns-then-base-eq-LIMIT-clause-after g c t live _ = row (sinks live refl (omega arith))

pub returns-in_err-token-clause-after : goal.returns-in_err-token-clause-after
returns-in_err-token-clause-after g c t live = handed Primary c.args.base (primary_by head.Object) (t ∷ c.args.rest.now) c.from_residual.result c.from_residual.ensures.1 (λ not. rises live refl (omega arith) (peeks_end c.in_err-token.ensures.0 c.in_err-token.ensures.1))

pub returns-then-is-clause-after : goal.returns-then-is-clause-after
returns-then-is-clause-after g c t live = let q = sym c.is.ensures ∙ c.if-is.true in row (rises live refl (omega arith) (peeks c.in_ok-token.ensures (yes _ q (eats (live_mark m.CloseBrace _ q) c.in_ok-token.ensures (gives (c.plain.ensures ∙ ap plain (c.object.ensures ∙ ap e.Object c.new.ensures)) (omega arith))))))

pub returns-in_err-all-clause-after : goal.returns-in_err-all-clause-after
returns-in_err-all-clause-after g c t live = handed Primary c.args.base (primary_by head.Object) (t ∷ c.args.rest.now) c.from_residual-in_err-all.result c.from_residual-in_err-all.ensures.1 (λ not. rises live refl (omega arith) (peeks c.in_ok-token.ensures (no _ (sym c.is.ensures ∙ c.if-is.false) (fails (c.in_err-all.ensures.meets not)))))

pub returns-in-Ok-clause-after : goal.returns-in-Ok-clause-after
returns-in-Ok-clause-after g c t live = row (rises live refl (omega arith) (peeks c.in_ok-token.ensures (no _ (sym c.is.ensures ∙ c.if-is.false) (passes c.in_ok-all.ensures.meets (expects c.in-Ok.ensures (gives (c.plain-in-Ok.ensures ∙ ap plain c.object-in-Ok.ensures) (omega arith)))))))

pub returns-in-Err-clause-after : goal.returns-in-Err-clause-after
returns-in-Err-clause-after g c t live _ = row (rises live refl (omega arith) (peeks c.in_ok-token.ensures (no _ (sym c.is.ensures ∙ c.if-is.false) (passes c.in_ok-all.ensures.meets (misses _ _ c.in-Err.ensures)))))
