use Rattle.std.proofs.Common.{◌≢◌, sym, ◌∙◌, arith}
use Rattle.script_grammar.specs.declared.stop.Stop.TheVariants.{Memory}
use Rattle.script_grammar.specs.Rules.Symbol.{Items}
use Rattle.script_grammar.specs.Meets.{TookItem, MissesItem, after_element}
use Rattle.script_grammar.proofs.Along.{peeks, peeks_end, refuses, yes, no, passes_level, fails_level, handed_on}
use Rattle.script_grammar.proofs.Generic.{shorter}
use Rattle.expression_rows.proofs.deeper.Grammar.element.Goals as goal

pub returns-in_err-token-clause-item : goal.returns-in_err-token-clause-item
returns-in_err-token-clause-item g c = handed_on (λ r. TookItem Items after_element c.args.base c.args.tokens.now r.0 r.1 r.2 r.3.now) (λ e. e ≢ Memory → MissesItem Items c.args.base c.args.tokens.now e)
    c.from_residual.result c.from_residual.ensures.1 (λ _. record { row = λ so_far h. peeks_end c.in_err-token.ensures.0 c.in_err-token.ensures.1 })

pub returns-then-is-clause-item : goal.returns-then-is-clause-item
returns-then-is-clause-item g c _ = record { row = λ so_far h. peeks c.in_ok-token.ensures (yes _ (sym c.is.ensures ∙ c.if-is.true) (refuses c.in_ok-token.ensures c.refused.ensures)) }

pub returns-in_err-one-clause-item : goal.returns-in_err-one-clause-item
returns-in_err-one-clause-item g c = handed_on (λ r. TookItem Items after_element c.args.base c.args.tokens.now r.0 r.1 r.2 r.3.now) (λ e. e ≢ Memory → MissesItem Items c.args.base c.args.tokens.now e)
    c.from_residual-in_err-one.result c.from_residual-in_err-one.ensures.1
    (λ not. record { row = λ so_far h. peeks c.in_ok-token.ensures (no _ (sym c.is.ensures ∙ c.if-is.false) (fails_level (c.in_err-one.ensures.meets not))) })

pub returns-in-Ok-clause-item : goal.returns-in-Ok-clause-item
returns-in-Ok-clause-item g c = record {
  row = λ so_far h o w. peeks c.in_ok-token.ensures (no _ (sym c.is.ensures ∙ c.if-is.false) (passes_level c.in_ok-one.ensures.meets (c.in-Ok.ensures.row so_far _ _ _ _ w)));
  shorter = λ e. omega (arith, c.in-Ok.ensures.shorter e, shorter c.in_ok-one.ensures.meets);
}

pub returns-in-Err-clause-item : goal.returns-in-Err-clause-item
returns-in-Err-clause-item g c _ = record { row = λ so_far h. peeks c.in_ok-token.ensures (no _ (sym c.is.ensures ∙ c.if-is.false) (passes_level c.in_ok-one.ensures.meets (c.in-Err.ensures.row so_far _ _ _))) }
