use Rattle.std.proofs.Common.{◌≢◌, sym, ◌∙◌, arith}
use Rattle.js_lexer.specs.declared.Mark.TheVariants as m
use Rattle.script_grammar.specs.declared.stop.Stop.TheVariants.{Memory}
use Rattle.script_grammar.specs.Meets.{TookArguments, MissesArguments}
use Rattle.script_grammar.proofs.Along.{peeks, peeks_end, eats, by, yes, no, passes, fails, expects, misses, as_high, handed_on}
use Rattle.script_grammar.proofs.Tokens.{live_mark}
use Rattle.expression_rows.proofs.deeper.Grammar.given.Goals as goal

pub returns-in_err-token-clause-row : goal.returns-in_err-token-clause-row
returns-in_err-token-clause-row g c = handed_on (λ r. TookArguments c.args.base c.args.levels c.args.tokens.now r.0 r.1 r.2.now) (λ e. e ≢ Memory → MissesArguments c.args.base c.args.levels c.args.tokens.now e)
    c.from_residual.result c.from_residual.ensures.1 (λ _. record { row = λ n h rule. peeks_end c.in_err-token.ensures.0 c.in_err-token.ensures.1 })

pub returns-then-is-clause-row : goal.returns-then-is-clause-row
returns-then-is-clause-row g c = let q = sym c.is.ensures ∙ c.if-is.true in
    record { row = λ n h rule o le w. peeks c.in_ok-token.ensures (yes _ q (eats (live_mark m.CloseParen _ q) c.in_ok-token.ensures (by (λ x. rule x 0) c.new.ensures (as_high (omega (arith, le)) w)))) }

pub returns-in_err-all-clause-row : goal.returns-in_err-all-clause-row
returns-in_err-all-clause-row g c = handed_on (λ r. TookArguments c.args.base c.args.levels c.args.tokens.now r.0 r.1 r.2.now) (λ e. e ≢ Memory → MissesArguments c.args.base c.args.levels c.args.tokens.now e)
    c.from_residual-in_err-all.result c.from_residual-in_err-all.ensures.1 (λ not. record { row = λ n h rule. peeks c.in_ok-token.ensures (no _ (sym c.is.ensures ∙ c.if-is.false) (fails (c.in_err-all.ensures.meets not))) })

pub returns-in-Ok-clause-row : goal.returns-in-Ok-clause-row
returns-in-Ok-clause-row g c = record { row = λ n h rule o le w. peeks c.in_ok-token.ensures (no _ (sym c.is.ensures ∙ c.if-is.false) (passes c.in_ok-all.ensures.meets (expects c.in-Ok.ensures w))) }

pub returns-in-Err-clause-row : goal.returns-in-Err-clause-row
returns-in-Err-clause-row g c _ = record { row = λ n h rule. peeks c.in_ok-token.ensures (no _ (sym c.is.ensures ∙ c.if-is.false) (passes c.in_ok-all.ensures.meets (misses _ _ c.in-Err.ensures))) }
