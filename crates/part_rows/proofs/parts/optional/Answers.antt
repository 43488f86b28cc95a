use Rattle.std.proofs.Common.{◌≢◌, Some, sym, ◌∙◌, arith}
use Rattle.script_grammar.specs.declared.stop.Stop.TheVariants.{Memory}
use Rattle.script_grammar.proofs.Along.{peeks, peeks_end, eats, yes, no, as_high, handed_on}
use Rattle.script_grammar.proofs.Tokens.{live_mark}
use Rattle.part_rows.specs.Lines.{TookOptional, MissesOptional}
use Rattle.part_rows.proofs.parts.optional.Goals as goal

pub returns-in_err-token-clause-takes : goal.returns-in_err-token-clause-takes
returns-in_err-token-clause-takes g c = handed_on (λ r. TookOptional c.args.close c.args.base c.args.tokens.now r.0 r.1 r.2.now) (λ e. e ≢ Memory → MissesOptional c.args.close c.args.base c.args.tokens.now e)
    c.from_residual.result c.from_residual.ensures.1 (λ not. record { row = λ n h rule. peeks_end c.in_err-token.ensures.0 c.in_err-token.ensures.1 })

pub returns-then-is-clause-takes : goal.returns-then-is-clause-takes
returns-then-is-clause-takes g c = let q = sym c.is.ensures ∙ c.if-is.true in
    record { row = λ n h rule o w. peeks c.in_ok-token.ensures (yes _ q (eats (live_mark c.args.close _ q) c.in_ok-token.ensures (as_high (omega arith) w))) }

pub returns-in_err-value-clause-takes : goal.returns-in_err-value-clause-takes
returns-in_err-value-clause-takes g c = handed_on (λ r. TookOptional c.args.close c.args.base c.args.tokens.now r.0 r.1 r.2.now) (λ e. e ≢ Memory → MissesOptional c.args.close c.args.base c.args.tokens.now e)
    c.from_residual-in_err-value.result c.from_residual-in_err-value.ensures.1
    (λ not. record { row = λ n h rule. peeks c.in_ok-token.ensures (no _ (sym c.is.ensures ∙ c.if-is.false) ((c.in_err-value.ensures.takes not).row n h (λ x. rule (Some x)))) })

pub returns-clause-takes : goal.returns-clause-takes
returns-clause-takes g c = record { row = λ n h rule o w. peeks c.in_ok-token.ensures (no _ (sym c.is.ensures ∙ c.if-is.false) (c.in_ok-value.ensures.takes.row n h (λ x. rule (Some x)) o w)) }
