use Rattle.std.proofs.Common.{◌≢◌}
use Rattle.script_grammar.specs.declared.stop.Stop.TheVariants.{Memory}
use Rattle.script_grammar.specs.Meets.{TookEnclosed, MissesEnclosed}
use Rattle.script_grammar.proofs.Along.{passes, fails, expects, misses, handed_on}
use Rattle.expression_rows.proofs.deeper.Grammar.enclosed.Goals as goal

pub returns-in_err-inner-clause-row : goal.returns-in_err-inner-clause-row
returns-in_err-inner-clause-row g c = handed_on (λ r. TookEnclosed c.args.close c.args.base c.args.tokens.now r.0 r.1 r.2.now) (λ e. e ≢ Memory → MissesEnclosed c.args.close c.args.base c.args.tokens.now e)
    c.from_residual.result c.from_residual.ensures.1 (λ not. record { row = λ n h rule. fails (c.in_err-inner.ensures.meets not) })

pub returns-in-Ok-clause-row : goal.returns-in-Ok-clause-row
returns-in-Ok-clause-row g c = record { row = λ n h rule o w. passes c.in_ok-inner.ensures.meets (expects c.in-Ok.ensures w) }

pub returns-in-Err-clause-row : goal.returns-in-Err-clause-row
returns-in-Err-clause-row g c _ = record { row = λ n h rule. passes c.in_ok-inner.ensures.meets (misses _ _ c.in-Err.ensures) }
