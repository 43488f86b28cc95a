use Rattle.std.proofs.Common.{◌≢◌, arith}
use Rattle.script_grammar.specs.declared.stop.Stop.TheVariants.{Memory}
use Rattle.script_grammar.proofs.Along.{passes, fails, expects, misses, as_high, handed_on}
use Rattle.part_rows.specs.Lines.{TookClosed, MissesClosed}
use Rattle.part_rows.proofs.parts.enclosed.Goals as goal

pub returns-in_err-value-clause-takes : goal.returns-in_err-value-clause-takes
returns-in_err-value-clause-takes g c = handed_on (λ r. TookClosed c.args.close c.args.base c.args.tokens.now r.0 r.1 r.2.now) (λ e. e ≢ Memory → MissesClosed c.args.close c.args.base c.args.tokens.now e)
    c.from_residual.result c.from_residual.ensures.1 (λ not. record { row = λ n h rule. fails (c.in_err-value.ensures.meets not) })

pub returns-in-Ok-clause-takes : goal.returns-in-Ok-clause-takes
returns-in-Ok-clause-takes g c = record { row = λ n h rule o w. passes c.in_ok-value.ensures.meets (expects c.in-Ok.ensures (as_high (omega arith) w)) }

pub returns-in-Err-clause-takes : goal.returns-in-Err-clause-takes
returns-in-Err-clause-takes g c _ = record { row = λ n h rule. passes c.in_ok-value.ensures.meets (misses _ _ c.in-Err.ensures) }
