use Rattle.std.proofs.Common.{◌≢◌, arith}
use Rattle.script_grammar.specs.declared.stop.Stop.TheVariants.{Memory}
use Rattle.script_grammar.proofs.Along.{passes, fails, expects, misses, as_high, handed_on}
use Rattle.expression_rows.specs.Parts.{TookBranches, MissesBranches}
use Rattle.expression_rows.proofs.deeper.Grammar.branches.Goals as goal

pub returns-in_err-one-clause-row : goal.returns-in_err-one-clause-row
returns-in_err-one-clause-row g c = handed_on (λ r. TookBranches c.args.no_in c.args.base c.args.tokens.now r.0 r.1 r.2 r.3.now) (λ e. e ≢ Memory → MissesBranches c.args.no_in c.args.base c.args.tokens.now e)
    c.from_residual.result c.from_residual.ensures.1 (λ not. record { row = λ n h rule. fails (c.in_err-one.ensures.meets not) })

pub returns-in-Ok-deeper-clause-row : goal.returns-in-Ok-deeper-clause-row
returns-in-Ok-deeper-clause-row g c = record { row = λ n h rule o w. passes c.in_ok-one.ensures.meets (expects c.in-Ok.ensures (passes c.in-Ok-deeper.ensures.meets (as_high (omega arith) w))) }

pub returns-in-Err-deeper-clause-row : goal.returns-in-Err-deeper-clause-row
returns-in-Err-deeper-clause-row g c not = record { row = λ n h rule. passes c.in_ok-one.ensures.meets (expects c.in-Ok.ensures (fails (c.in-Err-deeper.ensures.meets not))) }

pub returns-in-Err-clause-row : goal.returns-in-Err-clause-row
returns-in-Err-clause-row g c _ = record { row = λ n h rule. passes c.in_ok-one.ensures.meets (misses _ _ c.in-Err.ensures) }
