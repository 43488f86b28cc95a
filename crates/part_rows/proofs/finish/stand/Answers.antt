use Rattle.std.proofs.Common.{arith}
use Rattle.script_grammar.proofs.Along.{rises, sinks, handed_on}
use Rattle.part_rows.proofs.Joints.{node_end}
use Rattle.part_rows.specs.Lines.{Stood, NotStood}
use Rattle.part_rows.proofs.finish.stand.Goals as goal

pub returns-in_err-rest-clause-stands : goal.returns-in_err-rest-clause-stands
returns-in_err-rest-clause-stands c = handed_on (λ r. Stood c.args.base c.args.levels c.args.tokens.now r.now) (λ e. NotStood c.args.base c.args.levels c.args.tokens.now e)
    c.from_residual.result c.from_residual.ensures.1 (record { row = λ n h rule. node_end c.in_err-rest.ensures.0 c.in_err-rest.ensures.1 })

pub returns-then-base-levels-gt-LIMIT-clause-stands : goal.returns-then-base-levels-gt-LIMIT-clause-stands
returns-then-base-levels-gt-LIMIT-clause-stands c = record { row = λ n h rule. sinks {k = c.args.levels} (c.requires.begun _ _ c.in_ok-rest.ensures) c.in_ok-rest.ensures (omega arith) }

pub returns-clause-stands : goal.returns-clause-stands
returns-clause-stands c = record { row = λ n h rule o w. rises {k = c.args.levels} (c.requires.begun _ _ c.in_ok-rest.ensures) c.in_ok-rest.ensures (omega arith) w }
