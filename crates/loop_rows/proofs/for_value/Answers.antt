use Rattle.std.proofs.Common.{arith}
use Rattle.script_grammar.specs.Rules.Symbol.{Statement}
use Rattle.script_grammar.proofs.Along.{row, whole, passes, fails, handed}
use Rattle.part_rows.specs.Lines.{for_value_rule}
use Rattle.part_rows.proofs.Joints.{onward}
use Rattle.loop_rows.proofs.for_value.Goals as goal

pub returns-in_err-value-clause-meets : goal.returns-in_err-value-clause-meets
returns-in_err-value-clause-meets g c = handed (Statement c.args.around) c.args.base (for_value_rule) c.args.tokens.now c.from_residual.result c.from_residual.ensures.1
    (λ not. fails (c.in_err-value.ensures.meets not))

pub returns-in_err-made-clause-meets : goal.returns-in_err-made-clause-meets
returns-in_err-made-clause-meets g c = handed (Statement c.args.around) c.args.base (for_value_rule) c.args.tokens.now c.from_residual-in_err-made.result c.from_residual-in_err-made.ensures.1
    (λ not. passes c.in_ok-value.ensures.meets (whole (c.in_err-made.ensures.meets not)))

pub returns-clause-meets : goal.returns-clause-meets
returns-clause-meets g c = row (passes c.in_ok-value.ensures.meets (onward (omega arith) c.in_ok-made.ensures.meets))
