use Rattle.std.proofs.Common.{◌≢◌}
use Rattle.script_grammar.specs.declared.stop.Stop.TheVariants.{Memory}
use Rattle.script_grammar.proofs.Along.{misses, handed_on}
use Rattle.part_rows.specs.Lines.{TookParentheses, MissesParentheses}
use Rattle.part_rows.proofs.Joints.{between}
use Rattle.part_rows.proofs.parts.in_parentheses.Goals as goal

pub returns-in_err-open-clause-takes : goal.returns-in_err-open-clause-takes
returns-in_err-open-clause-takes g c = handed_on (λ r. TookParentheses c.args.base c.args.tokens.now r.0 r.1 r.2.now) (λ e. e ≢ Memory → MissesParentheses c.args.base c.args.tokens.now e)
    c.from_residual.result c.from_residual.ensures.1 (λ not. record { row = λ n h rule. misses _ _ c.in_err-open.ensures })

pub returns-clause-takes : goal.returns-clause-takes
returns-clause-takes g c = between c.args.base c.enclosed.result c.in_ok-open.ensures c.enclosed.ensures.takes
