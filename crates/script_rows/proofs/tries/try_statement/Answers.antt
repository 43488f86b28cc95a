use Rattle.std.proofs.Common.{arith}
use Rattle.part_rows.proofs.Joints.{onward}
use Rattle.script_grammar.specs.Grammar.{statement_as, block}
use Rattle.script_grammar.specs.Rules.{Context, Rule}
use Rattle.script_grammar.specs.Rules.Symbol.{Statement}
use Rattle.script_grammar.specs.declared.classes.Start.TheVariants as start
use Rattle.script_grammar.proofs.Along.{row, whole, passes, fails, handed}
use Rattle.script_rows.specs.Parts.{handlers_rule}
use Rattle.script_rows.proofs.tries.try_statement.Goals as goal

abbrev body : {c : Context} → Rule (Statement c)
body {c} = block c (λ one. handlers_rule one)

pub returns-in_err-stood-clause-meets : goal.returns-in_err-stood-clause-meets
returns-in_err-stood-clause-meets g c = handed (Statement c.args.around) c.args.base (statement_as c.args.around start.Try) c.args.tokens.now c.from_residual.result c.from_residual.ensures.1
    (λ not. c.in_err-stood.ensures.stands.row (Statement c.args.around) 0 (body))

pub returns-in_err-body-clause-meets : goal.returns-in_err-body-clause-meets
returns-in_err-body-clause-meets g c = handed (Statement c.args.around) c.args.base (statement_as c.args.around start.Try) c.args.tokens.now c.from_residual-in_err-body.result c.from_residual-in_err-body.ensures.1
    (λ not. c.in_ok-stood.ensures.stands.row (Statement c.args.around) 0 (body) _ (fails (c.in_err-body.ensures.meets not)))

pub returns-in_err-made-clause-meets : goal.returns-in_err-made-clause-meets
returns-in_err-made-clause-meets g c = handed (Statement c.args.around) c.args.base (statement_as c.args.around start.Try) c.args.tokens.now c.from_residual-in_err-made.result c.from_residual-in_err-made.ensures.1
    (λ not. c.in_ok-stood.ensures.stands.row (Statement c.args.around) 0 (body) _ (passes c.in_ok-body.ensures.meets (whole (c.in_err-made.ensures.meets not))))

pub returns-clause-meets : goal.returns-clause-meets
returns-clause-meets g c = row (c.in_ok-stood.ensures.stands.row (Statement c.args.around) 0 (body) _ (passes c.in_ok-body.ensures.meets (onward (omega arith) c.in_ok-made.ensures.meets)))
