use Rattle.std.proofs.Common.{arith}
use Rattle.js_lexer.specs.declared.Mark.TheVariants as m
use Rattle.script_grammar.specs.Rules.Rule.{node}
use Rattle.script_grammar.specs.Rules.Symbol.{Statement}
use Rattle.script_grammar.specs.Grammar.{expect, for_first}
use Rattle.script_grammar.proofs.Along.{row, whole, expects, misses, handed}
use Rattle.part_rows.proofs.Joints.{onward}
use Rattle.loop_rows.proofs.for_statement.Goals as goal

pub returns-in_err-stood-clause-meets : goal.returns-in_err-stood-clause-meets
returns-in_err-stood-clause-meets g c = handed (Statement c.args.around) c.args.base (node 1 (expect m.OpenParen for_first)) c.args.tokens.now c.from_residual.result c.from_residual.ensures.1
    (λ not. c.in_err-stood.ensures.stands.row (Statement c.args.around) 0 (expect m.OpenParen for_first))

pub returns-in_err-open-clause-meets : goal.returns-in_err-open-clause-meets
returns-in_err-open-clause-meets g c = handed (Statement c.args.around) c.args.base (node 1 (expect m.OpenParen for_first)) c.args.tokens.now c.from_residual-in_err-open.result c.from_residual-in_err-open.ensures.1
    (λ not. c.in_ok-stood.ensures.stands.row (Statement c.args.around) 0 (expect m.OpenParen for_first) _ (misses m.OpenParen for_first c.in_err-open.ensures))

pub returns-in_err-made-clause-meets : goal.returns-in_err-made-clause-meets
returns-in_err-made-clause-meets g c = handed (Statement c.args.around) c.args.base (node 1 (expect m.OpenParen for_first)) c.args.tokens.now c.from_residual-in_err-made.result c.from_residual-in_err-made.ensures.1
    (λ not. c.in_ok-stood.ensures.stands.row (Statement c.args.around) 0 (expect m.OpenParen for_first) _ (expects c.in_ok-open.ensures (whole (c.in_err-made.ensures.meets not))))

pub returns-clause-meets : goal.returns-clause-meets
returns-clause-meets g c = row (c.in_ok-stood.ensures.stands.row (Statement c.args.around) 0 (expect m.OpenParen for_first) _ (expects c.in_ok-open.ensures (onward (omega arith) c.in_ok-made.ensures.meets)))
