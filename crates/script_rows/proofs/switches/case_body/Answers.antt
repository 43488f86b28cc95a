use Rattle.std.proofs.Common.{◌≢◌, []}
use Rattle.js_lexer.specs.declared.Mark.TheVariants as m
use Rattle.part_rows.specs.Lines.{TookBody, MissesBody}
use Rattle.script_grammar.specs.Rules.Rule.{read}
use Rattle.script_grammar.specs.Rules.Symbol.{Statements}
use Rattle.script_grammar.specs.declared.stop.Stop.TheVariants.{Memory}
use Rattle.script_grammar.proofs.Along.{misses, handed_on}
use Rattle.script_rows.proofs.Members.{body_of}
use Rattle.script_rows.proofs.switches.case_body.Goals as goal

pub returns-in_err-then-clause-takes : goal.returns-in_err-then-clause-takes
returns-in_err-then-clause-takes g c = handed_on (λ p. TookBody c.args.around c.args.base c.args.tokens.now p.0 p.1 p.2.now) (λ e. e ≢ Memory → MissesBody c.args.around c.args.base c.args.tokens.now e)
    c.from_residual.result c.from_residual.ensures.1 (λ not. record { row = λ n h rule. misses m.Colon (read 0 (Statements c.args.around []) (λ body _. rule body)) c.in_err-then.ensures })

pub returns-clause-takes : goal.returns-clause-takes
returns-clause-takes g c = body_of c.args.around c.args.base c.statements.result c.in_ok-then.ensures c.statements.ensures.meets
