use Rattle.std.proofs.Common.{◌≢◌, arith, false, []}
use Rattle.js_lexer.specs.declared.Mark.TheVariants as m
use Rattle.script_grammar.specs.Grammar.{expect}
use Rattle.script_grammar.specs.Rules.Rule.{read}
use Rattle.script_grammar.specs.Rules.Symbol.{Clauses}
use Rattle.script_grammar.specs.declared.stop.Stop.TheVariants.{Memory}
use Rattle.script_grammar.proofs.Along.{passes, fails, as_high, expects, misses, handed_on}
use Rattle.script_rows.specs.Parts.{TookClauses, MissesClauses}
use Rattle.script_rows.proofs.switches.in_braces.Goals as goal

pub returns-in_err-open-clause-takes : goal.returns-in_err-open-clause-takes
returns-in_err-open-clause-takes g c = handed_on (λ p. TookClauses c.args.around c.args.base c.args.tokens.now p.0 p.1 p.2.now) (λ e. e ≢ Memory → MissesClauses c.args.around c.args.base c.args.tokens.now e)
    c.from_residual.result c.from_residual.ensures.1 (λ not. record { row = λ n h rule. misses m.OpenBrace (read 1 (Clauses c.args.around false []) (λ all _. expect m.CloseBrace (rule all))) c.in_err-open.ensures })

pub returns-in_err-all-clause-takes : goal.returns-in_err-all-clause-takes
returns-in_err-all-clause-takes g c = handed_on (λ p. TookClauses c.args.around c.args.base c.args.tokens.now p.0 p.1 p.2.now) (λ e. e ≢ Memory → MissesClauses c.args.around c.args.base c.args.tokens.now e)
    c.from_residual-in_err-all.result c.from_residual-in_err-all.ensures.1 (λ not. record { row = λ n h rule. expects c.in_ok-open.ensures (fails (c.in_err-all.ensures.meets not)) })

pub returns-in-Ok-clause-takes : goal.returns-in-Ok-clause-takes
returns-in-Ok-clause-takes g c = record { row = λ n h rule o x. expects c.in_ok-open.ensures (passes c.in_ok-all.ensures.meets (expects c.in-Ok.ensures (as_high (omega arith) x))) }

pub returns-in-Err-clause-takes : goal.returns-in-Err-clause-takes
returns-in-Err-clause-takes g c _ = record { row = λ n h rule. expects c.in_ok-open.ensures (passes c.in_ok-all.ensures.meets (misses m.CloseBrace (rule _) c.in-Err.ensures)) }
