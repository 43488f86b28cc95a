use Rattle.std.proofs.Common.{◌≢◌, List, true, [], arith}
use Rattle.js_lexer.specs.declared.Mark.TheVariants as m
use Rattle.js_tree.specs.declared.Script as script
use Rattle.script_grammar.specs.Words.{Units}
use Rattle.script_grammar.specs.Rules.{Symbol, Rule}
use Rattle.script_grammar.specs.Rules.Rule.{read}
use Rattle.script_grammar.specs.Rules.Symbol.{Elements}
use Rattle.script_grammar.specs.Grammar.{expect}
use Rattle.script_grammar.specs.Meets.{TookFunction, MissesFunction}
use Rattle.script_grammar.specs.declared.stop.Stop.TheVariants.{Memory}
use Rattle.script_grammar.proofs.Along.{passes, fails, expects, misses, as_high, handed_on}
use Rattle.part_rows.proofs.parts.function.Goals as goal

-- what stands after the parameters
abbrev after : {n : Symbol} → (List Units → script.Script → Rule n) → List Units → Rule n
after rule names = expect m.OpenBrace (read 1 (Elements true [] []) (λ body _. expect m.CloseBrace (rule names body)))

pub returns-in_err-names-clause-takes : goal.returns-in_err-names-clause-takes
returns-in_err-names-clause-takes g c = handed_on (λ r. TookFunction c.args.base c.args.tokens.now r.0 r.1 r.2 r.3.now) (λ e. e ≢ Memory → MissesFunction c.args.base c.args.tokens.now e)
    c.from_residual.result c.from_residual.ensures.1 (λ not. record { row = λ n h rule. (c.in_err-names.ensures not).row n c.args.base h (after rule) })

pub returns-in_err-open-clause-takes : goal.returns-in_err-open-clause-takes
returns-in_err-open-clause-takes g c = handed_on (λ r. TookFunction c.args.base c.args.tokens.now r.0 r.1 r.2 r.3.now) (λ e. e ≢ Memory → MissesFunction c.args.base c.args.tokens.now e)
    c.from_residual-in_err-open.result c.from_residual-in_err-open.ensures.1 (λ not. record { row = λ n h rule. c.in_ok-names.ensures.row n c.args.base h (after rule) _ (misses _ _ c.in_err-open.ensures) })

pub returns-in_err-body-clause-takes : goal.returns-in_err-body-clause-takes
returns-in_err-body-clause-takes g c = handed_on (λ r. TookFunction c.args.base c.args.tokens.now r.0 r.1 r.2 r.3.now) (λ e. e ≢ Memory → MissesFunction c.args.base c.args.tokens.now e)
    c.from_residual-in_err-body.result c.from_residual-in_err-body.ensures.1 (λ not. record { row = λ n h rule. c.in_ok-names.ensures.row n c.args.base h (after rule) _ (expects c.in_ok-open.ensures (fails (c.in_err-body.ensures.meets not))) })

pub returns-in-Ok-clause-takes : goal.returns-in-Ok-clause-takes
returns-in-Ok-clause-takes g c = record { row = λ n h rule o w. c.in_ok-names.ensures.row n c.args.base h (after rule) o (expects c.in_ok-open.ensures (passes c.in_ok-body.ensures.meets (expects c.in-Ok.ensures (as_high (omega arith) w)))) }

pub returns-in-Err-clause-takes : goal.returns-in-Err-clause-takes
returns-in-Err-clause-takes g c _ = record { row = λ n h rule. c.in_ok-names.ensures.row n c.args.base h (after rule) _ (expects c.in_ok-open.ensures (passes c.in_ok-body.ensures.meets (misses _ _ c.in-Err.ensures))) }
