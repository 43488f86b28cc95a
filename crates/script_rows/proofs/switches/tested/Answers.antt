use Rattle.std.proofs.Common.{◌≢◌, arith, Some}
use Rattle.js_tree.specs.Trees.{case_of}
use Rattle.script_grammar.specs.declared.stop.Stop.TheVariants.{Memory}
use Rattle.script_grammar.proofs.Along.{passes_level, fails_level, by, as_high, handed_on}
use Rattle.script_rows.specs.Parts.{TookCase, MissesCase}
use Rattle.script_rows.proofs.switches.tested.Goals as goal

pub returns-in_err-test-clause-takes : goal.returns-in_err-test-clause-takes
returns-in_err-test-clause-takes g c = handed_on (λ p. TookCase c.args.around c.args.base c.args.tokens.now p.0 p.1 p.2.now) (λ e. e ≢ Memory → MissesCase c.args.around c.args.base c.args.tokens.now e)
    c.from_residual.result c.from_residual.ensures.1 (λ not. record { row = λ n h rule. fails_level (c.in_err-test.ensures.meets not) })

pub returns-in-Ok-clause-takes : goal.returns-in-Ok-clause-takes
returns-in-Ok-clause-takes g c = record { row = λ n h rule o x. passes_level c.in_ok-test.ensures.meets (c.in-Ok.ensures.takes.row n _ (λ body. rule (case_of (Some _) body)) o (by rule c.case.ensures (as_high (omega arith) x))) }

pub returns-in-Err-clause-takes : goal.returns-in-Err-clause-takes
returns-in-Err-clause-takes g c not = record { row = λ n h rule. passes_level c.in_ok-test.ensures.meets ((c.in-Err.ensures.takes not).row n _ (λ body. rule (case_of (Some _) body))) }
