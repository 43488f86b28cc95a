use Rattle.std.proofs.Common.{◌≡◌, ◌≢◌, sym, ◌∙◌, arith, refl, Some, None, true, false, [], ℕ, max}
use Rattle.js_lexer.specs.declared.Reserved.TheVariants as w
use Rattle.js_tree.specs.declared.Expr as expr
use Rattle.script_grammar.specs.Grammar.{statement_as, after_if, after_return, after_throw, ends, ends_identifier, halts, jump, loop, in_parentheses}
use Rattle.script_grammar.specs.Rules.{Rule}
use Rattle.script_grammar.specs.Rules.Rule.{give, refuse, read, stand}
use Rattle.script_grammar.specs.Rules.Symbol.{Decls, Expr, Statement}
use Rattle.script_grammar.specs.Stmts as s
use Rattle.script_grammar.specs.declared.classes.Start.TheVariants as start
use Rattle.script_grammar.specs.declared.stop.Stop.TheVariants.{Memory}
use Rattle.script_grammar.proofs.Along.{row, whole, gives, refuses, peeks, peeks_end, eats, passes, fails, yes, no, expects_word, misses_word, handed, handed_on, begins_with}
use Rattle.script_grammar.proofs.Along as along
use Rattle.script_grammar.proofs.Tokens.{live_word}
use Rattle.part_rows.proofs.Joints.{refuses_end, onward, ended, halted, jumped, ended_name}
use Rattle.statement_rows.specs.Rests.{do_rule, else_rule, second_rule, test_rule, TookTest, MissesTest}
use Rattle.statement_rows.proofs.Endings.{unended, unhalted, unjumped, unended_name, from_none, from_none_err, within, within_err, tested, opened_deep, begins_end}
use Rattle.statement_rows.proofs.identifier_statement.Goals as goal

pub returns-then-base-eq-LIMIT-clause-meets : goal.returns-then-base-eq-LIMIT-clause-meets
returns-then-base-eq-LIMIT-clause-meets g c not = row (fails (c.beyond.ensures not _ (omega arith)))

pub returns-in_err-value-clause-meets : goal.returns-in_err-value-clause-meets
returns-in_err-value-clause-meets g c = handed (Statement c.args.around) c.args.base (statement_as c.args.around start.Identifier) c.args.tokens.now c.from_residual.result c.from_residual.ensures.1
    (λ not. fails (c.in_err-value.ensures.meets not))

pub returns-in-Ok-clause-meets : goal.returns-in-Ok-clause-meets
returns-in-Ok-clause-meets g c = row (passes c.in_ok-value.ensures.meets (ended_name c.expression-in-Ok.ensures (omega arith) c.in-Ok.ensures))

pub returns-in-Err-clause-meets : goal.returns-in-Err-clause-meets
returns-in-Err-clause-meets g c not = row (passes c.in_ok-value.ensures.meets (unended_name c.in-Err.ensures))
