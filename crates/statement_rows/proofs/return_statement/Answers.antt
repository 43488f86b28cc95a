use Rattle.std.proofs.Common.{◌≡◌, ◌≢◌, sym, ◌∙◌, arith, refl, Some, None, true, false, [], ℕ, max}
use Rattle.js_lexer.specs.declared.Reserved.TheVariants as w
use Rattle.js_tree.specs.declared.Expr as expr
use Rattle.script_grammar.specs.Grammar.{statement_as, after_if, after_return, after_throw, ends, ends_identifier, halts, jump, loop, in_parentheses}
use Rattle.script_grammar.specs.Rules.{Rule}
use Rattle.script_grammar.specs.Rules.Rule.{give, refuse, read, stand}
use Rattle.script_grammar.specs.Rules.Symbol.{Decls, Expr, Statement}
use Rattle.script_grammar.specs.Stmts as s
use Rattle.script_grammar.specs.declared.classes.Start.TheVariants as start
use Rattle.script_grammar.specs.declared.stop.Stop.TheVariants.{Memory}
use Rattle.script_grammar.proofs.Along.{row, whole, gives, refuses, peeks, peeks_end, eats, passes, fails, yes, no, expects_word, misses_word, handed, handed_on, begins_with}
use Rattle.script_grammar.proofs.Along as along
use Rattle.script_grammar.proofs.Tokens.{live_word}
use Rattle.part_rows.proofs.Joints.{refuses_end, onward, ended, halted, jumped, ended_name}
use Rattle.statement_rows.specs.Rests.{do_rule, else_rule, second_rule, test_rule, TookTest, MissesTest}
use Rattle.statement_rows.proofs.Endings.{unended, unhalted, unjumped, unended_name, from_none, from_none_err, within, within_err, tested, opened_deep, begins_end}
use Rattle.statement_rows.proofs.Truths.{was_false, was_true}
use Rattle.statement_rows.proofs.return_statement.Goals as goal

pub returns-in_err-token-clause-meets : goal.returns-in_err-token-clause-meets
returns-in_err-token-clause-meets g c = handed (Statement c.args.around) c.args.base (statement_as c.args.around start.Return) c.args.tokens.now c.from_residual.result c.from_residual.ensures.1
    (λ not. no _ (was_false _ c.if-not-around.true) (refuses_end c.in_err-token.ensures.0 c.in_err-token.ensures.1))

pub returns-then-not-around-clause-meets : goal.returns-then-not-around-clause-meets
returns-then-not-around-clause-meets g c not = row (no _ (was_false _ c.if-not-around.true) (refuses c.in_ok-token.ensures c.refused.ensures))

pub returns-in_err-stood-clause-meets : goal.returns-in_err-stood-clause-meets
returns-in_err-stood-clause-meets g c = handed (Statement c.args.around) c.args.base (statement_as c.args.around start.Return) c.args.tokens.now c.from_residual-in_err-stood.result c.from_residual-in_err-stood.ensures.1
    (λ not. yes _ (was_true _ c.if-not-around.false) (c.in_err-stood.ensures.stands.row (Statement c.args.around) 0 (after_return)))

pub returns-in_err-made-clause-meets : goal.returns-in_err-made-clause-meets
returns-in_err-made-clause-meets g c = handed (Statement c.args.around) c.args.base (statement_as c.args.around start.Return) c.args.tokens.now c.from_residual-in_err-made.result c.from_residual-in_err-made.ensures.1
    (λ not. yes _ (was_true _ c.if-not-around.false) (c.in_ok-stood.ensures.stands.row (Statement c.args.around) 0 (after_return) _ (whole (c.in_err-made.ensures.meets not))))

pub returns-clause-meets : goal.returns-clause-meets
returns-clause-meets g c = row (yes _ (was_true _ c.if-not-around.false) (c.in_ok-stood.ensures.stands.row (Statement c.args.around) 0 (after_return) _ (onward (omega arith) c.in_ok-made.ensures.meets)))
