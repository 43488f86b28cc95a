use Rattle.std.proofs.Common.{◌≡◌, arith, ℕ, List, subst}
use Rattle.js_tree.specs.declared.Case as clause
use Rattle.js_tree.specs.declared.Expr as expr
use Rattle.script_grammar.specs.Grammar.{statement_as, in_parentheses, switch}
use Rattle.script_grammar.specs.Rules.{Context, Rule}
use Rattle.script_grammar.specs.Rules.Rule.{give}
use Rattle.script_grammar.specs.Rules.Symbol.{Statement}
use Rattle.script_grammar.specs.Stmts as s
use Rattle.script_grammar.specs.declared.classes.Start.TheVariants as start
use Rattle.script_grammar.proofs.Along.{row, gives, misses, handed}
use Rattle.script_rows.specs.Parts.{clauses_rule, TookClauses, MissesClauses}
use Rattle.script_rows.proofs.switches.switch_statement.Goals as goal

abbrev cases : {c : Context} → expr.Expr → Rule (Statement c)
cases {c} value = clauses_rule (switch c) (λ all. give (s.Switch value all))

in_switch : {a d : Context} {b : ℕ} {ts rest : List _} {all : List clause.Case} {height : ℕ} → a ≡ d → TookClauses a b ts all height rest → TookClauses d b ts all height rest
in_switch {b = b} {ts = ts} {rest = rest} {all = all} {height = height} e took = subst (λ x. TookClauses x b ts all height rest) e took

no_switch : {a d : Context} {b : ℕ} {ts : List _} {e : _} → a ≡ d → MissesClauses a b ts e → MissesClauses d b ts e
no_switch {b = b} {ts = ts} {e = e} q misses = subst (λ x. MissesClauses x b ts e) q misses

pub returns-in_err-stood-clause-meets : goal.returns-in_err-stood-clause-meets
returns-in_err-stood-clause-meets g c = handed (Statement c.args.around) c.args.base (statement_as c.args.around start.Switch) c.args.tokens.now c.from_residual.result c.from_residual.ensures.1
    (λ not. c.in_err-stood.ensures.stands.row (Statement c.args.around) 0 (in_parentheses cases))

pub returns-in_err-value-clause-meets : goal.returns-in_err-value-clause-meets
returns-in_err-value-clause-meets g c = handed (Statement c.args.around) c.args.base (statement_as c.args.around start.Switch) c.args.tokens.now c.from_residual-in_err-value.result c.from_residual-in_err-value.ensures.1
    (λ not. c.in_ok-stood.ensures.stands.row (Statement c.args.around) 0 (in_parentheses cases) _ ((c.in_err-value.ensures.takes not).row (Statement c.args.around) _ cases))

pub returns-in-Ok-clause-meets : goal.returns-in-Ok-clause-meets
returns-in-Ok-clause-meets g c = row (c.in_ok-stood.ensures.stands.row (Statement c.args.around) 0 (in_parentheses cases) _ (c.in_ok-value.ensures.takes.row (Statement c.args.around) _ cases _ ((in_switch c.switched.ensures c.in-Ok.ensures.takes).row (Statement c.args.around) _ (λ all. give (s.Switch _ all)) _ (gives c.switch.ensures (omega arith)))))

pub returns-in-Err-clause-meets : goal.returns-in-Err-clause-meets
returns-in-Err-clause-meets g c not = row (c.in_ok-stood.ensures.stands.row (Statement c.args.around) 0 (in_parentheses cases) _ (c.in_ok-value.ensures.takes.row (Statement c.args.around) _ cases _ ((no_switch c.switched.ensures (c.in-Err.ensures.takes not)).row (Statement c.args.around) _ (λ all. give (s.Switch _ all)))))
