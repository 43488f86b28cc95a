use Rattle.std.proofs.Common.{◌≢◌, Bool, sym, ◌∙◌, refl, None, true, [], ◌∷◌, ◌++◌, List, MatchOption}
use Rattle.js_lexer.specs.declared.Reserved.TheVariants as w
use Rattle.js_tree.specs.declared.Case as clause
use Rattle.js_tree.specs.Trees.{case_of}
use Rattle.part_rows.proofs.Joints.{left_true}
use Rattle.script_grammar.specs.Grammar.{as_read}
use Rattle.script_grammar.specs.Rules.{Context, Rule}
use Rattle.script_grammar.specs.Rules.Symbol.{Clauses}
use Rattle.script_grammar.specs.declared.stop.Stop.TheVariants.{Memory}
use Rattle.script_grammar.proofs.Along.{row, gives, refuses, peeks, peeks_end, eats, yes, no, handed_on}
use Rattle.script_grammar.proofs.Tokens.{live_word}
use Rattle.script_rows.specs.Parts.{TookClause, MissesClause, NoClause}
use Rattle.script_rows.proofs.Members.{turn_case, case_shorter, turn_default, default_shorter}
use Rattle.script_rows.proofs.switches.clause.Goals as goal

abbrev With : (c : Context) (stood stands : Bool) (so_far : List clause.Case) → clause.Case → Rule (Clauses c stood so_far)
With c stood stands so_far one = as_read (Clauses c stands (so_far ++ one ∷ [])) (λ v. v)

pub returns-in_err-token-clause-takes : goal.returns-in_err-token-clause-takes
returns-in_err-token-clause-takes g c = handed_on (λ o. MatchOption o (NoClause c.args.around c.args.stood c.args.base c.args.tokens.now) (λ p. TookClause c.args.around c.args.stood c.args.base c.args.tokens.now p.0 p.1 p.2 p.3.now)) (λ e. e ≢ Memory → MissesClause c.args.around c.args.stood c.args.base c.args.tokens.now e)
    c.from_residual.result c.from_residual.ensures.1 (λ not. record { row = λ so_far. row (peeks_end c.in_err-token.ensures.0 c.in_err-token.ensures.1) })

pub returns-in_err-case-clause-takes : goal.returns-in_err-case-clause-takes
returns-in_err-case-clause-takes g c = handed_on (λ o. MatchOption o (NoClause c.args.around c.args.stood c.args.base c.args.tokens.now) (λ p. TookClause c.args.around c.args.stood c.args.base c.args.tokens.now p.0 p.1 p.2 p.3.now)) (λ e. e ≢ Memory → MissesClause c.args.around c.args.stood c.args.base c.args.tokens.now e)
    c.from_residual-in_err-case.result c.from_residual-in_err-case.ensures.1 (λ not. record { row = λ so_far. row (peeks c.in_ok-token.ensures (yes _ (sym c.is_word.ensures ∙ c.if-is_word.true) (eats (live_word w.Case _ (sym c.is_word.ensures ∙ c.if-is_word.true)) c.in_ok-token.ensures ((c.in_err-case.ensures.takes not).row (Clauses c.args.around c.args.stood so_far) 0 (With c.args.around c.args.stood c.args.stood so_far))))) })

pub returns-then-is_word-clause-takes : goal.returns-then-is_word-clause-takes
returns-then-is_word-clause-takes g c = record { row = turn_case c.in_ok-token.ensures (sym c.is_word.ensures ∙ c.if-is_word.true) c.in_ok-case.ensures.takes; shorter = case_shorter c.in_ok-token.ensures c.in_ok-case.ensures.takes }

pub returns-in_err-body-clause-takes : goal.returns-in_err-body-clause-takes
returns-in_err-body-clause-takes g c = handed_on (λ o. MatchOption o (NoClause c.args.around c.args.stood c.args.base c.args.tokens.now) (λ p. TookClause c.args.around c.args.stood c.args.base c.args.tokens.now p.0 p.1 p.2 p.3.now)) (λ e. e ≢ Memory → MissesClause c.args.around c.args.stood c.args.base c.args.tokens.now e)
    c.from_residual-in_err-body.result c.from_residual-in_err-body.ensures.1 (λ not. record { row = λ so_far. row (peeks c.in_ok-token.ensures (no _ (sym c.is_word.ensures ∙ c.if-is_word.false) (yes _ (sym c.defaults.ensures ∙ c.if-defaults.true) (eats (live_word w.Default _ (left_true _ _ (sym c.defaults.ensures ∙ c.if-defaults.true))) c.in_ok-token.ensures ((c.in_err-body.ensures.takes not).row (Clauses c.args.around c.args.stood so_far) 0 (λ x. With c.args.around c.args.stood true so_far (case_of None x))))))) })

pub returns-then-defaults-clause-takes : goal.returns-then-defaults-clause-takes
returns-then-defaults-clause-takes g c = record { row = turn_default c.in_ok-token.ensures (sym c.is_word.ensures ∙ c.if-is_word.false) (sym c.defaults.ensures ∙ c.if-defaults.true) c.in_ok-body.ensures.takes _ c.case.ensures; shorter = default_shorter c.in_ok-token.ensures c.in_ok-body.ensures.takes }

pub returns-then-is-clause-takes : goal.returns-then-is-clause-takes
returns-then-is-clause-takes g c = record { row = λ so_far. row (peeks c.in_ok-token.ensures (no _ (sym c.is_word.ensures ∙ c.if-is_word.false) (no _ (sym c.defaults.ensures ∙ c.if-defaults.false) (yes _ (sym c.is.ensures ∙ c.if-is.true) (gives refl refl))))) }

pub returns-clause-takes : goal.returns-clause-takes
returns-clause-takes g c not = record { row = λ so_far. row (peeks c.in_ok-token.ensures (no _ (sym c.is_word.ensures ∙ c.if-is_word.false) (no _ (sym c.defaults.ensures ∙ c.if-defaults.false) (no _ (sym c.is.ensures ∙ c.if-is.false) (refuses c.in_ok-token.ensures c.refused.ensures))))) }
