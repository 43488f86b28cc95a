use Rattle.std.proofs.Common.{sym, ◌∙◌, arith, None}
use Rattle.js_lexer.specs.declared.Reserved.TheVariants as w
use Rattle.js_tree.specs.Trees.{declaration_of}
use Rattle.script_grammar.specs.Grammar.{grammar, function}
use Rattle.script_grammar.specs.Rules.{Rule}
use Rattle.script_grammar.specs.Rules.Rule.{give, refuse}
use Rattle.script_grammar.specs.Rules.Symbol.{Declaration}
use Rattle.script_grammar.specs.Words.{Units}
use Rattle.script_grammar.proofs.Along.{row, gives, refuses, peeks, peeks_end, rises, sinks, yes, no, handed}
use Rattle.script_grammar.proofs.Tokens.{live_word}
use Rattle.script_rows.proofs.lists.declaration.Goals as goal

abbrev parts : Units → Rule Declaration
parts units = function (λ names body. give (declaration_of units names body))

pub returns-in_err-token-clause-meets : goal.returns-in_err-token-clause-meets
returns-in_err-token-clause-meets g c = handed Declaration c.args.base (grammar Declaration) c.args.tokens.now c.from_residual.result c.from_residual.ensures.1
    (λ not. peeks_end c.in_err-token.ensures.0 c.in_err-token.ensures.1)

pub returns-then-not-is_word-clause-meets : goal.returns-then-not-is_word-clause-meets
returns-then-not-is_word-clause-meets g c not = row (peeks c.in_ok-token.ensures (no _ (sym c.is_word.ensures ∙ c.if-not-is_word.true) (refuses c.in_ok-token.ensures c.refused.ensures)))

pub returns-then-base-eq-LIMIT-clause-meets : goal.returns-then-base-eq-LIMIT-clause-meets
returns-then-base-eq-LIMIT-clause-meets g c not = row (peeks c.in_ok-token.ensures (yes (refuse None) (sym c.is_word.ensures ∙ c.if-not-is_word.false) (sinks {k = 1} (live_word w.Function _ (sym c.is_word.ensures ∙ c.if-not-is_word.false)) c.in_ok-token.ensures (omega arith))))

pub returns-in_err-units-clause-meets : goal.returns-in_err-units-clause-meets
returns-in_err-units-clause-meets g c = handed Declaration c.args.base (grammar Declaration) c.args.tokens.now c.from_residual-in_err-units.result c.from_residual-in_err-units.ensures.1
    (λ not. peeks c.in_ok-token.ensures (yes (refuse None) (sym c.is_word.ensures ∙ c.if-not-is_word.false) (rises {k = 1} (live_word w.Function _ (sym c.is_word.ensures ∙ c.if-not-is_word.false)) c.in_ok-token.ensures (omega arith) ((c.in_err-units.ensures not).row Declaration c.args.base _ parts))))

pub returns-in_err-names-clause-meets : goal.returns-in_err-names-clause-meets
returns-in_err-names-clause-meets g c = handed Declaration c.args.base (grammar Declaration) c.args.tokens.now c.from_residual-in_err-names.result c.from_residual-in_err-names.ensures.1
    (λ not. peeks c.in_ok-token.ensures (yes (refuse None) (sym c.is_word.ensures ∙ c.if-not-is_word.false) (rises {k = 1} (live_word w.Function _ (sym c.is_word.ensures ∙ c.if-not-is_word.false)) c.in_ok-token.ensures (omega arith) (c.in_ok-units.ensures.row Declaration c.args.base _ parts _ ((c.in_err-names.ensures.takes not).row Declaration _ (λ names body. give (declaration_of c.in_ok-units.units names body)))))))

pub returns-clause-meets : goal.returns-clause-meets
returns-clause-meets g c = row (peeks c.in_ok-token.ensures (yes (refuse None) (sym c.is_word.ensures ∙ c.if-not-is_word.false) (rises {k = 1} (live_word w.Function _ (sym c.is_word.ensures ∙ c.if-not-is_word.false)) c.in_ok-token.ensures (omega arith) (c.in_ok-units.ensures.row Declaration c.args.base _ parts _ (c.in_ok-names.ensures.takes.row Declaration _ (λ names body. give (declaration_of c.in_ok-units.units names body)) _ (gives c.make.ensures (omega arith)))))))
