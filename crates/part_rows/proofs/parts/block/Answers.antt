use Rattle.std.proofs.Common.{sym, ◌∙◌, arith}
use Rattle.script_grammar.proofs.Along.{row, gives, refuses, peeks, peeks_end, rises, sinks, passes, fails, yes, no, expects, misses, handed}
use Rattle.script_grammar.proofs.Tokens.{live_mark}
use Rattle.js_lexer.specs.declared.Mark.TheVariants as m
use Rattle.script_grammar.specs.Rules.Symbol.{Block}
use Rattle.script_grammar.specs.Grammar.{grammar}
use Rattle.script_grammar.specs.Rules.Rule.{refuse}
use Rattle.std.proofs.Common.{None}
use Rattle.part_rows.proofs.parts.block.Goals as goal

pub returns-in_err-token-clause-meets : goal.returns-in_err-token-clause-meets
returns-in_err-token-clause-meets g c = handed (Block c.args.around) c.args.base (grammar (Block c.args.around)) c.args.tokens.now c.from_residual.result c.from_residual.ensures.1 (λ not. peeks_end c.in_err-token.ensures.0 c.in_err-token.ensures.1)

pub returns-then-not-is-clause-meets : goal.returns-then-not-is-clause-meets
returns-then-not-is-clause-meets g c = λ not. row (peeks c.in_ok-token.ensures (no _ (sym c.is.ensures ∙ c.if-not-is.true) (refuses c.in_ok-token.ensures c.refused.ensures)))

pub returns-then-base-eq-LIMIT-clause-meets : goal.returns-then-base-eq-LIMIT-clause-meets
returns-then-base-eq-LIMIT-clause-meets g c = λ not. row (peeks c.in_ok-token.ensures (yes (refuse None) (sym c.is.ensures ∙ c.if-not-is.false) (sinks {k = 1} (live_mark m.OpenBrace _ (sym c.is.ensures ∙ c.if-not-is.false)) c.in_ok-token.ensures (omega arith))))

pub returns-in_err-all-clause-meets : goal.returns-in_err-all-clause-meets
returns-in_err-all-clause-meets g c = handed (Block c.args.around) c.args.base (grammar (Block c.args.around)) c.args.tokens.now c.from_residual-in_err-all.result c.from_residual-in_err-all.ensures.1 (λ not. peeks c.in_ok-token.ensures (yes (refuse None) (sym c.is.ensures ∙ c.if-not-is.false) (rises {k = 1} (live_mark m.OpenBrace _ (sym c.is.ensures ∙ c.if-not-is.false)) c.in_ok-token.ensures (omega arith) (fails (c.in_err-all.ensures.meets not)))))

pub returns-in-Ok-clause-meets : goal.returns-in-Ok-clause-meets
returns-in-Ok-clause-meets g c = row (peeks c.in_ok-token.ensures (yes (refuse None) (sym c.is.ensures ∙ c.if-not-is.false) (rises {k = 1} (live_mark m.OpenBrace _ (sym c.is.ensures ∙ c.if-not-is.false)) c.in_ok-token.ensures (omega arith)
    (passes c.in_ok-all.ensures.meets (expects c.in-Ok.ensures (gives c.block.ensures (omega arith)))))))

pub returns-in-Err-clause-meets : goal.returns-in-Err-clause-meets
returns-in-Err-clause-meets g c _ = row (peeks c.in_ok-token.ensures (yes (refuse None) (sym c.is.ensures ∙ c.if-not-is.false) (rises {k = 1} (live_mark m.OpenBrace _ (sym c.is.ensures ∙ c.if-not-is.false)) c.in_ok-token.ensures (omega arith)
    (passes c.in_ok-all.ensures.meets (misses _ _ c.in-Err.ensures)))))
