use Rattle.std.proofs.Common.{refl, sym, ◌∙◌, ap, arith}
use Rattle.js_lexer.specs.declared.Mark.TheVariants as m
use Rattle.script_grammar.specs.Grammar.{grammar, plain}
use Rattle.script_grammar.specs.Rules.Symbol.{Commas}
use Rattle.script_grammar.proofs.Along.{row, gives, peeks, peeks_end, rises, sinks, yes, no, passes, fails, handed}
use Rattle.script_grammar.proofs.Tokens.{live_mark}
use Rattle.expression_rows.proofs.Commas.{commas_read, commas_stopped}
use Rattle.expression_rows.proofs.deeper.Grammar.+commas.Goals as goal

pub returns-then-not-is-clause-meets : goal.returns-then-not-is-clause-meets
returns-then-not-is-clause-meets g t c = row (peeks c.in-Ok.ensures (no _ (sym c.is.ensures ∙ c.if-not-is.true) (gives refl refl)))

pub returns-then-deep-eq-LIMIT-clause-meets : goal.returns-then-deep-eq-LIMIT-clause-meets
returns-then-deep-eq-LIMIT-clause-meets g t c _ = let q = sym c.is.ensures ∙ c.if-not-is.false in
    row (peeks c.in-Ok.ensures (yes _ q (sinks (live_mark m.Comma _ q) c.in-Ok.ensures (omega arith))))

pub returns-in_err-all-in-Ok-deeper-clause-meets : goal.returns-in_err-all-in-Ok-deeper-clause-meets
returns-in_err-all-in-Ok-deeper-clause-meets g t c = let q = sym c.is.ensures ∙ c.if-not-is.false in
    handed (Commas c.args.no_in c.args.left c.args.height) c.args.base (grammar (Commas c.args.no_in c.args.left c.args.height)) c.args.tokens.now c.from_residual-in_err-all-in-Ok-deeper.result c.from_residual-in_err-all-in-Ok-deeper.ensures.1
    (λ not. peeks c.in-Ok.ensures (yes _ q (rises (live_mark m.Comma _ q) c.in-Ok.ensures (omega arith) (passes c.in-Ok-deeper.ensures.meets
    (commas_stopped (c.in_err-all-in-Ok-deeper.ensures.meets not) (c.plain-made.ensures ∙ ap plain c.in_ok-comma-in-Ok-deeper.ensures) (omega arith))))))

pub returns-in_ok-all-in-Ok-deeper-clause-meets : goal.returns-in_ok-all-in-Ok-deeper-clause-meets
returns-in_ok-all-in-Ok-deeper-clause-meets g t c = let q = sym c.is.ensures ∙ c.if-not-is.false in
    row (peeks c.in-Ok.ensures (yes _ q (rises (live_mark m.Comma _ q) c.in-Ok.ensures (omega arith) (passes c.in-Ok-deeper.ensures.meets
    (commas_read c.in_ok-all-in-Ok-deeper.ensures.meets (c.plain-made.ensures ∙ ap plain c.in_ok-comma-in-Ok-deeper.ensures) (omega arith) (gives refl (omega arith)))))))

pub returns-in-Err-deeper-clause-meets : goal.returns-in-Err-deeper-clause-meets
returns-in-Err-deeper-clause-meets g t c not = let q = sym c.is.ensures ∙ c.if-not-is.false in
    row (peeks c.in-Ok.ensures (yes _ q (rises (live_mark m.Comma _ q) c.in-Ok.ensures (omega arith) (fails (c.in-Err-deeper.ensures.meets not)))))

pub returns-in-Err-clause-meets : goal.returns-in-Err-clause-meets
returns-in-Err-clause-meets g t c _ = row (peeks_end c.in-Err.ensures.0 c.in-Err.ensures.1)
