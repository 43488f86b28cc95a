use Rattle.std.proofs.Common.{◌+◌, ◌≤◌, refl, ap, sym, ◌∙◌, arith}
use Rattle.js_lexer.specs.declared.Mark.TheVariants as m
use Rattle.script_grammar.specs.Grammar.{grammar, plain}
use Rattle.script_grammar.specs.Rules.Symbol.{Conditional}
use Rattle.script_grammar.proofs.Along.{row, gives, peeks, peeks_end, rises, sinks, yes, no, passes_level, fails_level, handed}
use Rattle.script_grammar.proofs.Tokens.{live_mark}
use Rattle.expression_rows.proofs.deeper.Grammar.conditional.Goals as goal

pub returns-in_err-test-clause-meets : goal.returns-in_err-test-clause-meets
returns-in_err-test-clause-meets g c = handed (Conditional c.args.no_in) c.args.base (grammar (Conditional c.args.no_in)) c.args.tokens.now c.from_residual.result c.from_residual.ensures.1
    (λ not. fails_level (c.in_err-test.ensures.meets not))

pub returns-then-not-is-clause-meets : goal.returns-then-not-is-clause-meets
returns-then-not-is-clause-meets g c = row (passes_level c.in_ok-test.ensures.meets (peeks c.in-Ok.ensures (no _ (sym c.is.ensures ∙ c.if-not-is.true) (gives refl (omega arith)))))

pub returns-then-deep-eq-LIMIT-clause-meets : goal.returns-then-deep-eq-LIMIT-clause-meets
returns-then-deep-eq-LIMIT-clause-meets g c _ = let q = sym c.is.ensures ∙ c.if-not-is.false in
    row (passes_level c.in_ok-test.ensures.meets (peeks c.in-Ok.ensures (yes _ q (sinks (live_mark m.Question _ q) c.in-Ok.ensures (omega arith)))))

pub returns-in_ok-made-in-Ok-branches-clause-meets : goal.returns-in_ok-made-in-Ok-branches-clause-meets
returns-in_ok-made-in-Ok-branches-clause-meets g c = let low : c.args.base + c.in_ok-test.height ≤ 200 = c.in_ok-test.ensures.small in let q = sym c.is.ensures ∙ c.if-not-is.false in
    row (passes_level c.in_ok-test.ensures.meets (peeks c.in-Ok.ensures (yes _ q (rises (live_mark m.Question _ q) c.in-Ok.ensures (omega (arith, low))
    (c.in-Ok-branches.ensures.row.row _ _ _ _ (gives (c.plain.ensures ∙ ap plain c.in_ok-made-in-Ok-branches.ensures) (omega arith)))))))

pub returns-in-Err-branches-clause-meets : goal.returns-in-Err-branches-clause-meets
returns-in-Err-branches-clause-meets g c not = let low : c.args.base + c.in_ok-test.height ≤ 200 = c.in_ok-test.ensures.small in let q = sym c.is.ensures ∙ c.if-not-is.false in
    row (passes_level c.in_ok-test.ensures.meets (peeks c.in-Ok.ensures (yes _ q (rises (live_mark m.Question _ q) c.in-Ok.ensures (omega (arith, low))
    ((c.in-Err-branches.ensures.row not).row _ _ _)))))

pub returns-in-Err-clause-meets : goal.returns-in-Err-clause-meets
returns-in-Err-clause-meets g c _ = row (passes_level c.in_ok-test.ensures.meets (peeks_end c.in-Err.ensures.0 c.in-Err.ensures.1))
