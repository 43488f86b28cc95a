use Rattle.std.proofs.Common.{◌+◌, ◌≤◌, refl, ap, sym, ◌∙◌, arith}
use Rattle.script_grammar.specs.Grammar.{grammar, plain}
use Rattle.script_grammar.specs.Rules.Symbol.{Postfix}
use Rattle.script_grammar.proofs.Along.{row, gives, peeks, peeks_end, rises, sinks, passes_level, fails_level, handed}
use Rattle.expression_rows.proofs.Unaries.{live_after, stepped}
use Rattle.expression_rows.proofs.deeper.Grammar.postfix.Goals as goal

pub returns-in_err-left-clause-meets : goal.returns-in_err-left-clause-meets
returns-in_err-left-clause-meets g c = handed Postfix c.args.base (grammar Postfix) c.args.tokens.now c.from_residual.result c.from_residual.ensures.1 (λ not. fails_level (c.in_err-left.ensures.meets not))

pub returns-then-deep-eq-LIMIT-clause-meets : goal.returns-then-deep-eq-LIMIT-clause-meets
returns-then-deep-eq-LIMIT-clause-meets g c _ = row (passes_level c.in_ok-left.ensures.meets (peeks c.in-Ok.ensures (stepped c.in_ok-left.height c.in_ok-left.left c.in-Ok.token.now _ c.in-Some.ensures (sinks (live_after c.in_ok-left.left.target c.in-Ok.token.now _ c.in-Some.ensures) c.in-Ok.ensures (omega arith)))))

pub returns-in_ok-made-in-Some-clause-meets : goal.returns-in_ok-made-in-Some-clause-meets
returns-in_ok-made-in-Some-clause-meets g c = let low : c.args.base + c.in_ok-left.height ≤ 200 = c.in_ok-left.ensures.small in row (passes_level c.in_ok-left.ensures.meets (peeks c.in-Ok.ensures (stepped c.in_ok-left.height c.in_ok-left.left c.in-Ok.token.now _ c.in-Some.ensures (rises (live_after c.in_ok-left.left.target c.in-Ok.token.now _ c.in-Some.ensures) c.in-Ok.ensures (omega (arith, low))
    (gives (c.plain.ensures ∙ ap plain c.in_ok-made-in-Some.ensures) (omega arith))))))

pub returns-in-None-clause-meets : goal.returns-in-None-clause-meets
returns-in-None-clause-meets g c = row (passes_level c.in_ok-left.ensures.meets (peeks c.in-Ok.ensures (stepped c.in_ok-left.height c.in_ok-left.left c.in-Ok.token.now _ c.in-None.ensures (gives refl (omega arith)))))

pub returns-in-Err-clause-meets : goal.returns-in-Err-clause-meets
returns-in-Err-clause-meets g c _ = row (passes_level c.in_ok-left.ensures.meets (peeks_end c.in-Err.ensures.0 c.in-Err.ensures.1))
