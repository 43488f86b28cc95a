use Rattle.std.proofs.Common.{◌+◌, ◌≤◌, refl, ap, sym, ◌∙◌, arith}
use Rattle.script_grammar.specs.Grammar.{grammar, plain, assign_by}
use Rattle.script_grammar.specs.Rules.Symbol.{Assign}
use Rattle.script_grammar.proofs.Along.{row, gives, peeks, peeks_end, rises, sinks, by, yes, no, passes, fails, passes_level, fails_level, handed}
use Rattle.script_grammar.proofs.Tokens.{live_assign}
use Rattle.expression_rows.proofs.Negations.{not_true, not_false}
use Rattle.expression_rows.proofs.deeper.Grammar.assignment.Goals as goal

pub returns-in_err-left-clause-meets : goal.returns-in_err-left-clause-meets
returns-in_err-left-clause-meets g c = handed (Assign c.args.no_in) c.args.base (grammar (Assign c.args.no_in)) c.args.tokens.now c.from_residual.result c.from_residual.ensures.1
    (λ not. fails_level (c.in_err-left.ensures.meets not))

pub returns-then-not-left-clause-meets : goal.returns-then-not-left-clause-meets
returns-then-not-left-clause-meets g c = row (passes_level c.in_ok-left.ensures.meets (peeks c.in-Ok.ensures (by (λ x. assign_by c.in_ok-left.left c.in_ok-left.height x) c.in-Some.ensures (no _ (not_true c.in_ok-left.left.target c.if-not-left.true) (gives refl (omega arith))))))

pub returns-then-deep-eq-LIMIT-clause-meets : goal.returns-then-deep-eq-LIMIT-clause-meets
returns-then-deep-eq-LIMIT-clause-meets g c _ = row (passes_level c.in_ok-left.ensures.meets (peeks c.in-Ok.ensures (by (λ x. assign_by c.in_ok-left.left c.in_ok-left.height x) c.in-Some.ensures (yes _ (not_false c.in_ok-left.left.target c.if-not-left.false)
    (sinks (live_assign _ _ (sym c.in-Some.ensures)) c.in-Ok.ensures (omega arith))))))

pub returns-in_ok-made-in-Ok-deeper-clause-meets : goal.returns-in_ok-made-in-Ok-deeper-clause-meets
returns-in_ok-made-in-Ok-deeper-clause-meets g c = let low : c.args.base + c.in_ok-left.height ≤ 200 = c.in_ok-left.ensures.small in row (passes_level c.in_ok-left.ensures.meets (peeks c.in-Ok.ensures (by (λ x. assign_by c.in_ok-left.left c.in_ok-left.height x) c.in-Some.ensures (yes _ (not_false c.in_ok-left.left.target c.if-not-left.false)
    (rises (live_assign _ _ (sym c.in-Some.ensures)) c.in-Ok.ensures (omega (arith, low)) (passes c.in-Ok-deeper.ensures.meets (gives (c.plain.ensures ∙ ap plain c.in_ok-made-in-Ok-deeper.ensures) (omega arith))))))))

pub returns-in-Err-deeper-clause-meets : goal.returns-in-Err-deeper-clause-meets
returns-in-Err-deeper-clause-meets g c not = let low : c.args.base + c.in_ok-left.height ≤ 200 = c.in_ok-left.ensures.small in row (passes_level c.in_ok-left.ensures.meets (peeks c.in-Ok.ensures (by (λ x. assign_by c.in_ok-left.left c.in_ok-left.height x) c.in-Some.ensures (yes _ (not_false c.in_ok-left.left.target c.if-not-left.false)
    (rises (live_assign _ _ (sym c.in-Some.ensures)) c.in-Ok.ensures (omega (arith, low)) (fails (c.in-Err-deeper.ensures.meets not)))))))

pub returns-in-None-clause-meets : goal.returns-in-None-clause-meets
returns-in-None-clause-meets g c = row (passes_level c.in_ok-left.ensures.meets (peeks c.in-Ok.ensures (by (λ x. assign_by c.in_ok-left.left c.in_ok-left.height x) c.in-None.ensures (gives refl (omega arith)))))

pub returns-in-Err-clause-meets : goal.returns-in-Err-clause-meets
returns-in-Err-clause-meets g c _ = row (passes_level c.in_ok-left.ensures.meets (peeks_end c.in-Err.ensures.0 c.in-Err.ensures.1))
