use Rattle.std.proofs.Common.{Some, ◌∷◌, refl, ap, sym, ◌∙◌, ◌-◌, arith}
use Rattle.script_grammar.specs.Grammar.{grammar, plain, more_by}
use Rattle.script_grammar.specs.Rules.Symbol.{Binary, More}
use Rattle.script_grammar.proofs.Along.{row, gives, peeks, peeks_end, rises, sinks, by, passes, fails, passes_level, fails_level, at, onward, handed, handed_by}
use Rattle.script_grammar.proofs.Tokens.{live_infix}
use Rattle.expression_rows.proofs.Levels.{as_unary, level_fails, level_stops, level_reads, tighter_reads, tighter_fails, more_reads, more_stops}
use Rattle.expression_rows.proofs.deeper.Grammar.+levels.Goals as goal

pub binary-returns-then-level-eq0-clause-meets : goal.binary-returns-then-level-eq0-clause-meets
binary-returns-then-level-eq0-clause-meets g t c = as_unary c.args.no_in c.args.level c.args.base c.args.tokens.now c.unary.result c.if-level-eq0.true c.unary.ensures.meets

pub binary-returns-in_err-left-clause-meets : goal.binary-returns-in_err-left-clause-meets
binary-returns-in_err-left-clause-meets g t c = handed_by (Binary c.args.no_in c.args.level) c.args.base (grammar (Binary c.args.no_in c.args.level)) c.args.tokens.now c.from_residual.result c.from_residual.ensures.1
    (λ not. level_fails (c.args.level - 1) c.args.level (omega arith) (c.in_err-left.ensures.meets not))

pub binary-returns-in_err-all-clause-meets : goal.binary-returns-in_err-all-clause-meets
binary-returns-in_err-all-clause-meets g t c = handed_by (Binary c.args.no_in c.args.level) c.args.base (grammar (Binary c.args.no_in c.args.level)) c.args.tokens.now c.from_residual-in_err-all.result c.from_residual-in_err-all.ensures.1
    (λ not. level_stops (c.args.level - 1) c.args.level (omega arith) c.in_ok-left.ensures.meets (c.in_err-all.ensures.meets not))

pub binary-returns-clause-meets : goal.binary-returns-clause-meets
binary-returns-clause-meets g t c = level_reads (c.args.level - 1) c.args.level (omega arith) c.in_ok-left.ensures.meets (omega arith) c.in_ok-all.ensures.meets

pub more-returns-in-Some-clause-meets : goal.more-returns-in-Some-clause-meets
more-returns-in-Some-clause-meets g t c = onward c.operation.result (λ o w. peeks c.in-Ok.ensures (by (λ x. more_by c.args.no_in c.args.level c.args.left c.args.height x) c.in-Some.ensures (at c.in-Ok.ensures w)))
    (c.operation.ensures.after c.in-Ok.token.now (live_infix c.args.no_in c.args.level c.in-Ok.token.now _ (sym c.in-Some.ensures)))

pub more-returns-in-None-clause-meets : goal.more-returns-in-None-clause-meets
more-returns-in-None-clause-meets g t c = row (peeks c.in-Ok.ensures (by (λ x. more_by c.args.no_in c.args.level c.args.left c.args.height x) c.in-None.ensures (gives refl (omega arith))))

pub more-returns-in-Err-clause-meets : goal.more-returns-in-Err-clause-meets
more-returns-in-Err-clause-meets g t c _ = row (peeks_end c.in-Err.ensures.0 c.in-Err.ensures.1)

pub operation-returns-then-deep-eq-LIMIT-clause-after : goal.operation-returns-then-deep-eq-LIMIT-clause-after
operation-returns-then-deep-eq-LIMIT-clause-after g t c u live _ = row (sinks live refl (omega arith))

pub operation-returns-in_err-all-in-Ok-clause-after : goal.operation-returns-in_err-all-in-Ok-clause-after
operation-returns-in_err-all-in-Ok-clause-after g t c u live = handed (More c.args.no_in c.args.level c.args.left c.args.height) c.args.base (more_by c.args.no_in c.args.level c.args.left c.args.height (Some c.args.operator)) (u ∷ c.args.after.now) c.from_residual-in_err-all-in-Ok.result c.from_residual-in_err-all-in-Ok.ensures.1
    (λ not. rises live refl (omega arith) (passes (tighter_reads c.args.level (omega arith) c.in-Ok.ensures.meets) (fails_level (more_stops (c.plain-made.ensures ∙ ap plain c.in_ok-joined-in-Ok.ensures) (omega arith) (c.in_err-all-in-Ok.ensures.meets not)))))

pub operation-returns-in_ok-all-in-Ok-clause-after : goal.operation-returns-in_ok-all-in-Ok-clause-after
operation-returns-in_ok-all-in-Ok-clause-after g t c u live = row (rises live refl (omega arith) (passes (tighter_reads c.args.level (omega arith) c.in-Ok.ensures.meets)
    (passes_level (more_reads (c.plain-made.ensures ∙ ap plain c.in_ok-joined-in-Ok.ensures) (omega arith) c.in_ok-all-in-Ok.ensures.meets) (gives refl (omega arith)))))

pub operation-returns-in-Err-clause-after : goal.operation-returns-in-Err-clause-after
operation-returns-in-Err-clause-after g t c u live not = row (rises live refl (omega arith) (fails (tighter_fails c.args.level (omega arith) (c.in-Err.ensures.meets not))))
