use Rattle.std.proofs.Common.{◌≢◌, ◌∷◌, refl, ap, sym, ◌∙◌, arith}
use Rattle.script_grammar.specs.Grammar.{grammar, plain, unary_by}
use Rattle.script_grammar.specs.Rules.Symbol.{Unary}
use Rattle.script_grammar.specs.declared.classes.Prefix.TheVariants as prefix
use Rattle.script_grammar.proofs.Along.{row, gives, refuses, peeks, peeks_end, rises, sinks, by, yes, no, passes, fails, passes_level, fails_level, at, onward, handed, handed_on}
use Rattle.script_grammar.proofs.Tokens.{live_prefix}
use Rattle.expression_rows.proofs.Unaries.{as_postfix, is_beneath, refuses_end}
use Rattle.expression_rows.proofs.deeper.Grammar.+operators.Goals as goal

pub unary-returns-in_err-token-clause-meets : goal.unary-returns-in_err-token-clause-meets
unary-returns-in_err-token-clause-meets g t c = handed Unary c.args.base (grammar Unary) c.args.tokens.now c.from_residual.result c.from_residual.ensures.1 (λ _. peeks_end c.in_err-token.ensures.0 c.in_err-token.ensures.1)

pub unary-returns-in-Delete-clause-meets : goal.unary-returns-in-Delete-clause-meets
unary-returns-in-Delete-clause-meets g t c = onward c.delete.result (λ o w. peeks c.in_ok-token.ensures (by unary_by c.in-Delete.ensures (at c.in_ok-token.ensures w))) (c.delete.ensures.after c.in_ok-token.token.now (live_prefix c.in_ok-token.token.now _ (sym c.in-Delete.ensures) (λ q. cc)))

pub unary-returns-in-Update-clause-meets : goal.unary-returns-in-Update-clause-meets
unary-returns-in-Update-clause-meets g t c = onward c.update.result (λ o w. peeks c.in_ok-token.ensures (by unary_by c.in-Update.ensures (at c.in_ok-token.ensures w))) (c.update.ensures.after c.in_ok-token.token.now (live_prefix c.in_ok-token.token.now _ (sym c.in-Update.ensures) (λ q. cc)))

pub unary-returns-in_err-operand-in-Void-clause-meets : goal.unary-returns-in_err-operand-in-Void-clause-meets
unary-returns-in_err-operand-in-Void-clause-meets g t c = handed Unary c.args.base (grammar Unary) c.args.tokens.now c.from_residual-in_err-operand-in-Void.result c.from_residual-in_err-operand-in-Void.ensures.1
    (λ not. peeks c.in_ok-token.ensures (by unary_by c.in-Void.ensures (at c.in_ok-token.ensures ((c.in_err-operand-in-Void.ensures.row not).row _ _ _ (live_prefix c.in_ok-token.token.now _ (sym c.in-Void.ensures) (λ q. cc))))))

pub unary-returns-in_ok-void-in-Void-clause-meets : goal.unary-returns-in_ok-void-in-Void-clause-meets
unary-returns-in_ok-void-in-Void-clause-meets g t c = row (peeks c.in_ok-token.ensures (by unary_by c.in-Void.ensures (at c.in_ok-token.ensures (c.in_ok-operand-in-Void.ensures.row.row _ _ _ _ (live_prefix c.in_ok-token.token.now _ (sym c.in-Void.ensures) (λ q. cc)) (gives (c.plain.ensures ∙ ap plain c.in_ok-void-in-Void.ensures) (omega arith))))))

pub unary-returns-in_err-operand-in-Typeof-clause-meets : goal.unary-returns-in_err-operand-in-Typeof-clause-meets
unary-returns-in_err-operand-in-Typeof-clause-meets g t c = handed Unary c.args.base (grammar Unary) c.args.tokens.now c.from_residual-in_err-operand-in-Typeof.result c.from_residual-in_err-operand-in-Typeof.ensures.1
    (λ not. peeks c.in_ok-token.ensures (by unary_by c.in-Typeof.ensures (at c.in_ok-token.ensures ((c.in_err-operand-in-Typeof.ensures.row not).row _ _ _ (live_prefix c.in_ok-token.token.now _ (sym c.in-Typeof.ensures) (λ q. cc))))))

pub unary-returns-in_ok-type_of-in-Typeof-clause-meets : goal.unary-returns-in_ok-type_of-in-Typeof-clause-meets
unary-returns-in_ok-type_of-in-Typeof-clause-meets g t c = row (peeks c.in_ok-token.ensures (by unary_by c.in-Typeof.ensures (at c.in_ok-token.ensures (c.in_ok-operand-in-Typeof.ensures.row.row _ _ _ _ (live_prefix c.in_ok-token.token.now _ (sym c.in-Typeof.ensures) (λ q. cc)) (gives (c.plain-in-Typeof.ensures ∙ ap plain c.in_ok-type_of-in-Typeof.ensures) (omega arith))))))

pub unary-returns-in_err-operand-in-Signed-clause-meets : goal.unary-returns-in_err-operand-in-Signed-clause-meets
unary-returns-in_err-operand-in-Signed-clause-meets g t c = handed Unary c.args.base (grammar Unary) c.args.tokens.now c.from_residual-in_err-operand-in-Signed.result c.from_residual-in_err-operand-in-Signed.ensures.1
    (λ not. peeks c.in_ok-token.ensures (by unary_by c.in-Signed.ensures (at c.in_ok-token.ensures ((c.in_err-operand-in-Signed.ensures.row not).row _ _ _ (live_prefix c.in_ok-token.token.now _ (sym c.in-Signed.ensures) (λ q. cc))))))

pub unary-returns-in_ok-unary-in-Signed-clause-meets : goal.unary-returns-in_ok-unary-in-Signed-clause-meets
unary-returns-in_ok-unary-in-Signed-clause-meets g t c = row (peeks c.in_ok-token.ensures (by unary_by c.in-Signed.ensures (at c.in_ok-token.ensures (c.in_ok-operand-in-Signed.ensures.row.row _ _ _ _ (live_prefix c.in_ok-token.token.now _ (sym c.in-Signed.ensures) (λ q. cc)) (gives (c.plain-in-Signed.ensures ∙ ap plain c.in_ok-unary-in-Signed.ensures) (omega arith))))))

pub unary-returns-in-Neither-clause-meets : goal.unary-returns-in-Neither-clause-meets
unary-returns-in-Neither-clause-meets g t c = as_postfix c.args.base c.postfix.result c.in_ok-token.ensures c.in-Neither.ensures c.postfix.ensures.meets

pub beneath-returns-then-base-eq-LIMIT-clause-row : goal.beneath-returns-then-base-eq-LIMIT-clause-row
beneath-returns-then-base-eq-LIMIT-clause-row g t c = λ _. record { row = λ u h rule live. sinks live refl (omega arith) }

pub beneath-returns-clause-row : goal.beneath-returns-clause-row
beneath-returns-clause-row g t c = is_beneath c.args.base c.args.rest.now c.unary.result (omega arith) c.unary.ensures.meets

pub delete-returns-then-base-eq-LIMIT-clause-after : goal.delete-returns-then-base-eq-LIMIT-clause-after
delete-returns-then-base-eq-LIMIT-clause-after g t c u live _ = row (sinks live refl (omega arith))

pub delete-returns-in_err-token-clause-after : goal.delete-returns-in_err-token-clause-after
delete-returns-in_err-token-clause-after g t c u live = handed Unary c.args.base (unary_by prefix.Delete) (u ∷ c.args.rest.now) c.from_residual.result c.from_residual.ensures.1 (λ _. rises live refl (omega arith) (peeks_end c.in_err-token.ensures.0 c.in_err-token.ensures.1))

pub delete-returns-in_err-operand-clause-after : goal.delete-returns-in_err-operand-clause-after
delete-returns-in_err-operand-clause-after g t c u live = handed Unary c.args.base (unary_by prefix.Delete) (u ∷ c.args.rest.now) c.from_residual-in_err-operand.result c.from_residual-in_err-operand.ensures.1
    (λ not. rises live refl (omega arith) (peeks c.in_ok-token.ensures (yes _ (sym c.prefixed.ensures ∙ c.if-prefixed.true) (fails (c.in_err-operand.ensures.meets not)))))

pub delete-returns-in_err-next-clause-after : goal.delete-returns-in_err-next-clause-after
delete-returns-in_err-next-clause-after g t c u live = handed Unary c.args.base (unary_by prefix.Delete) (u ∷ c.args.rest.now) c.from_residual-in_err-next.result c.from_residual-in_err-next.ensures.1
    (λ not. rises live refl (omega arith) (peeks c.in_ok-token.ensures (yes _ (sym c.prefixed.ensures ∙ c.if-prefixed.true) (passes c.in_ok-operand.ensures.meets (refuses_end _ c.in_err-next.ensures.0 c.in_err-next.ensures.1)))))

pub delete-returns-then-prefixed-clause-after : goal.delete-returns-then-prefixed-clause-after
delete-returns-then-prefixed-clause-after g t c u live _ = row (rises live refl (omega arith) (peeks c.in_ok-token.ensures (yes _ (sym c.prefixed.ensures ∙ c.if-prefixed.true) (passes c.in_ok-operand.ensures.meets (refuses c.in_ok-next.ensures c.refused.ensures)))))

pub delete-returns-in_err-made-clause-after : goal.delete-returns-in_err-made-clause-after
delete-returns-in_err-made-clause-after g t c u live = handed Unary c.args.base (unary_by prefix.Delete) (u ∷ c.args.rest.now) c.from_residual-in_err-made.result c.from_residual-in_err-made.ensures.1
    (λ not. rises live refl (omega arith) (peeks c.in_ok-token.ensures (no _ (sym c.prefixed.ensures ∙ c.if-prefixed.false) (yes _ (sym c.is_word.ensures ∙ c.if-is_word.true) (fails (c.in_err-made.ensures.meets not))))))

pub delete-returns-in_err-member-clause-after : goal.delete-returns-in_err-member-clause-after
delete-returns-in_err-member-clause-after g t c u live = handed Unary c.args.base (unary_by prefix.Delete) (u ∷ c.args.rest.now) c.from_residual-in_err-member.result c.from_residual-in_err-member.ensures.1
    (λ not. rises live refl (omega arith) (peeks c.in_ok-token.ensures (no _ (sym c.prefixed.ensures ∙ c.if-prefixed.false) (yes _ (sym c.is_word.ensures ∙ c.if-is_word.true) (passes c.in_ok-made.ensures.meets (fails_level (c.in_err-member.ensures.meets not)))))))

pub delete-returns-then-is_word-clause-after : goal.delete-returns-then-is_word-clause-after
delete-returns-then-is_word-clause-after g t c u live = row (rises live refl (omega arith) (peeks c.in_ok-token.ensures (no _ (sym c.prefixed.ensures ∙ c.if-prefixed.false) (yes _ (sym c.is_word.ensures ∙ c.if-is_word.true) (passes c.in_ok-made.ensures.meets (passes_level c.in_ok-member.ensures.meets (gives refl (omega arith))))))))

pub delete-returns-in_err-left-clause-after : goal.delete-returns-in_err-left-clause-after
delete-returns-in_err-left-clause-after g t c u live = handed Unary c.args.base (unary_by prefix.Delete) (u ∷ c.args.rest.now) c.from_residual-in_err-left.result c.from_residual-in_err-left.ensures.1
    (λ not. rises live refl (omega arith) (peeks c.in_ok-token.ensures (no _ (sym c.prefixed.ensures ∙ c.if-prefixed.false) (no _ (sym c.is_word.ensures ∙ c.if-is_word.false) (fails (c.in_err-left.ensures.meets not))))))

pub delete-returns-in_err-all-clause-after : goal.delete-returns-in_err-all-clause-after
delete-returns-in_err-all-clause-after g t c u live = handed Unary c.args.base (unary_by prefix.Delete) (u ∷ c.args.rest.now) c.from_residual-in_err-all.result c.from_residual-in_err-all.ensures.1
    (λ not. rises live refl (omega arith) (peeks c.in_ok-token.ensures (no _ (sym c.prefixed.ensures ∙ c.if-prefixed.false) (no _ (sym c.is_word.ensures ∙ c.if-is_word.false) (passes c.in_ok-left.ensures.meets (fails_level (c.in_err-all.ensures.meets not)))))))

pub delete-returns-clause-after : goal.delete-returns-clause-after
delete-returns-clause-after g t c u live = row (rises live refl (omega arith) (peeks c.in_ok-token.ensures (no _ (sym c.prefixed.ensures ∙ c.if-prefixed.false) (no _ (sym c.is_word.ensures ∙ c.if-is_word.false) (passes c.in_ok-left.ensures.meets (passes_level c.in_ok-all.ensures.meets (gives refl (omega arith))))))))
