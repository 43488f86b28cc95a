use Rattle.std.proofs.Common.{◌≢◌, refl, ap, sym, ◌∙◌, arith}
use Rattle.js_lexer.specs.declared.Mark.TheVariants as m
use Rattle.js_lexer.specs.declared.Reserved.TheVariants as w
use Rattle.script_grammar.specs.declared.stop.Stop.TheVariants.{Memory}
use Rattle.script_grammar.specs.Exprs as e
use Rattle.script_grammar.specs.Grammar.{grammar, plain, new_after}
use Rattle.script_grammar.specs.Rules.Rule.{give, peek}
use Rattle.script_grammar.specs.Rules.Symbol.{New}
use Rattle.script_grammar.proofs.Along.{row, gives, refuses, peeks, peeks_end, eats, rises, sinks, yes, no, as_high, handed, handed_on}
use Rattle.script_grammar.proofs.Tokens.{live_mark, live_word}
use Rattle.expression_rows.specs.Parts.{TookOperand, MissesOperand}
use Rattle.expression_rows.proofs.Members.{passes_at, fails_at}
use Rattle.expression_rows.proofs.deeper.Grammar.+operands.Goals as goal

pub operand-returns-in_err-token-clause-row : goal.operand-returns-in_err-token-clause-row
operand-returns-in_err-token-clause-row g t c = handed_on (λ r. TookOperand c.args.calls c.args.base c.args.tokens.now r.0 r.1 r.2.now) (λ e. e ≢ Memory → MissesOperand c.args.calls c.args.base c.args.tokens.now e)
    c.from_residual.result c.from_residual.ensures.1 (λ not. record { row = λ n b k h rule so. peeks_end c.in_err-token.ensures.0 c.in_err-token.ensures.1 })

pub operand-returns-in_err-made-clause-row : goal.operand-returns-in_err-made-clause-row
operand-returns-in_err-made-clause-row g t c = handed_on (λ r. TookOperand c.args.calls c.args.base c.args.tokens.now r.0 r.1 r.2.now) (λ e. e ≢ Memory → MissesOperand c.args.calls c.args.base c.args.tokens.now e)
    c.from_residual-in_err-made.result c.from_residual-in_err-made.ensures.1 (λ not. record { row = λ n b k h rule so. peeks c.in_ok-token.ensures (yes _ (sym c.is_word.ensures ∙ c.if-is_word.true) (fails_at so (c.in_err-made.ensures.meets not))) })

pub operand-returns-in_err-whole-clause-row : goal.operand-returns-in_err-whole-clause-row
operand-returns-in_err-whole-clause-row g t c = handed_on (λ r. TookOperand c.args.calls c.args.base c.args.tokens.now r.0 r.1 r.2.now) (λ e. e ≢ Memory → MissesOperand c.args.calls c.args.base c.args.tokens.now e)
    c.from_residual-in_err-whole.result c.from_residual-in_err-whole.ensures.1 (λ not. record { row = λ n b k h rule so. peeks c.in_ok-token.ensures (yes _ (sym c.is_word.ensures ∙ c.if-is_word.true) (passes_at so c.in_ok-made.ensures.meets (fails_at so (c.in_err-whole.ensures.meets not)))) })

pub operand-returns-then-is_word-clause-row : goal.operand-returns-then-is_word-clause-row
operand-returns-then-is_word-clause-row g t c = record { row = λ n b k h rule o so w. peeks c.in_ok-token.ensures (yes _ (sym c.is_word.ensures ∙ c.if-is_word.true) (passes_at so c.in_ok-made.ensures.meets (passes_at so c.in_ok-whole.ensures.meets (as_high (omega arith) w)))) }

pub operand-returns-in_err-left-clause-row : goal.operand-returns-in_err-left-clause-row
operand-returns-in_err-left-clause-row g t c = handed_on (λ r. TookOperand c.args.calls c.args.base c.args.tokens.now r.0 r.1 r.2.now) (λ e. e ≢ Memory → MissesOperand c.args.calls c.args.base c.args.tokens.now e)
    c.from_residual-in_err-left.result c.from_residual-in_err-left.ensures.1 (λ not. record { row = λ n b k h rule so. peeks c.in_ok-token.ensures (no _ (sym c.is_word.ensures ∙ c.if-is_word.false) (fails_at so (c.in_err-left.ensures.meets not))) })

pub operand-returns-in_err-all-clause-row : goal.operand-returns-in_err-all-clause-row
operand-returns-in_err-all-clause-row g t c = handed_on (λ r. TookOperand c.args.calls c.args.base c.args.tokens.now r.0 r.1 r.2.now) (λ e. e ≢ Memory → MissesOperand c.args.calls c.args.base c.args.tokens.now e)
    c.from_residual-in_err-all.result c.from_residual-in_err-all.ensures.1 (λ not. record { row = λ n b k h rule so. peeks c.in_ok-token.ensures (no _ (sym c.is_word.ensures ∙ c.if-is_word.false) (passes_at so c.in_ok-left.ensures.meets (fails_at so (c.in_err-all.ensures.meets not)))) })

pub operand-returns-clause-row : goal.operand-returns-clause-row
operand-returns-clause-row g t c = record { row = λ n b k h rule o so w. peeks c.in_ok-token.ensures (no _ (sym c.is_word.ensures ∙ c.if-is_word.false) (passes_at so c.in_ok-left.ensures.meets (passes_at so c.in_ok-all.ensures.meets (as_high (omega arith) w)))) }

pub new-returns-in_err-token-clause-meets : goal.new-returns-in_err-token-clause-meets
new-returns-in_err-token-clause-meets g t c = handed New c.args.base (grammar New) c.args.tokens.now c.from_residual.result c.from_residual.ensures.1 (λ _. peeks_end c.in_err-token.ensures.0 c.in_err-token.ensures.1)

pub new-returns-then-not-is_word-clause-meets : goal.new-returns-then-not-is_word-clause-meets
new-returns-then-not-is_word-clause-meets g t c _ = row (peeks c.in_ok-token.ensures (no _ (sym c.is_word.ensures ∙ c.if-not-is_word.true) (refuses c.in_ok-token.ensures c.refused.ensures)))

pub new-returns-then-base-eq-LIMIT-clause-meets : goal.new-returns-then-base-eq-LIMIT-clause-meets
new-returns-then-base-eq-LIMIT-clause-meets g t c _ = row (peeks c.in_ok-token.ensures (yes _ (sym c.is_word.ensures ∙ c.if-not-is_word.false) (sinks (live_word w.New _ (sym c.is_word.ensures ∙ c.if-not-is_word.false)) c.in_ok-token.ensures (omega arith))))

pub new-returns-in_err-callee-clause-meets : goal.new-returns-in_err-callee-clause-meets
new-returns-in_err-callee-clause-meets g t c = handed New c.args.base (grammar New) c.args.tokens.now c.from_residual-in_err-callee.result c.from_residual-in_err-callee.ensures.1
    (λ not. peeks c.in_ok-token.ensures (yes _ (sym c.is_word.ensures ∙ c.if-not-is_word.false) (rises (live_word w.New _ (sym c.is_word.ensures ∙ c.if-not-is_word.false)) c.in_ok-token.ensures (omega arith) ((c.in_err-callee.ensures.row not).row _ _ 1 _ (λ callee. peek (new_after callee.expr)) refl))))

pub new-returns-then-not-is-clause-meets : goal.new-returns-then-not-is-clause-meets
new-returns-then-not-is-clause-meets g t c = row (peeks c.in_ok-token.ensures (yes _ (sym c.is_word.ensures ∙ c.if-not-is_word.false) (rises (live_word w.New _ (sym c.is_word.ensures ∙ c.if-not-is_word.false)) c.in_ok-token.ensures (omega arith) (c.in_ok-callee.ensures.row.row _ _ 1 _ (λ callee. peek (new_after callee.expr)) _ refl
    (peeks c.in-Ok.ensures (no _ (sym c.is.ensures ∙ c.if-not-is.true) (gives (c.plain.ensures ∙ ap plain c.in_ok-bare-in-Ok.ensures ∙ ap (λ x. plain (e.New c.in_ok-callee.callee.expr x)) c.new-none.ensures) (omega arith))))))))

pub new-returns-in_ok-made-in-Ok-given-clause-meets : goal.new-returns-in_ok-made-in-Ok-given-clause-meets
new-returns-in_ok-made-in-Ok-given-clause-meets g t c = row (peeks c.in_ok-token.ensures (yes _ (sym c.is_word.ensures ∙ c.if-not-is_word.false) (rises (live_word w.New _ (sym c.is_word.ensures ∙ c.if-not-is_word.false)) c.in_ok-token.ensures (omega arith) (c.in_ok-callee.ensures.row.row _ _ 1 _ (λ callee. peek (new_after callee.expr)) _ refl
    (peeks c.in-Ok.ensures (yes _ (sym c.is.ensures ∙ c.if-not-is.false) (eats (live_mark m.OpenParen _ (sym c.is.ensures ∙ c.if-not-is.false)) c.in-Ok.ensures (c.in-Ok-given.ensures.row.row _ _ (λ all _. give (plain (e.New c.in_ok-callee.callee.expr all))) _ (omega arith) (gives (c.plain-in-Ok-given.ensures ∙ ap plain c.in_ok-made-in-Ok-given.ensures) (omega arith))))))))))

pub new-returns-in-Err-given-clause-meets : goal.new-returns-in-Err-given-clause-meets
new-returns-in-Err-given-clause-meets g t c not = row (peeks c.in_ok-token.ensures (yes _ (sym c.is_word.ensures ∙ c.if-not-is_word.false) (rises (live_word w.New _ (sym c.is_word.ensures ∙ c.if-not-is_word.false)) c.in_ok-token.ensures (omega arith) (c.in_ok-callee.ensures.row.row _ _ 1 _ (λ callee. peek (new_after callee.expr)) _ refl
    (peeks c.in-Ok.ensures (yes _ (sym c.is.ensures ∙ c.if-not-is.false) (eats (live_mark m.OpenParen _ (sym c.is.ensures ∙ c.if-not-is.false)) c.in-Ok.ensures ((c.in-Err-given.ensures.row not).row _ _ (λ all _. give (plain (e.New c.in_ok-callee.callee.expr all)))))))))))

pub new-returns-in-Err-clause-meets : goal.new-returns-in-Err-clause-meets
new-returns-in-Err-clause-meets g t c _ = row (peeks c.in_ok-token.ensures (yes _ (sym c.is_word.ensures ∙ c.if-not-is_word.false) (rises (live_word w.New _ (sym c.is_word.ensures ∙ c.if-not-is_word.false)) c.in_ok-token.ensures (omega arith) (c.in_ok-callee.ensures.row.row _ _ 1 _ (λ callee. peek (new_after callee.expr)) _ refl
    (peeks_end c.in-Err.ensures.0 c.in-Err.ensures.1)))))
