use Rattle.std.specs.Prelude.{Ok, neg_ℤ, not}
use Rattle.std.proofs.Common.{ap, sym, ◌∙◌}
use Rattle.turk_base.specs.Values.{Number, Truth}
use Rattle.turk_base.specs.Operators.{and_then, bits_not}
use Rattle.js_tree.specs.Operate.{unary_result}
use Rattle.value_rows.proofs.Given.{refused_on}
use Rattle.value_cells.specs.Seen.{val_in}
use Rattle.value_rows.proofs.operators.unary.Goals as goal

pub returns-in_err-number-in-Plus-clause-value : goal.returns-in_err-number-in-Plus-clause-value
returns-in_err-number-in-Plus-clause-value c = λ nu. ap (λ o. unary_result o (val_in nu c.args.value.now)) c.in-Plus.is ∙ ap (λ a. and_then a (λ n. Ok (Number n))) (c.in_err-number-in-Plus.ensures nu) ∙ refused_on _ _ _ c.from_residual.ensures.1

pub returns-in_ok-number-in-Plus-clause-value : goal.returns-in_ok-number-in-Plus-clause-value
returns-in_ok-number-in-Plus-clause-value c = λ nu. ap (λ o. unary_result o (val_in nu c.args.value.now)) c.in-Plus.is ∙ ap (λ a. and_then a (λ n. Ok (Number n))) (c.in_ok-number-in-Plus.ensures nu)

pub returns-in_err-number-in-Minus-clause-value : goal.returns-in_err-number-in-Minus-clause-value
returns-in_err-number-in-Minus-clause-value c = λ nu. ap (λ o. unary_result o (val_in nu c.args.value.now)) c.in-Minus.is ∙ ap (λ a. and_then a (λ n. Ok (Number (neg_ℤ n)))) (c.in_err-number-in-Minus.ensures nu) ∙ refused_on _ _ _ c.from_residual-in_err-number-in-Minus.ensures.1

pub returns-in_ok-number-in-Minus-clause-value : goal.returns-in_ok-number-in-Minus-clause-value
returns-in_ok-number-in-Minus-clause-value c = λ nu. ap (λ o. unary_result o (val_in nu c.args.value.now)) c.in-Minus.is ∙ ap (λ a. and_then a (λ n. Ok (Number (neg_ℤ n)))) (c.in_ok-number-in-Minus.ensures nu) ∙ ap (λ n. Ok (Number n)) (sym c.neg.ensures)

pub returns-in_err-integer-in-BitNot-clause-value : goal.returns-in_err-integer-in-BitNot-clause-value
returns-in_err-integer-in-BitNot-clause-value c = λ nu. ap (λ o. unary_result o (val_in nu c.args.value.now)) c.in-BitNot.is ∙ ap (λ a. and_then a (λ n. Ok (Number (bits_not n)))) (c.in_err-integer-in-BitNot.ensures nu) ∙ refused_on _ _ _ c.from_residual-in_err-integer-in-BitNot.ensures.1

pub returns-in_ok-integer-in-BitNot-clause-value : goal.returns-in_ok-integer-in-BitNot-clause-value
returns-in_ok-integer-in-BitNot-clause-value c = λ nu. ap (λ o. unary_result o (val_in nu c.args.value.now)) c.in-BitNot.is ∙ ap (λ a. and_then a (λ n. Ok (Number (bits_not n)))) (c.in_ok-integer-in-BitNot.ensures nu) ∙ ap (λ n. Ok (Number n)) (sym c.not.ensures)

pub returns-in-Not-clause-value : goal.returns-in-Not-clause-value
returns-in-Not-clause-value c = λ nu. ap (λ o. unary_result o (val_in nu c.args.value.now)) c.in-Not.is ∙ ap (λ b. Ok (Truth (not b))) (c.truth.ensures nu)
