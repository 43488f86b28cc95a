use Rattle.std.specs.Prelude.{Ok}
use Rattle.std.proofs.Common.{ap, ◌∙◌}
use Rattle.turk_base.specs.Values.{Number}
use Rattle.turk_base.specs.Conversions.{integer_in}
use Rattle.turk_base.specs.Operators.{and_then}
use Rattle.value_cells.specs.Seen.{val_in}
use Rattle.value_rows.proofs.Given.{refused_pair}
use Rattle.value_rows.proofs.operators.two_integers.Goals as goal

pub returns-in_err-m : goal.returns-in_err-m
returns-in_err-m c = λ nu f. ap (λ a. and_then a (λ m. and_then (integer_in (val_in nu c.args.y.now)) (λ n. Ok (Number (f m n))))) (c.in_err-m.ensures nu) ∙ refused_pair _ _ _ c.from_residual.ensures.1

pub returns-in_err-n : goal.returns-in_err-n
returns-in_err-n c = λ nu f. ap (λ a. and_then a (λ m. and_then (integer_in (val_in nu c.args.y.now)) (λ n. Ok (Number (f m n))))) (c.in_ok-m.ensures nu) ∙ ap (λ b. and_then b (λ n. Ok (Number (f c.in_ok-m.m n)))) (c.in_err-n.ensures nu) ∙ refused_pair _ _ _ c.from_residual-in_err-n.ensures.1

pub returns : goal.returns
returns c = λ nu f. ap (λ a. and_then a (λ m. and_then (integer_in (val_in nu c.args.y.now)) (λ n. Ok (Number (f m n))))) (c.in_ok-m.ensures nu) ∙ ap (λ b. and_then b (λ n. Ok (Number (f c.in_ok-m.m n)))) (c.in_ok-n.ensures nu)
