use Rattle.std.proofs.Common.{ap, ◌∙◌}
use Rattle.turk_base.specs.Conversions.{reading}
use Rattle.turk_base.specs.Operators.{and_then, numbers_of}
use Rattle.value_cells.specs.Seen.{val_in}
use Rattle.convert_rules.specs.Prims.{reading_of}
use Rattle.value_rows.proofs.Given.{refused_on}
use Rattle.value_rows.proofs.comparisons.numbers.Goals as goal

pub returns-in_err-m : goal.returns-in_err-m
returns-in_err-m c = λ nu. ap (λ a. and_then a (λ m. and_then (reading (val_in nu c.args.y.now)) (λ n. numbers_of m n))) (c.in_err-m.ensures nu) ∙ refused_on _ _ _ c.from_residual.ensures.1

pub returns-in_err-n : goal.returns-in_err-n
returns-in_err-n c = λ nu. ap (λ a. and_then a (λ m. and_then (reading (val_in nu c.args.y.now)) (λ n. numbers_of m n))) (c.in_ok-m.ensures nu) ∙ ap (λ b. and_then b (λ n. numbers_of (reading_of c.in_ok-m.m) n)) (c.in_err-n.ensures nu) ∙ refused_on _ _ _ c.from_residual-in_err-n.ensures.1

pub returns : goal.returns
returns c = λ nu. ap (λ a. and_then a (λ m. and_then (reading (val_in nu c.args.y.now)) (λ n. numbers_of m n))) (c.in_ok-m.ensures nu) ∙ ap (λ b. and_then b (λ n. numbers_of (reading_of c.in_ok-m.m) n)) (c.in_ok-n.ensures nu) ∙ c.numbers_of.ensures
