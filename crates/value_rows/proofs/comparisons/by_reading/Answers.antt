use Rattle.std.proofs.Common.{ap, ◌∙◌}
use Rattle.turk_base.specs.Conversions.{reading}
use Rattle.turk_base.specs.Operators.{and_then, readings_equal}
use Rattle.value_cells.specs.Seen.{val_in}
use Rattle.convert_rules.specs.Prims.{reading_of, equal_of}
use Rattle.value_rows.proofs.Given.{refused_on}
use Rattle.value_rows.proofs.comparisons.by_reading.Goals as goal

pub returns-in_err-a : goal.returns-in_err-a
returns-in_err-a c = λ nu. ap (λ a. and_then a (λ m. and_then (reading (val_in nu c.args.y.now)) (λ n. readings_equal m n))) (c.in_err-a.ensures nu) ∙ refused_on _ _ _ c.from_residual.ensures.1

pub returns-in_err-b : goal.returns-in_err-b
returns-in_err-b c = λ nu. ap (λ a. and_then a (λ m. and_then (reading (val_in nu c.args.y.now)) (λ n. readings_equal m n))) (c.in_ok-a.ensures nu) ∙ ap (λ b. and_then b (λ n. readings_equal (reading_of c.in_ok-a.a) n)) (c.in_err-b.ensures nu) ∙ refused_on _ _ _ c.from_residual-in_err-b.ensures.1

pub returns-in-Some : goal.returns-in-Some
returns-in-Some c = λ nu. ap (λ a. and_then a (λ m. and_then (reading (val_in nu c.args.y.now)) (λ n. readings_equal m n))) (c.in_ok-a.ensures nu) ∙ ap (λ b. and_then b (λ n. readings_equal (reading_of c.in_ok-a.a) n)) (c.in_ok-b.ensures nu) ∙ c.readings_equal.ensures ∙ ap equal_of c.in-Some.is

pub returns-in-None : goal.returns-in-None
returns-in-None c = λ nu. ap (λ a. and_then a (λ m. and_then (reading (val_in nu c.args.y.now)) (λ n. readings_equal m n))) (c.in_ok-a.ensures nu) ∙ ap (λ b. and_then b (λ n. readings_equal (reading_of c.in_ok-a.a) n)) (c.in_ok-b.ensures nu) ∙ c.readings_equal.ensures ∙ ap equal_of c.in-None.is
