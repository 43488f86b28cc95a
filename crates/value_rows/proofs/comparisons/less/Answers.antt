use Rattle.std.specs.Prelude.{Ok, not}
use Rattle.std.proofs.Common.{◌≡◌, ap, sym, ◌∙◌}
use Rattle.turk_base.specs.Names.{Units}
use Rattle.turk_base.specs.Values.{Truth, Text}
use Rattle.turk_base.specs.Operators.{and_then, ordered, less}
use Rattle.value_cells.specs.declared.Value.TheVariants as code
use Rattle.value_cells.specs.Seen.{val_in}
use Rattle.host_steps.specs.Answered.{answer_of}
use Rattle.value_rows.specs.Compare.{numbers_in}
use Rattle.value_rows.proofs.Given.{numbers_compared, refused_on}
use Rattle.value_rows.proofs.comparisons.less.Goals.{in_default-via-in-Text+in_default, in_default-via-in_default}
use Rattle.value_rows.proofs.comparisons.less.Goals as goal

pub returns-in-Text-Text-clause-value : goal.returns-in-Text-Text-clause-value
returns-in-Text-Text-clause-value c = λ nu. ap (λ v. ordered less (val_in nu v) (val_in nu c.args.y.now)) c.in-Text-Text.is-0 ∙ ap (λ v. ordered less (Text c.in-Text-Text.s) (val_in nu v)) c.in-Text-Text.is-1 ∙ ap (λ b. Ok (Truth (b))) c.is_before.ensures

pub returns-in_err-sides-in_default-clause-value : goal.returns-in_err-sides-in_default-clause-value
returns-in_err-sides-in_default-clause-value c = let n : (s t : Units) → c.args.x.now ≡ code.Text s → c.args.y.now ≡ code.Text t → ⊥ = λ s t e f. elim c.in_default.branch [ in_default-via-in-Text+in_default w ↦ w.in_default.not-Text-1 t f | in_default-via-in_default w ↦ w.in_default.not-Text-0 s e ] in
    λ nu. numbers_compared less c.args.x.now c.args.y.now n nu ∙ ap (λ p. and_then p (λ p. Ok (Truth (less p)))) (c.in_err-sides-in_default.ensures nu) ∙ refused_on _ _ _ c.from_residual.ensures.1

pub returns-in-Some-clause-value : goal.returns-in-Some-clause-value
returns-in-Some-clause-value c = let n : (s t : Units) → c.args.x.now ≡ code.Text s → c.args.y.now ≡ code.Text t → ⊥ = λ s t e f. elim c.in_default.branch [ in_default-via-in-Text+in_default w ↦ w.in_default.not-Text-1 t f | in_default-via-in_default w ↦ w.in_default.not-Text-0 s e ] in
    λ nu. numbers_compared less c.args.x.now c.args.y.now n nu ∙ ap (λ p. and_then p (λ p. Ok (Truth (less p)))) (c.in_ok-sides-in_default.ensures nu ∙ ap (λ o. Ok (numbers_in o)) c.in-Some.is) ∙ ap (λ b. Ok (Truth b)) c.is_lower.ensures

pub returns-in-None-clause-value : goal.returns-in-None-clause-value
returns-in-None-clause-value c = let n : (s t : Units) → c.args.x.now ≡ code.Text s → c.args.y.now ≡ code.Text t → ⊥ = λ s t e f. elim c.in_default.branch [ in_default-via-in-Text+in_default w ↦ w.in_default.not-Text-1 t f | in_default-via-in_default w ↦ w.in_default.not-Text-0 s e ] in
    λ nu. numbers_compared less c.args.x.now c.args.y.now n nu ∙ ap (λ p. and_then p (λ p. Ok (Truth (less p)))) (c.in_ok-sides-in_default.ensures nu ∙ ap (λ o. Ok (numbers_in o)) c.in-None.is)
