use Rattle.std.proofs.Common.{refl, sym, ap, ◌∙◌, Ok, Err}
use Rattle.turk_base.specs.Values as model
use Rattle.turk_base.specs.Conversions.{integer_in}
use Rattle.turk_base.specs.Prog.{made, value}
use Rattle.turk_base.specs.BuiltIns as spec
use Rattle.value_cells.specs.Seen.{val_in}
use Rattle.value_cells.proofs.Turns.{onward_then}
use Rattle.builtin_calls.proofs.Moves.{runs_out, onward_eq, onward_out, runs_value, given_takes}
use Rattle.builtin_calls.proofs.texts.char_at.Goals as goal

pub returns-in_err-at-clause-did : goal.returns-in_err-at-clause-did
returns-in_err-at-clause-did g c = runs_out _ c.in_err-at.field-0.0 c.from_residual.result c.from_residual.ensures.1
    ((given_takes (λ nu. integer_in (val_in nu c.args.place.now)) (λ z. z) _ (Err c.in_err-at.field-0.0) c.in_err-at.ensures).ends (λ nu at. made (spec.unit_text (spec.unit_at at c.args.this.now)) (λ u. value (model.Text u))))

pub returns-in_err-paid-clause-did : goal.returns-in_err-paid-clause-did
returns-in_err-paid-clause-did g c = runs_out _ c.in_err-paid.field-0.0 c.from_residual-in_err-paid.result c.from_residual-in_err-paid.ensures.1
    (onward_out c.in_err-paid.field-0.0
    (onward_then ((given_takes (λ nu. integer_in (val_in nu c.args.place.now)) (λ z. z) _ (Ok c.in_ok-at.at) c.in_ok-at.ensures).goes (λ nu at. made (spec.unit_text (spec.unit_at at c.args.this.now)) (λ u. value (model.Text u))))
    (onward_eq (λ nu. ap (λ t. made t (λ u. value (model.Text u))) (sym (c.in_ok-text.ensures ∙ ap spec.unit_text c.unit_at-unit.ensures)))))
    (c.in_err-paid.ensures.did.ends (λ nu u. value (model.Text u))))

pub returns-clause-did : goal.returns-clause-did
returns-clause-did g c = runs_value (λ nu. model.Text c.in_ok-paid.field-0) (λ nu. model.Text c.in_ok-paid.field-0)
    (onward_then (onward_then ((given_takes (λ nu. integer_in (val_in nu c.args.place.now)) (λ z. z) _ (Ok c.in_ok-at.at) c.in_ok-at.ensures).goes (λ nu at. made (spec.unit_text (spec.unit_at at c.args.this.now)) (λ u. value (model.Text u))))
    (onward_eq (λ nu. ap (λ t. made t (λ u. value (model.Text u))) (sym (c.in_ok-text.ensures ∙ ap spec.unit_text c.unit_at-unit.ensures)))))
    (c.in_ok-paid.ensures.did.goes (λ nu u. value (model.Text u))))
    (λ nu. refl)
