use Rattle.std.proofs.Common.{refl, ap, Ok, Err, Some}
use Rattle.turk_base.specs.Values as model
use Rattle.turk_base.specs.Prog.{value}
use Rattle.turk_base.specs.Errors.{error_cell}
use Rattle.turk_base.specs.BuiltIns as spec
use Rattle.value_cells.specs.declared.CellKind.TheVariants as kind
use Rattle.value_cells.specs.Seen.{val_in}
use Rattle.value_cells.proofs.Turns.{onward_then}
use Rattle.builtin_calls.proofs.Moves.{runs_out, onward_eq, onward_out, runs_value, make_takes, other_error}
use Rattle.builtin_calls.proofs.errors.error_of.Goals as goal

pub returns-in_err-cell-clause-did : goal.returns-in_err-cell-clause-did
returns-in_err-cell-clause-did g c = runs_out _ c.in_err-cell.field-0.0 c.from_residual.result c.from_residual.ensures.1 (onward_out c.in_err-cell.field-0.0
    (onward_eq (λ nu. ap (λ v. spec.error_of (nu c.args.prototype) (val_in nu v)) c.in-Undefined.is))
    ((make_takes (kind.Plain (Some c.args.prototype)) (Err c.in_err-cell.field-0.0) c.in_err-cell.ensures.did).ends (λ nu a. value (model.Object a))))

pub returns-in-Undefined-clause-did : goal.returns-in-Undefined-clause-did
returns-in-Undefined-clause-did g c = runs_value (λ nu. model.Object (nu c.in_ok-cell.cell)) (λ nu. model.Object (nu c.in_ok-cell.cell))
    (onward_then (onward_eq (λ nu. ap (λ v. spec.error_of (nu c.args.prototype) (val_in nu v)) c.in-Undefined.is))
    ((make_takes (kind.Plain (Some c.args.prototype)) (Ok c.in_ok-cell.cell) c.in_ok-cell.ensures.did).goes (λ nu a. value (model.Object a)))) (λ nu. refl)

pub returns-in_err-text-clause-did : goal.returns-in_err-text-clause-did
returns-in_err-text-clause-did g c = runs_out _ c.in_err-text.field-0.0 c.from_residual-in_err-text.result c.from_residual-in_err-text.ensures.1 (onward_out c.in_err-text.field-0.0
    (other_error c.args.message.now c.args.prototype c.in_default.not-Undefined)
    (c.in_err-text.ensures.did.ends (λ nu t. error_cell (nu c.args.prototype) t (λ a. value (model.Object a)))))

pub returns-in_err-cell-2-clause-did : goal.returns-in_err-cell-2-clause-did
returns-in_err-cell-2-clause-did g c = runs_out _ c.in_err-cell-2.field-0.0 c.from_residual-in_err-cell-2.result c.from_residual-in_err-cell-2.ensures.1 (onward_out c.in_err-cell-2.field-0.0
    (onward_then (other_error c.args.message.now c.args.prototype c.in_default.not-Undefined)
    (c.in_ok-text.ensures.did.goes (λ nu t. error_cell (nu c.args.prototype) t (λ a. value (model.Object a)))))
    (c.in_err-cell-2.ensures.did.ends (λ nu a. value (model.Object a))))

pub returns-clause-did : goal.returns-clause-did
returns-clause-did g c = runs_value (λ nu. model.Object (nu c.in_ok-cell-2.cell)) (λ nu. model.Object (nu c.in_ok-cell-2.cell))
    (onward_then (onward_then (other_error c.args.message.now c.args.prototype c.in_default.not-Undefined)
    (c.in_ok-text.ensures.did.goes (λ nu t. error_cell (nu c.args.prototype) t (λ a. value (model.Object a)))))
    (c.in_ok-cell-2.ensures.did.goes (λ nu a. value (model.Object a)))) (λ nu. refl)
