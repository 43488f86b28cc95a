use Rattle.std.proofs.Common.{sym, ap, Ok, Err}
use Rattle.turk_base.specs.Values as model
use Rattle.turk_base.specs.BuiltIns as spec
use Rattle.value_cells.specs.Seen.{val_in}
use Rattle.value_cells.specs.Does.{told}
use Rattle.value_cells.proofs.Turns.{onward_then}
use Rattle.builtin_calls.proofs.Moves.{runs_out, onward_eq, onward_out, make_takes}
use Rattle.value_cells.specs.declared.CellKind.TheVariants as kind
use Rattle.builtin_calls.proofs.texts.split.Goals as goal

pub returns-in_err-cell-clause-did : goal.returns-in_err-cell-clause-did
returns-in_err-cell-clause-did g c = runs_out _ c.in_err-cell.field-0.0 c.from_residual.result c.from_residual.ensures.1
    ((make_takes kind.Array (Err c.in_err-cell.field-0.0) c.in_err-cell.ensures.did).ends (λ nu a. spec.pieces_in (val_in nu c.args.separator.now) c.args.this.now (λ ts. spec.put_pieces a 0 ts)))

pub returns-in_err-pieces-clause-did : goal.returns-in_err-pieces-clause-did
returns-in_err-pieces-clause-did g c = runs_out _ c.in_err-pieces.field-0.0 c.from_residual-in_err-pieces.result c.from_residual-in_err-pieces.ensures.1
    (onward_out c.in_err-pieces.field-0.0
    ((make_takes kind.Array (Ok c.in_ok-cell.cell) c.in_ok-cell.ensures.did).goes (λ nu a. spec.pieces_in (val_in nu c.args.separator.now) c.args.this.now (λ ts. spec.put_pieces a 0 ts)))
    (c.in_err-pieces.ensures.did.ends (λ nu ts. spec.put_pieces (nu c.in_ok-cell.cell) 0 ts)))

pub returns-clause-did : goal.returns-clause-did
returns-clause-did g c = (onward_then (onward_then ((make_takes kind.Array (Ok c.in_ok-cell.cell) c.in_ok-cell.ensures.did).goes (λ nu a. spec.pieces_in (val_in nu c.args.separator.now) c.args.this.now (λ ts. spec.put_pieces a 0 ts)))
    (c.in_ok-pieces.ensures.did.goes (λ nu ts. spec.put_pieces (nu c.in_ok-cell.cell) 0 ts)))
    (onward_eq (λ nu. ap (spec.put_pieces (nu c.in_ok-cell.cell) 0) (sym c.as_slice.ensures.value)))).goes (λ nu. told (λ v. model.Normal (val_in nu v)) c.put_pieces.result) _ c.put_pieces.ensures.did
