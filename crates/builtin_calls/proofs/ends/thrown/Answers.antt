use Rattle.turk_base.specs.Values as model
use Rattle.turk_base.specs.Prog.{Done}
use Rattle.turk_base.specs.Errors.{error_cell}
use Rattle.value_cells.specs.Does.{told}
use Rattle.builtin_calls.proofs.Moves.{runs_out}
use Rattle.builtin_calls.proofs.Throws.{runs_throw}
use Rattle.builtin_calls.proofs.ends.thrown.Goals as goal

pub returns-in_err-text-clause-did : goal.returns-in_err-text-clause-did
returns-in_err-text-clause-did g c = runs_out _ c.in_err-text.field-0.0 c.from_residual.result c.from_residual.ensures.1
    (c.in_err-text.ensures.did.ends (λ nu t. error_cell (nu c.args.prototype) t (λ a. Done (model.Throw (model.Object a)))))

pub returns-clause-did : goal.returns-clause-did
returns-clause-did g c =
    (c.in_ok-text.ensures.did.goes (λ nu t. error_cell (nu c.args.prototype) t (λ a. Done (model.Throw (model.Object a))))).goes (λ nu. told (λ i. model.Throw (model.Object (nu i))) c.error_cell.result) (g.H.Heap.seen c.error_cell.new.heap)
    (runs_throw (λ nu. error_cell (nu c.args.prototype) c.in_ok-text.text) c.error_cell.result c.error_cell.ensures.did)
