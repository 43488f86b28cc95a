use Rattle.std.proofs.Common.{refl}
use Rattle.turk_base.specs.Values as model
use Rattle.turk_base.specs.Prog.{made, value}
use Rattle.value_cells.proofs.Turns.{onward_then}
use Rattle.builtin_calls.proofs.Moves.{runs_out, onward_out, runs_value}
use Rattle.builtin_calls.proofs.texts.from_char_code.Goals as goal

pub returns-in_err-units-clause-did : goal.returns-in_err-units-clause-did
returns-in_err-units-clause-did g c = runs_out _ c.in_err-units.field-0.0 c.from_residual.result c.from_residual.ensures.1
    ((c.in_err-units.ensures (g.H.Heap.seen c.args.heap.now)).ends (λ nu us. made us (λ u. value (model.Text u))))

pub returns-in_err-paid-clause-did : goal.returns-in_err-paid-clause-did
returns-in_err-paid-clause-did g c = runs_out _ c.in_err-paid.field-0.0 c.from_residual-in_err-paid.result c.from_residual-in_err-paid.ensures.1
    (onward_out c.in_err-paid.field-0.0
    ((c.in_ok-units.ensures (g.H.Heap.seen c.args.heap.now)).goes (λ nu us. made us (λ u. value (model.Text u))))
    (c.in_err-paid.ensures.did.ends (λ nu u. value (model.Text u))))

pub returns-clause-did : goal.returns-clause-did
returns-clause-did g c = runs_value (λ nu. model.Text c.in_ok-paid.field-0) (λ nu. model.Text c.in_ok-paid.field-0)
    (onward_then ((c.in_ok-units.ensures (g.H.Heap.seen c.args.heap.now)).goes (λ nu us. made us (λ u. value (model.Text u))))
    (c.in_ok-paid.ensures.did.goes (λ nu u. value (model.Text u))))
    (λ nu. refl)
