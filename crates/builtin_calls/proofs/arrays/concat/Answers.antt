use Rattle.std.proofs.Common.{refl, map, ◌∷◌, Ok, Err}
use Rattle.turk_base.specs.Values as model
use Rattle.turk_base.specs.Prog.{value}
use Rattle.turk_base.specs.BuiltIns as spec
use Rattle.value_cells.specs.declared.CellKind.TheVariants as kind
use Rattle.value_cells.specs.Seen.{val_in}
use Rattle.value_cells.proofs.Turns.{onward_then}
use Rattle.builtin_calls.proofs.Moves.{runs_out, onward_out, runs_value, make_takes}
use Rattle.builtin_calls.proofs.arrays.concat.Goals as goal

pub returns-in_err-out-clause-did : goal.returns-in_err-out-clause-did
returns-in_err-out-clause-did g c =
    runs_out _ c.in_err-out.field-0.0 c.from_residual.result c.from_residual.ensures.1
    ((make_takes kind.Array (Err c.in_err-out.field-0.0) c.in_err-out.ensures.did).ends
    (λ nu out. spec.pieces out (model.Object (nu c.args.this) ∷ map (val_in nu) c.args.values.now) 0 (λ n. spec.set_length out n (λ _. value (model.Object out)))))

pub returns-in_err-length-clause-did : goal.returns-in_err-length-clause-did
returns-in_err-length-clause-did g c = let out = c.in_ok-out.out in
    runs_out _ c.in_err-length.field-0.0 c.from_residual-in_err-length.result c.from_residual-in_err-length.ensures.1 (onward_out c.in_err-length.field-0.0
    ((make_takes kind.Array (Ok out) c.in_ok-out.ensures.did).goes
    (λ nu out. spec.pieces out (model.Object (nu c.args.this) ∷ map (val_in nu) c.args.values.now) 0 (λ n. spec.set_length out n (λ _. value (model.Object out)))))
    (c.in_err-length.ensures.did.ends (λ nu n. spec.set_length (nu out) n (λ _. value (model.Object (nu out))))))

pub returns-in_err-set_length-clause-did : goal.returns-in_err-set_length-clause-did
returns-in_err-set_length-clause-did g c = let out = c.in_ok-out.out in
    runs_out _ c.in_err-set_length.field-0.0 c.from_residual-in_err-set_length.result c.from_residual-in_err-set_length.ensures.1 (onward_out c.in_err-set_length.field-0.0
    (onward_then ((make_takes kind.Array (Ok out) c.in_ok-out.ensures.did).goes
    (λ nu out. spec.pieces out (model.Object (nu c.args.this) ∷ map (val_in nu) c.args.values.now) 0 (λ n. spec.set_length out n (λ _. value (model.Object out)))))
    (c.in_ok-length.ensures.did.goes (λ nu n. spec.set_length (nu out) n (λ _. value (model.Object (nu out))))))
    (c.in_err-set_length.ensures.did.ends (λ nu _. value (model.Object (nu out)))))

pub returns-clause-did : goal.returns-clause-did
returns-clause-did g c = let out = c.in_ok-out.out in
    runs_value (λ nu. model.Object (nu out)) (λ nu. model.Object (nu out))
    (onward_then (onward_then ((make_takes kind.Array (Ok out) c.in_ok-out.ensures.did).goes
    (λ nu out. spec.pieces out (model.Object (nu c.args.this) ∷ map (val_in nu) c.args.values.now) 0 (λ n. spec.set_length out n (λ _. value (model.Object out)))))
    (c.in_ok-length.ensures.did.goes (λ nu n. spec.set_length (nu out) n (λ _. value (model.Object (nu out))))))
    (c.in_ok-set_length.ensures.did.goes (λ nu _. value (model.Object (nu out)))))
    (λ nu. refl)
