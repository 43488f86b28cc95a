use Rattle.std.proofs.Common.{refl, []}
use Rattle.turk_base.specs.Values as model
use Rattle.turk_base.specs.Prog.{value, made}
use Rattle.turk_base.specs.BuiltIns as spec
use Rattle.value_cells.specs.Seen.{val_in}
use Rattle.value_cells.proofs.Turns.{onward_then}
use Rattle.builtin_calls.proofs.Moves.{runs_out, onward_out, runs_value}
use Rattle.builtin_calls.proofs.arrays.join.Goals as goal

pub returns-in_err-length-clause-did : goal.returns-in_err-length-clause-did
returns-in_err-length-clause-did g c = let a = c.args.this in
    runs_out _ c.in_err-length.field-0.0 c.from_residual.result c.from_residual.ensures.1
    (c.in_err-length.ensures.did.ends (λ nu n. spec.separator_in (val_in nu c.args.separator.now) (λ sep. spec.joined (nu a) sep n 0 [] (λ t. made t (λ u. value (model.Text u))))))

pub returns-in_err-separator-clause-did : goal.returns-in_err-separator-clause-did
returns-in_err-separator-clause-did g c = let a = c.args.this in
    runs_out _ c.in_err-separator.field-0.0 c.from_residual-in_err-separator.result c.from_residual-in_err-separator.ensures.1 (onward_out c.in_err-separator.field-0.0
    (c.in_ok-length.ensures.did.goes (λ nu n. spec.separator_in (val_in nu c.args.separator.now) (λ sep. spec.joined (nu a) sep n 0 [] (λ t. made t (λ u. value (model.Text u))))))
    (c.in_err-separator.ensures.did.ends (λ nu sep. spec.joined (nu a) sep c.in_ok-length.length 0 [] (λ t. made t (λ u. value (model.Text u))))))

pub returns-in_err-text-clause-did : goal.returns-in_err-text-clause-did
returns-in_err-text-clause-did g c = let a = c.args.this in
    runs_out _ c.in_err-text.field-0.0 c.from_residual-in_err-text.result c.from_residual-in_err-text.ensures.1 (onward_out c.in_err-text.field-0.0
    (onward_then (c.in_ok-length.ensures.did.goes (λ nu n. spec.separator_in (val_in nu c.args.separator.now) (λ sep. spec.joined (nu a) sep n 0 [] (λ t. made t (λ u. value (model.Text u))))))
    (c.in_ok-separator.ensures.did.goes (λ nu sep. spec.joined (nu a) sep c.in_ok-length.length 0 [] (λ t. made t (λ u. value (model.Text u))))))
    (c.in_err-text.ensures.did.ends (λ nu t. made t (λ u. value (model.Text u)))))

pub returns-in_err-paid-clause-did : goal.returns-in_err-paid-clause-did
returns-in_err-paid-clause-did g c = let a = c.args.this in
    runs_out _ c.in_err-paid.field-0.0 c.from_residual-in_err-paid.result c.from_residual-in_err-paid.ensures.1 (onward_out c.in_err-paid.field-0.0
    (onward_then (onward_then (c.in_ok-length.ensures.did.goes (λ nu n. spec.separator_in (val_in nu c.args.separator.now) (λ sep. spec.joined (nu a) sep n 0 [] (λ t. made t (λ u. value (model.Text u))))))
    (c.in_ok-separator.ensures.did.goes (λ nu sep. spec.joined (nu a) sep c.in_ok-length.length 0 [] (λ t. made t (λ u. value (model.Text u))))))
    (c.in_ok-text.ensures.did.goes (λ nu t. made t (λ u. value (model.Text u)))))
    (c.in_err-paid.ensures.did.ends (λ nu u. value (model.Text u))))

pub returns-clause-did : goal.returns-clause-did
returns-clause-did g c = let a = c.args.this in
    runs_value (λ nu. model.Text c.in_ok-paid.field-0) (λ nu. model.Text c.in_ok-paid.field-0)
    (onward_then (onward_then (onward_then (c.in_ok-length.ensures.did.goes (λ nu n. spec.separator_in (val_in nu c.args.separator.now) (λ sep. spec.joined (nu a) sep n 0 [] (λ t. made t (λ u. value (model.Text u))))))
    (c.in_ok-separator.ensures.did.goes (λ nu sep. spec.joined (nu a) sep c.in_ok-length.length 0 [] (λ t. made t (λ u. value (model.Text u))))))
    (c.in_ok-text.ensures.did.goes (λ nu t. made t (λ u. value (model.Text u)))))
    (c.in_ok-paid.ensures.did.goes (λ nu u. value (model.Text u))))
    (λ nu. refl)
