use Rattle.std.proofs.Common.{refl, ◌-◌, ◌/◌}
use Rattle.turk_base.specs.Values as model
use Rattle.turk_base.specs.Prog.{Get, ask, value}
use Rattle.turk_base.specs.Errors.{index_text}
use Rattle.turk_base.specs.BuiltIns as spec
use Rattle.value_cells.proofs.Turns.{onward_then}
use Rattle.builtin_calls.proofs.Moves.{runs_out, onward_out, runs_value}
use Rattle.builtin_calls.proofs.arrays.reverse.Goals as goal

pub returns-in_err-length-clause-did : goal.returns-in_err-length-clause-did
returns-in_err-length-clause-did g c = let a = c.args.this in
    runs_out _ c.in_err-length.field-0.0 c.from_residual.result c.from_residual.ensures.1
    (c.in_err-length.ensures.did.ends (λ nu n. spec.count_up (n / 2) 0 (λ i go. ask (Get (nu a) (index_text i)) (λ lower. ask (Get (nu a) (index_text (n - 1 - i))) (λ upper. spec.swap (nu a) i (n - 1 - i) lower upper go))) (λ _. value (model.Object (nu a)))))

pub returns-in_err-swap_all-clause-did : goal.returns-in_err-swap_all-clause-did
returns-in_err-swap_all-clause-did g c = let a = c.args.this in
    runs_out _ c.in_err-swap_all.field-0.0 c.from_residual-in_err-swap_all.result c.from_residual-in_err-swap_all.ensures.1 (onward_out c.in_err-swap_all.field-0.0
    (c.in_ok-length.ensures.did.goes (λ nu n. spec.count_up (n / 2) 0 (λ i go. ask (Get (nu a) (index_text i)) (λ lower. ask (Get (nu a) (index_text (n - 1 - i))) (λ upper. spec.swap (nu a) i (n - 1 - i) lower upper go))) (λ _. value (model.Object (nu a)))))
    (c.in_err-swap_all.ensures.did.ends (λ nu _. value (model.Object (nu a)))))

pub returns-clause-did : goal.returns-clause-did
returns-clause-did g c = let a = c.args.this in
    runs_value (λ nu. model.Object (nu a)) (λ nu. model.Object (nu a))
    (onward_then (c.in_ok-length.ensures.did.goes (λ nu n. spec.count_up (n / 2) 0 (λ i go. ask (Get (nu a) (index_text i)) (λ lower. ask (Get (nu a) (index_text (n - 1 - i))) (λ upper. spec.swap (nu a) i (n - 1 - i) lower upper go))) (λ _. value (model.Object (nu a)))))
    (c.in_ok-swap_all.ensures.did.goes (λ nu _. value (model.Object (nu a)))))
    (λ nu. refl)
