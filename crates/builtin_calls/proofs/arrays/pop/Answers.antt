use Rattle.std.proofs.Common.{◌≡◌, ◌-◌, ℕ, suc, ap, refl, arith}
use Rattle.turk_base.specs.Names.{Name}
use Rattle.turk_base.specs.Values.{Val}
use Rattle.turk_base.specs.Values as model
use Rattle.turk_base.specs.Prog.{Get, Remove, ask, value}
use Rattle.turk_base.specs.Errors.{index_text, or_undefined}
use Rattle.turk_base.specs.BuiltIns.{pop_at, set_length}
use Rattle.std.specs.Option.{option_map}
use Rattle.value_cells.specs.Seen.{val_in}
use Rattle.value_cells.proofs.Turns.{onward_then}
use Rattle.builtin_calls.proofs.Moves.{runs_out, onward_eq, onward_out, runs_value}
use Rattle.builtin_calls.proofs.arrays.pop.Goals as goal

last_one : (a : Name) (n i : ℕ) → n ≡ suc i → pop_at a n ≡ ask (Get a (index_text i)) (λ last. ask (Remove a (index_text i)) (λ _. set_length a i (λ _. value (or_undefined last))))
last_one a n i e = ap (pop_at a) e

pub returns-in_err-length-clause-did : goal.returns-in_err-length-clause-did
returns-in_err-length-clause-did g c = runs_out _ c.in_err-length.field-0.0 c.from_residual.result c.from_residual.ensures.1
    (c.in_err-length.ensures.did.ends (λ nu. pop_at (nu c.args.this)))

pub returns-then-length-eq0-clause-did : goal.returns-then-length-eq0-clause-did
returns-then-length-eq0-clause-did g c =
    runs_value (λ nu. model.Undefined) (λ nu. model.Undefined)
    (onward_then (c.in_ok-length.ensures.did.goes (λ nu. pop_at (nu c.args.this))) (onward_eq (λ nu. let e : c.in_ok-length.length ≡ 0 = omega arith in ap (pop_at (nu c.args.this)) e))) (λ nu. refl)

pub returns-in_err-found-clause-did : goal.returns-in_err-found-clause-did
returns-in_err-found-clause-did g c = let a = c.args.this in let i = c.in_ok-length.length - 1 in let e : c.in_ok-length.length ≡ suc i = omega arith in
    runs_out _ c.in_err-found.field-0.0 c.from_residual-in_err-found.result c.from_residual-in_err-found.ensures.1 (onward_out c.in_err-found.field-0.0
    (onward_then (c.in_ok-length.ensures.did.goes (λ nu. pop_at (nu a))) (onward_eq (λ nu. last_one (nu a) c.in_ok-length.length i e)))
    (c.in_err-found.ensures.did.ends (λ nu last. ask (Remove (nu a) (index_text i)) (λ _. set_length (nu a) i (λ _. value (or_undefined last))))))

pub returns-in_err-remove_at-clause-did : goal.returns-in_err-remove_at-clause-did
returns-in_err-remove_at-clause-did g c = let a = c.args.this in let i = c.in_ok-length.length - 1 in let e : c.in_ok-length.length ≡ suc i = omega arith in
    runs_out _ c.in_err-remove_at.field-0.0 c.from_residual-in_err-remove_at.result c.from_residual-in_err-remove_at.ensures.1 (onward_out c.in_err-remove_at.field-0.0
    (onward_then (onward_then (c.in_ok-length.ensures.did.goes (λ nu. pop_at (nu a))) (onward_eq (λ nu. last_one (nu a) c.in_ok-length.length i e)))
    (c.in_ok-found.ensures.did.goes (λ nu last. ask (Remove (nu a) (index_text i)) (λ _. set_length (nu a) i (λ _. value (or_undefined last))))))
    (c.in_err-remove_at.ensures.did.ends (λ nu _. set_length (nu a) i (λ _. value (or_undefined (option_map (val_in nu) c.in_ok-found.found))))))

pub returns-in_err-set_length-clause-did : goal.returns-in_err-set_length-clause-did
returns-in_err-set_length-clause-did g c = let a = c.args.this in let i = c.in_ok-length.length - 1 in let e : c.in_ok-length.length ≡ suc i = omega arith in
    runs_out _ c.in_err-set_length.field-0.0 c.from_residual-in_err-set_length.result c.from_residual-in_err-set_length.ensures.1 (onward_out c.in_err-set_length.field-0.0
    (onward_then (onward_then (onward_then (c.in_ok-length.ensures.did.goes (λ nu. pop_at (nu a))) (onward_eq (λ nu. last_one (nu a) c.in_ok-length.length i e)))
    (c.in_ok-found.ensures.did.goes (λ nu last. ask (Remove (nu a) (index_text i)) (λ _. set_length (nu a) i (λ _. value (or_undefined last))))))
    (c.in_ok-remove_at.ensures.did.goes (λ nu _. set_length (nu a) i (λ _. value (or_undefined (option_map (val_in nu) c.in_ok-found.found))))))
    (c.in_err-set_length.ensures.did.ends (λ nu _. value (or_undefined (option_map (val_in nu) c.in_ok-found.found)))))

pub returns-clause-did : goal.returns-clause-did
returns-clause-did g c = let a = c.args.this in let i = c.in_ok-length.length - 1 in let e : c.in_ok-length.length ≡ suc i = omega arith in
    runs_value (λ nu. or_undefined (option_map (val_in nu) c.in_ok-found.found)) (λ nu. val_in nu c.or_undefined.result)
    (onward_then (onward_then (onward_then (onward_then (c.in_ok-length.ensures.did.goes (λ nu. pop_at (nu a))) (onward_eq (λ nu. last_one (nu a) c.in_ok-length.length i e)))
    (c.in_ok-found.ensures.did.goes (λ nu last. ask (Remove (nu a) (index_text i)) (λ _. set_length (nu a) i (λ _. value (or_undefined last))))))
    (c.in_ok-remove_at.ensures.did.goes (λ nu _. set_length (nu a) i (λ _. value (or_undefined (option_map (val_in nu) c.in_ok-found.found))))))
    (c.in_ok-set_length.ensures.did.goes (λ nu _. value (or_undefined (option_map (val_in nu) c.in_ok-found.found)))))
    c.or_undefined.ensures.value
