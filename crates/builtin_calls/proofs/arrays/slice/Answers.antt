use Rattle.std.proofs.Common.{◌≡◌, ◌∙◌, refl, sym, ap, ℕ, ◌+◌, ◌-◌, ℤ, Ok, Err}
use Rattle.turk_base.specs.Names.{Name}
use Rattle.turk_base.specs.Values as model
use Rattle.turk_base.specs.Values.{Val}
use Rattle.turk_base.specs.Conversions.{integer_in}
use Rattle.turk_base.specs.Prog.{Prog, Get, ask, value, given}
use Rattle.turk_base.specs.Errors.{index_text}
use Rattle.turk_base.specs.BuiltIns as spec
use Rattle.value_cells.specs.declared.CellKind.TheVariants as kind
use Rattle.value_cells.specs.Seen.{val_in}
use Rattle.value_cells.proofs.Turns.{onward_then}
use Rattle.builtin_calls.proofs.Moves.{runs_out, onward_eq, onward_out, runs_value, make_takes, given_takes, to_first}
use Rattle.builtin_calls.proofs.arrays.slice.Goals as goal

-- what is left once the ends are known, and once the length is
abbrev copied : Name → Name → ℕ → ℕ → Prog
copied a out low number = spec.count_up number 0 (λ i next. ask (Get a (index_text (low + i))) (λ v. spec.put_found out i v next)) (λ _. spec.set_length out number (λ _. value (model.Object out)))

abbrev stopped : Name → Name → Val → ℕ → ℤ → Prog
stopped a out e n start = given (spec.end_in e n) (λ stop. copied a out (spec.from_end start n) (spec.from_end stop n - spec.from_end start n))

abbrev started : Name → Name → Val → Val → ℕ → Prog
started a out b e n = given (integer_in b) (stopped a out e n)

same_part : (a out : Name) (low high number p q : ℕ) → low ≡ p → number ≡ high - low → high ≡ q
    → copied a out p (q - p) ≡ spec.count_up number 0 (λ i next. ask (Get a (index_text (low + i))) (λ v. spec.put_found out (0 + i) v next)) (λ _. spec.set_length out number (λ _. value (model.Object out)))
same_part a out low high number p q e f h =
    (λ j. copied a out (sym e j) (sym h j - sym e j)) ∙ ap (copied a out low) (sym f) ∙ to_first a out number low (λ _. spec.set_length out number (λ _. value (model.Object out)))

pub returns-in_err-out-clause-did : goal.returns-in_err-out-clause-did
returns-in_err-out-clause-did g c = runs_out _ c.in_err-out.field-0.0 c.from_residual.result c.from_residual.ensures.1
    ((make_takes kind.Array (Err c.in_err-out.field-0.0) c.in_err-out.ensures.did).ends (λ nu out. spec.length_of (nu c.args.this) (started (nu c.args.this) out (val_in nu c.args.begin.now) (val_in nu c.args.end.now))))

pub returns-in_err-length-clause-did : goal.returns-in_err-length-clause-did
returns-in_err-length-clause-did g c = runs_out _ c.in_err-length.field-0.0 c.from_residual-in_err-length.result c.from_residual-in_err-length.ensures.1
    (onward_out c.in_err-length.field-0.0
    ((make_takes kind.Array (Ok c.in_ok-out.out) c.in_ok-out.ensures.did).goes (λ nu out. spec.length_of (nu c.args.this) (started (nu c.args.this) out (val_in nu c.args.begin.now) (val_in nu c.args.end.now))))
    (c.in_err-length.ensures.did.ends (λ nu. started (nu c.args.this) (nu c.in_ok-out.out) (val_in nu c.args.begin.now) (val_in nu c.args.end.now))))

pub returns-in_err-start-clause-did : goal.returns-in_err-start-clause-did
returns-in_err-start-clause-did g c = runs_out _ c.in_err-start.field-0.0 c.from_residual-in_err-start.result c.from_residual-in_err-start.ensures.1
    (onward_out c.in_err-start.field-0.0
    (onward_then ((make_takes kind.Array (Ok c.in_ok-out.out) c.in_ok-out.ensures.did).goes (λ nu out. spec.length_of (nu c.args.this) (started (nu c.args.this) out (val_in nu c.args.begin.now) (val_in nu c.args.end.now))))
    (c.in_ok-length.ensures.did.goes (λ nu. started (nu c.args.this) (nu c.in_ok-out.out) (val_in nu c.args.begin.now) (val_in nu c.args.end.now))))
    ((given_takes (λ nu. integer_in (val_in nu c.args.begin.now)) (λ z. z) _ (Err c.in_err-start.field-0.0) c.in_err-start.ensures).ends (λ nu. stopped (nu c.args.this) (nu c.in_ok-out.out) (val_in nu c.args.end.now) c.in_ok-length.length)))

pub returns-in_err-stop-clause-did : goal.returns-in_err-stop-clause-did
returns-in_err-stop-clause-did g c = runs_out _ c.in_err-stop.field-0.0 c.from_residual-in_err-stop.result c.from_residual-in_err-stop.ensures.1
    (onward_out c.in_err-stop.field-0.0
    (onward_then (onward_then ((make_takes kind.Array (Ok c.in_ok-out.out) c.in_ok-out.ensures.did).goes (λ nu out. spec.length_of (nu c.args.this) (started (nu c.args.this) out (val_in nu c.args.begin.now) (val_in nu c.args.end.now))))
    (c.in_ok-length.ensures.did.goes (λ nu. started (nu c.args.this) (nu c.in_ok-out.out) (val_in nu c.args.begin.now) (val_in nu c.args.end.now))))
    ((given_takes (λ nu. integer_in (val_in nu c.args.begin.now)) (λ z. z) _ (Ok c.in_ok-start.start) c.in_ok-start.ensures).goes (λ nu. stopped (nu c.args.this) (nu c.in_ok-out.out) (val_in nu c.args.end.now) c.in_ok-length.length)))
    ((given_takes (λ nu. spec.end_in (val_in nu c.args.end.now) c.in_ok-length.length) (λ z. z) _ (Err c.in_err-stop.field-0.0) c.in_err-stop.ensures).ends (λ nu stop. copied (nu c.args.this) (nu c.in_ok-out.out) (spec.from_end c.in_ok-start.start c.in_ok-length.length) (spec.from_end stop c.in_ok-length.length - spec.from_end c.in_ok-start.start c.in_ok-length.length))))

pub returns-in_err-copy_items-clause-did : goal.returns-in_err-copy_items-clause-did
returns-in_err-copy_items-clause-did g c = runs_out _ c.in_err-copy_items.field-0.0 c.from_residual-in_err-copy_items.result c.from_residual-in_err-copy_items.ensures.1
    (onward_out c.in_err-copy_items.field-0.0
    (onward_then (onward_then (onward_then (onward_then ((make_takes kind.Array (Ok c.in_ok-out.out) c.in_ok-out.ensures.did).goes (λ nu out. spec.length_of (nu c.args.this) (started (nu c.args.this) out (val_in nu c.args.begin.now) (val_in nu c.args.end.now))))
    (c.in_ok-length.ensures.did.goes (λ nu. started (nu c.args.this) (nu c.in_ok-out.out) (val_in nu c.args.begin.now) (val_in nu c.args.end.now))))
    ((given_takes (λ nu. integer_in (val_in nu c.args.begin.now)) (λ z. z) _ (Ok c.in_ok-start.start) c.in_ok-start.ensures).goes (λ nu. stopped (nu c.args.this) (nu c.in_ok-out.out) (val_in nu c.args.end.now) c.in_ok-length.length)))
    ((given_takes (λ nu. spec.end_in (val_in nu c.args.end.now) c.in_ok-length.length) (λ z. z) _ (Ok c.in_ok-stop.stop) c.in_ok-stop.ensures).goes (λ nu stop. copied (nu c.args.this) (nu c.in_ok-out.out) (spec.from_end c.in_ok-start.start c.in_ok-length.length) (spec.from_end stop c.in_ok-length.length - spec.from_end c.in_ok-start.start c.in_ok-length.length))))
    (onward_eq (λ nu. same_part (nu c.args.this) (nu c.in_ok-out.out) c.from_end-low.result c.from_end-high.result c.saturating_sub-number.result (spec.from_end c.in_ok-start.start c.in_ok-length.length) (spec.from_end c.in_ok-stop.stop c.in_ok-length.length) c.from_end-low.ensures.value c.saturating_sub-number.ensures c.from_end-high.ensures.value)))
    (c.in_err-copy_items.ensures.did.ends (λ nu _. spec.set_length (nu c.in_ok-out.out) c.saturating_sub-number.result (λ _. value (model.Object (nu c.in_ok-out.out))))))

pub returns-in_err-set_length-clause-did : goal.returns-in_err-set_length-clause-did
returns-in_err-set_length-clause-did g c = runs_out _ c.in_err-set_length.field-0.0 c.from_residual-in_err-set_length.result c.from_residual-in_err-set_length.ensures.1
    (onward_out c.in_err-set_length.field-0.0
    (onward_then (onward_then (onward_then (onward_then (onward_then ((make_takes kind.Array (Ok c.in_ok-out.out) c.in_ok-out.ensures.did).goes (λ nu out. spec.length_of (nu c.args.this) (started (nu c.args.this) out (val_in nu c.args.begin.now) (val_in nu c.args.end.now))))
    (c.in_ok-length.ensures.did.goes (λ nu. started (nu c.args.this) (nu c.in_ok-out.out) (val_in nu c.args.begin.now) (val_in nu c.args.end.now))))
    ((given_takes (λ nu. integer_in (val_in nu c.args.begin.now)) (λ z. z) _ (Ok c.in_ok-start.start) c.in_ok-start.ensures).goes (λ nu. stopped (nu c.args.this) (nu c.in_ok-out.out) (val_in nu c.args.end.now) c.in_ok-length.length)))
    ((given_takes (λ nu. spec.end_in (val_in nu c.args.end.now) c.in_ok-length.length) (λ z. z) _ (Ok c.in_ok-stop.stop) c.in_ok-stop.ensures).goes (λ nu stop. copied (nu c.args.this) (nu c.in_ok-out.out) (spec.from_end c.in_ok-start.start c.in_ok-length.length) (spec.from_end stop c.in_ok-length.length - spec.from_end c.in_ok-start.start c.in_ok-length.length))))
    (onward_eq (λ nu. same_part (nu c.args.this) (nu c.in_ok-out.out) c.from_end-low.result c.from_end-high.result c.saturating_sub-number.result (spec.from_end c.in_ok-start.start c.in_ok-length.length) (spec.from_end c.in_ok-stop.stop c.in_ok-length.length) c.from_end-low.ensures.value c.saturating_sub-number.ensures c.from_end-high.ensures.value)))
    (c.in_ok-copy_items.ensures.did.goes (λ nu _. spec.set_length (nu c.in_ok-out.out) c.saturating_sub-number.result (λ _. value (model.Object (nu c.in_ok-out.out))))))
    (c.in_err-set_length.ensures.did.ends (λ nu _. value (model.Object (nu c.in_ok-out.out)))))

pub returns-clause-did : goal.returns-clause-did
returns-clause-did g c = runs_value (λ nu. model.Object (nu c.in_ok-out.out)) (λ nu. model.Object (nu c.in_ok-out.out))
    (onward_then (onward_then (onward_then (onward_then (onward_then (onward_then ((make_takes kind.Array (Ok c.in_ok-out.out) c.in_ok-out.ensures.did).goes (λ nu out. spec.length_of (nu c.args.this) (started (nu c.args.this) out (val_in nu c.args.begin.now) (val_in nu c.args.end.now))))
    (c.in_ok-length.ensures.did.goes (λ nu. started (nu c.args.this) (nu c.in_ok-out.out) (val_in nu c.args.begin.now) (val_in nu c.args.end.now))))
    ((given_takes (λ nu. integer_in (val_in nu c.args.begin.now)) (λ z. z) _ (Ok c.in_ok-start.start) c.in_ok-start.ensures).goes (λ nu. stopped (nu c.args.this) (nu c.in_ok-out.out) (val_in nu c.args.end.now) c.in_ok-length.length)))
    ((given_takes (λ nu. spec.end_in (val_in nu c.args.end.now) c.in_ok-length.length) (λ z. z) _ (Ok c.in_ok-stop.stop) c.in_ok-stop.ensures).goes (λ nu stop. copied (nu c.args.this) (nu c.in_ok-out.out) (spec.from_end c.in_ok-start.start c.in_ok-length.length) (spec.from_end stop c.in_ok-length.length - spec.from_end c.in_ok-start.start c.in_ok-length.length))))
    (onward_eq (λ nu. same_part (nu c.args.this) (nu c.in_ok-out.out) c.from_end-low.result c.from_end-high.result c.saturating_sub-number.result (spec.from_end c.in_ok-start.start c.in_ok-length.length) (spec.from_end c.in_ok-stop.stop c.in_ok-length.length) c.from_end-low.ensures.value c.saturating_sub-number.ensures c.from_end-high.ensures.value)))
    (c.in_ok-copy_items.ensures.did.goes (λ nu _. spec.set_length (nu c.in_ok-out.out) c.saturating_sub-number.result (λ _. value (model.Object (nu c.in_ok-out.out))))))
    (c.in_ok-set_length.ensures.did.goes (λ nu _. value (model.Object (nu c.in_ok-out.out)))))
    (λ nu. refl)
