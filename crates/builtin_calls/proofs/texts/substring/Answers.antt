use Rattle.std.proofs.Common.{refl, sym, ap, Ok, Err, drop, take, length, max, min, ◌-◌, ℤ}
use Rattle.turk_base.specs.Values as model
use Rattle.turk_base.specs.Conversions.{integer_in}
use Rattle.turk_base.specs.Prog.{given, made, value}
use Rattle.turk_base.specs.BuiltIns as spec
use Rattle.value_cells.specs.Seen.{val_in}
use Rattle.value_cells.proofs.Turns.{onward_then}
use Rattle.builtin_calls.proofs.Moves.{runs_out, onward_eq, onward_out, runs_value, given_takes}
use Rattle.turk_base.specs.Names.{Units}
use Rattle.turk_base.specs.Prog.{Prog}
use Rattle.builtin_calls.proofs.texts.substring.Goals as goal

-- what is left once both ends are known
abbrev cut_out : ℤ → ℤ → Units → Prog
cut_out start stop t = made (take (max (spec.clamped start (length t)) (spec.clamped stop (length t)) - min (spec.clamped start (length t)) (spec.clamped stop (length t))) (drop (min (spec.clamped start (length t)) (spec.clamped stop (length t))) t)) (λ u. value (model.Text u))

pub returns-in_err-start-clause-did : goal.returns-in_err-start-clause-did
returns-in_err-start-clause-did g c = runs_out _ c.in_err-start.field-0.0 c.from_residual.result c.from_residual.ensures.1
    ((given_takes (λ nu. integer_in (val_in nu c.args.begin.now)) (λ z. z) _ (Err c.in_err-start.field-0.0) c.in_err-start.ensures).ends (λ nu start. given (spec.end_in (val_in nu c.args.end.now) (length c.args.this.now)) (λ stop. cut_out start stop c.args.this.now)))

pub returns-in_err-stop-clause-did : goal.returns-in_err-stop-clause-did
returns-in_err-stop-clause-did g c = runs_out _ c.in_err-stop.field-0.0 c.from_residual-in_err-stop.result c.from_residual-in_err-stop.ensures.1
    (onward_out c.in_err-stop.field-0.0
    ((given_takes (λ nu. integer_in (val_in nu c.args.begin.now)) (λ z. z) _ (Ok c.in_ok-start.start) c.in_ok-start.ensures).goes (λ nu start. given (spec.end_in (val_in nu c.args.end.now) (length c.args.this.now)) (λ stop. cut_out start stop c.args.this.now)))
    ((given_takes (λ nu. spec.end_in (val_in nu c.args.end.now) (length c.args.this.now)) (λ z. z) _ (Err c.in_err-stop.field-0.0) c.in_err-stop.ensures).ends (λ nu stop. cut_out c.in_ok-start.start stop c.args.this.now)))

pub returns-in_err-paid-clause-did : goal.returns-in_err-paid-clause-did
returns-in_err-paid-clause-did g c = runs_out _ c.in_err-paid.field-0.0 c.from_residual-in_err-paid.result c.from_residual-in_err-paid.ensures.1
    (onward_out c.in_err-paid.field-0.0
    (onward_then (onward_then ((given_takes (λ nu. integer_in (val_in nu c.args.begin.now)) (λ z. z) _ (Ok c.in_ok-start.start) c.in_ok-start.ensures).goes (λ nu start. given (spec.end_in (val_in nu c.args.end.now) (length c.args.this.now)) (λ stop. cut_out start stop c.args.this.now)))
    ((given_takes (λ nu. spec.end_in (val_in nu c.args.end.now) (length c.args.this.now)) (λ z. z) _ (Ok c.in_ok-stop.stop) c.in_ok-stop.ensures).goes (λ nu stop. cut_out c.in_ok-start.start stop c.args.this.now)))
    (onward_eq (λ nu. ap (λ t. made t (λ u. value (model.Text u))) (sym c.in_ok-part.ensures))))
    (c.in_err-paid.ensures.did.ends (λ nu u. value (model.Text u))))

pub returns-clause-did : goal.returns-clause-did
returns-clause-did g c = runs_value (λ nu. model.Text c.in_ok-paid.field-0) (λ nu. model.Text c.in_ok-paid.field-0)
    (onward_then (onward_then (onward_then ((given_takes (λ nu. integer_in (val_in nu c.args.begin.now)) (λ z. z) _ (Ok c.in_ok-start.start) c.in_ok-start.ensures).goes (λ nu start. given (spec.end_in (val_in nu c.args.end.now) (length c.args.this.now)) (λ stop. cut_out start stop c.args.this.now)))
    ((given_takes (λ nu. spec.end_in (val_in nu c.args.end.now) (length c.args.this.now)) (λ z. z) _ (Ok c.in_ok-stop.stop) c.in_ok-stop.ensures).goes (λ nu stop. cut_out c.in_ok-start.start stop c.args.this.now)))
    (onward_eq (λ nu. ap (λ t. made t (λ u. value (model.Text u))) (sym c.in_ok-part.ensures))))
    (c.in_ok-paid.ensures.did.goes (λ nu u. value (model.Text u))))
    (λ nu. refl)
