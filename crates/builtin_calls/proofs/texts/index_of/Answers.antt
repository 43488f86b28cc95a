use Rattle.std.proofs.Common.{sym, ap, ◌∙◌, Ok, Err, drop, length, ℤ}
use Rattle.turk_base.specs.Values as model
use Rattle.turk_base.specs.Conversions.{integer_in}
use Rattle.turk_base.specs.Prog.{given, value}
use Rattle.turk_base.specs.BuiltIns as spec
use Rattle.value_cells.specs.declared.OpStop.TheVariants.{Memory}
use Rattle.value_cells.specs.Seen.{val_in}
use Rattle.value_cells.proofs.Turns.{onward_then}
use Rattle.builtin_calls.proofs.Moves.{runs_out, onward_out, runs_value, runs_lost, given_takes}
use Rattle.turk_base.specs.Names.{Units}
use Rattle.turk_base.specs.Prog.{Prog}
use Rattle.builtin_calls.proofs.texts.index_of.Goals as goal

-- what is left once the part is known
abbrev rest : Units → Units → ℤ → Prog
rest u t at = value (spec.place_value (spec.place_from u (drop (spec.clamped at (length t)) t) (spec.clamped at (length t))))

pub returns-in_err-part-clause-did : goal.returns-in_err-part-clause-did
returns-in_err-part-clause-did g c = runs_out _ c.in_err-part.field-0.0 c.from_residual.result c.from_residual.ensures.1
    (c.in_err-part.ensures.did.ends (λ nu u. given (integer_in (val_in nu c.args.place.now)) (rest u c.args.this.now)))

pub returns-in_err-at-clause-did : goal.returns-in_err-at-clause-did
returns-in_err-at-clause-did g c = runs_out _ c.in_err-at.field-0.0 c.from_residual-in_err-at.result c.from_residual-in_err-at.ensures.1
    (onward_out c.in_err-at.field-0.0
    (c.in_ok-part.ensures.did.goes (λ nu u. given (integer_in (val_in nu c.args.place.now)) (rest u c.args.this.now)))
    ((given_takes (λ nu. integer_in (val_in nu c.args.place.now)) (λ z. z) _ (Err c.in_err-at.field-0.0) c.in_err-at.ensures).ends (λ nu. rest c.in_ok-part.part c.args.this.now)))

pub returns-in_err-number-clause-did : goal.returns-in_err-number-clause-did
returns-in_err-number-clause-did g c = runs_out _ Memory c.from_residual-in_err-number.result c.from_residual-in_err-number.ensures.1
    (runs_lost (onward_then (c.in_ok-part.ensures.did.goes (λ nu u. given (integer_in (val_in nu c.args.place.now)) (rest u c.args.this.now)))
    ((given_takes (λ nu. integer_in (val_in nu c.args.place.now)) (λ z. z) _ (Ok c.in_ok-at.at) c.in_ok-at.ensures).goes (λ nu. rest c.in_ok-part.part c.args.this.now))))

pub returns-clause-did : goal.returns-clause-did
returns-clause-did g c = runs_value (λ nu. spec.place_value (spec.place_from c.in_ok-part.part (drop (spec.clamped c.in_ok-at.at (length c.args.this.now)) c.args.this.now) (spec.clamped c.in_ok-at.at (length c.args.this.now)))) (λ nu. model.Number c.in_ok-number.number)
    (onward_then (c.in_ok-part.ensures.did.goes (λ nu u. given (integer_in (val_in nu c.args.place.now)) (rest u c.args.this.now)))
    ((given_takes (λ nu. integer_in (val_in nu c.args.place.now)) (λ z. z) _ (Ok c.in_ok-at.at) c.in_ok-at.ensures).goes (λ nu. rest c.in_ok-part.part c.args.this.now)))
    (λ nu. ap spec.place_value (sym c.place_of.ensures) ∙ c.in_ok-number.ensures)
