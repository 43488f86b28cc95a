use Rattle.std.proofs.Common.{ap, sym, ◌∙◌, Ok, Err, ℤ, pos}
use Rattle.turk_base.specs.Names.{Units}
use Rattle.turk_base.specs.Values as model
use Rattle.turk_base.specs.Conversions.{integer_in}
use Rattle.turk_base.specs.Prog.{Prog}
use Rattle.turk_base.specs.BuiltIns as spec
use Rattle.value_cells.specs.declared.OpStop.TheVariants.{NotWhole}
use Rattle.value_cells.specs.Seen.{val_in}
use Rattle.value_cells.proofs.Turns.{onward_then, refused}
use Rattle.builtin_calls.proofs.Moves.{runs_out, onward_eq, onward_out, runs_value, given_takes}
use Rattle.builtin_calls.proofs.texts.char_code_at.Goals as goal

abbrev rest : Units → ℤ → Prog
rest t at = spec.unit_value (spec.unit_at at t)

pub returns-in_err-at-clause-did : goal.returns-in_err-at-clause-did
returns-in_err-at-clause-did c = λ s. runs_out _ c.in_err-at.field-0.0 c.from_residual.result c.from_residual.ensures.1
    ((given_takes (λ nu. integer_in (val_in nu c.args.place.now)) (λ z. z) s (Err c.in_err-at.field-0.0) c.in_err-at.ensures).ends (λ nu. rest c.args.this.now))

pub returns-in-Some-clause-did : goal.returns-in-Some-clause-did
returns-in-Some-clause-did c = λ s. runs_value (λ nu. model.Number (pos c.in-Some.unit)) (λ nu. model.Number c.from_u32.result)
    (onward_then ((given_takes (λ nu. integer_in (val_in nu c.args.place.now)) (λ z. z) s (Ok c.in_ok-at.at) c.in_ok-at.ensures).goes (λ nu. rest c.args.this.now))
    (onward_eq (λ nu. ap spec.unit_value (sym c.unit_at.ensures ∙ c.in-Some.is))))
    (λ nu. ap model.Number (sym c.from_u32.ensures))

pub returns-in-None-clause-did : goal.returns-in-None-clause-did
returns-in-None-clause-did c = λ s. onward_out NotWhole
    (onward_then ((given_takes (λ nu. integer_in (val_in nu c.args.place.now)) (λ z. z) s (Ok c.in_ok-at.at) c.in_ok-at.ensures).goes (λ nu. rest c.args.this.now))
    (onward_eq (λ nu. ap spec.unit_value (sym c.unit_at.ensures ∙ c.in-None.is)))) refused
