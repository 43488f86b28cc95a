use Rattle.std.proofs.Common.{refl, sym, ap, [], arith}
use Rattle.turk_base.specs.Values as model
use Rattle.turk_base.specs.Prog.{value}
use Rattle.turk_base.specs.BuiltIns as spec
use Rattle.value_cells.specs.Seen.{val_in}
use Rattle.value_cells.proofs.Turns.{onward_then}
use Rattle.builtin_calls.proofs.Lists.{map_next, map_none}
use Rattle.builtin_calls.proofs.Moves.{runs_out, onward_eq, onward_out, runs_value}
use Rattle.builtin_calls.proofs.texts.string_of.Goals as goal

pub returns-in_err-text_of-in-len1-up-clause-did : goal.returns-in_err-text_of-in-len1-up-clause-did
returns-in_err-text_of-in-len1-up-clause-did g c = runs_out _ c.in_err-text_of-in-len1-up.field-0.0 c.from_residual.result c.from_residual.ensures.1 (onward_out c.in_err-text_of-in-len1-up.field-0.0
    (onward_eq (λ nu. ap spec.string_of (map_next (val_in nu) c.args.values.now 0 c.value-item.result (omega (arith, c.in-len1-up.len_at_least)) c.value-item.is)))
    (c.in_err-text_of-in-len1-up.ensures.did.ends (λ nu t. value (model.Text t))))

pub returns-in-empty-clause-did : goal.returns-in-empty-clause-did
returns-in-empty-clause-did g c = runs_value (λ nu. model.Text []) (λ nu. model.Text c.new.result)
    (onward_eq (λ nu. ap spec.string_of (map_none (val_in nu) c.args.values.now 0 (omega (arith, c.in-empty.len_below))))) (λ nu. ap model.Text (sym c.new.ensures))

pub returns-in_ok-text_of-in-len1-up-clause-did : goal.returns-in_ok-text_of-in-len1-up-clause-did
returns-in_ok-text_of-in-len1-up-clause-did g c = runs_value (λ nu. model.Text c.in_ok-text_of-in-len1-up.field-0) (λ nu. model.Text c.in_ok-text_of-in-len1-up.field-0)
    (onward_then (onward_eq (λ nu. ap spec.string_of (map_next (val_in nu) c.args.values.now 0 c.value-item.result (omega (arith, c.in-len1-up.len_at_least)) c.value-item.is)))
    (c.in_ok-text_of-in-len1-up.ensures.did.goes (λ nu t. value (model.Text t)))) (λ nu. refl)
