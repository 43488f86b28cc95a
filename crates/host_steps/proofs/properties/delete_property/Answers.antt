use Rattle.std.proofs.Common.{ap, ◌∙◌, not}
use Rattle.turk_base.specs.Values.{Truth, Normal}
use Rattle.turk_base.specs.Prog.{value}
use Rattle.js_tree.specs.Operate.{delete_property}
use Rattle.value_cells.specs.Seen.{val_in}
use Rattle.run_host.specs.Told.{Says}
use Rattle.run_host.proofs.Sequence.{ends_with}
use Rattle.run_host.proofs.Exits.{value_exit}
use Rattle.run_host.proofs.Fits.{runs_on, runs_left}
use Rattle.host_steps.proofs.Made.{onward_eq}
use Rattle.host_steps.proofs.Parts.{no_delete}
use Rattle.host_steps.proofs.properties.delete_property.Goals as goal

pub returns-in_err-gone-in-Object-clause-did : goal.returns-in_err-gone-in-Object-clause-did
returns-in_err-gone-in-Object-clause-did g c = value_exit _ _ c.from_residual.ensures.1
    ((onward_eq (λ nu. ap (λ v. delete_property (val_in nu v) c.args.key.now) c.in-Object.is)).goes _ _ (runs_left (λ nu b. value (Truth b)) c.in_err-gone-in-Object.ensures.did))

pub returns-in_ok-gone-in-Object-clause-did : goal.returns-in_ok-gone-in-Object-clause-did
returns-in_ok-gone-in-Object-clause-did g c =
    (onward_eq (λ nu. ap (λ v. delete_property (val_in nu v) c.args.key.now) c.in-Object.is)).goes _ _ (runs_on (λ nu b. value (Truth b)) c.in_ok-gone-in-Object.ensures.did ends_with)

pub returns-in-Text-clause-did : goal.returns-in-Text-clause-did
returns-in-Text-clause-did g c =
    (onward_eq (λ nu. ap (λ v. delete_property (val_in nu v) c.args.key.now) c.in-Text.is ∙ ap (λ b. value (Truth (not b))) (c.is_word.ensures))).goes (λ nu. Says (Normal (Truth (not c.is_word.result)))) (g.H.Host.moment c.args.host.now) ends_with

pub returns-in_default-clause-did : goal.returns-in_default-clause-did
returns-in_default-clause-did g c = no_delete c.args.base.now c.args.key.now c.in_default.not-Object c.in_default.not-Text
