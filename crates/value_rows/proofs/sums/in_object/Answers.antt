use Rattle.std.specs.Prelude.{is_some}
use Rattle.std.proofs.Common.{ap, ◌∙◌, sym}
use Rattle.turk_base.specs.Values.{Truth}
use Rattle.turk_base.specs.Prog.{Get, ask, value}
use Rattle.js_tree.specs.Operate.{in_object}
use Rattle.value_cells.specs.Seen.{val_in}
use Rattle.run_host.proofs.Sequence.{ends_with}
use Rattle.run_host.proofs.Exits.{value_exit}
use Rattle.run_host.proofs.Fits.{runs_on, runs_left}
use Rattle.host_steps.proofs.Made.{runs_as}
use Rattle.value_rows.proofs.Given.{not_in_object, some_mapped}
use Rattle.value_rows.proofs.sums.in_object.Goals as goal

pub returns-in_err-key-in-Object-clause-ran : goal.returns-in_err-key-in-Object-clause-ran
returns-in_err-key-in-Object-clause-ran g c = value_exit _ _ c.from_residual.ensures.1 (runs_as (λ nu. ap (λ v. in_object (val_in nu c.args.x.now) (val_in nu v)) c.in-Object.is)
    (runs_left (λ nu key. ask (Get (nu c.in-Object.cell) key) (λ found. value (Truth (is_some found)))) c.in_err-key-in-Object.ensures.did))

pub returns-in_err-found-in-Object-clause-ran : goal.returns-in_err-found-in-Object-clause-ran
returns-in_err-found-in-Object-clause-ran g c = value_exit _ _ c.from_residual-in_err-found-in-Object.ensures.1 (runs_as (λ nu. ap (λ v. in_object (val_in nu c.args.x.now) (val_in nu v)) c.in-Object.is)
    (runs_on (λ nu key. ask (Get (nu c.in-Object.cell) key) (λ found. value (Truth (is_some found)))) c.in_ok-key-in-Object.ensures.did
    (runs_left (λ nu found. value (Truth (is_some found))) c.in_err-found-in-Object.ensures.did)))

pub returns-in_ok-found-in-Object-clause-ran : goal.returns-in_ok-found-in-Object-clause-ran
returns-in_ok-found-in-Object-clause-ran g c = runs_as (λ nu. ap (λ v. in_object (val_in nu c.args.x.now) (val_in nu v)) c.in-Object.is)
    (runs_on (λ nu key. ask (Get (nu c.in-Object.cell) key) (λ found. value (Truth (is_some found)))) c.in_ok-key-in-Object.ensures.did
    (runs_on (λ nu found. value (Truth (is_some found))) c.in_ok-found-in-Object.ensures.did
    (runs_as (λ nu. ap (λ b. value (Truth b)) (some_mapped (val_in nu) c.in_ok-found-in-Object.found ∙ sym c.is_some.ensures)) ends_with)))

pub returns-in_default-clause-ran : goal.returns-in_default-clause-ran
returns-in_default-clause-ran g c = runs_as (λ nu. not_in_object c.args.y.now c.in_default.not-Object nu (val_in nu c.args.x.now)) c.type_error_of.ensures.did
