use Rattle.std.proofs.Common.{ap, codes}
use Rattle.js_tree.specs.Operate.{instance_of, on_chain}
use Rattle.value_cells.specs.Seen.{val_in}
use Rattle.run_host.proofs.Sequence.{ends_with, no_memory}
use Rattle.run_host.proofs.Exits.{value_exit}
use Rattle.run_host.proofs.Fits.{runs_on, runs_left}
use Rattle.host_steps.proofs.Made.{runs_as}
use Rattle.value_rows.proofs.Given.{no_instance, get_under, get_out_under}
use Rattle.value_rows.proofs.sums.instance_of.Goals as goal

pub returns-in_err-key-in-Object-clause-ran : goal.returns-in_err-key-in-Object-clause-ran
returns-in_err-key-in-Object-clause-ran g c = value_exit _ _ c.from_residual.ensures.1 no_memory

pub returns-in_err-found-in-Object-clause-ran : goal.returns-in_err-found-in-Object-clause-ran
returns-in_err-found-in-Object-clause-ran g c = value_exit _ _ c.from_residual-in_err-found-in-Object.ensures.1 (runs_as (λ nu. ap (λ v. instance_of (val_in nu v) (nu c.args.f)) c.in-Object.is)
    (runs_left (λ nu p. on_chain (nu c.in-Object.cell) p) (get_out_under {at = λ nu. nu c.args.f} (codes "prototype") c.in_ok-key-in-Object.ensures c.in_err-found-in-Object.ensures.did)))

pub returns-in_ok-found-in-Object-clause-ran : goal.returns-in_ok-found-in-Object-clause-ran
returns-in_ok-found-in-Object-clause-ran g c = runs_as (λ nu. ap (λ v. instance_of (val_in nu v) (nu c.args.f)) c.in-Object.is)
    (runs_on (λ nu p. on_chain (nu c.in-Object.cell) p) (get_under {at = λ nu. nu c.args.f} (codes "prototype") c.in_ok-key-in-Object.ensures c.in_ok-found-in-Object.ensures.did) c.on_chain.ensures.ran)

pub returns-in_default-clause-ran : goal.returns-in_default-clause-ran
returns-in_default-clause-ran g c = runs_as (λ nu. no_instance c.args.x.now c.in_default.not-Object nu (nu c.args.f)) ends_with
