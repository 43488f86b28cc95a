use Rattle.run_host.specs.Moment.{apart}
use Rattle.run_host.proofs.Along.{anywhere}
use Rattle.std.proofs.Common.{ap, ◌∙◌}
use Rattle.turk_base.specs.Values.{Undefined}
use Rattle.turk_base.specs.Errors.{choose}
use Rattle.js_tree.specs.Operate.{type_of}
use Rattle.js_tree.specs.Pieces.{get_variable}
use Rattle.run_host.specs.Told.{here_in}
use Rattle.run_host.proofs.Exits.{value_exit}
use Rattle.run_host.proofs.Fits.{runs_on, runs_left}
use Rattle.host_steps.proofs.Made.{runs_as}
use Rattle.value_rows.proofs.types.type_of_name.Goals as goal

pub returns-then-is_undeclared-clause-ran : goal.returns-then-is_undeclared-clause-ran
returns-then-is_undeclared-clause-ran g c = runs_as (λ nu. ap (λ b. choose b (type_of Undefined) (get_variable (here_in nu c.args.here) c.args.x.now type_of)) (c.is_undeclared.ensures ∙ c.if-is_undeclared.true)) (anywhere (g.H.Host.moment c.args.host.now) (c.word.ensures.ran (apart (g.H.Host.moment c.args.host.now))))

pub returns-in_err-value-clause-ran : goal.returns-in_err-value-clause-ran
returns-in_err-value-clause-ran g c = value_exit _ _ c.from_residual.ensures.1
    (runs_as (λ nu. ap (λ b. choose b (type_of Undefined) (get_variable (here_in nu c.args.here) c.args.x.now type_of)) (c.is_undeclared.ensures ∙ c.if-is_undeclared.false)) (runs_left (λ nu v. type_of v) c.in_err-value.ensures.did))

pub returns-clause-ran : goal.returns-clause-ran
returns-clause-ran g c =
    runs_as (λ nu. ap (λ b. choose b (type_of Undefined) (get_variable (here_in nu c.args.here) c.args.x.now type_of)) (c.is_undeclared.ensures ∙ c.if-is_undeclared.false)) (runs_on (λ nu v. type_of v) c.in_ok-value.ensures.did c.type_of.ensures.ran)
