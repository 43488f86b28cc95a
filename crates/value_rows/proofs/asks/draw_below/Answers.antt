use Rattle.std.specs.Prelude.{if◌then◌else◌}
use Rattle.std.proofs.Common.{ap, ◌∙◌, codes}
use Rattle.turk_base.specs.Values.{Number}
use Rattle.turk_base.specs.Prog.{Draw, Ask, value}
use Rattle.turk_base.specs.Errors.{type_error}
use Rattle.run_host.proofs.Exits.{value_exit}
use Rattle.run_host.proofs.Sequence.{ends_with}
use Rattle.run_host.proofs.Fits.{runs_on, runs_left}
use Rattle.host_steps.proofs.Made.{runs_as}
use Rattle.value_rows.proofs.asks.draw_below.Goals as goal

pub returns-then-is_below_one-clause-ran : goal.returns-then-is_below_one-clause-ran
returns-then-is_below_one-clause-ran g c = runs_as (λ nu. ap (λ b. if b then type_error (codes "random needs a positive number") else Ask (Draw c.args.bound) (λ m. value (Number m))) (c.is_below_one.ensures.test ∙ c.if-is_below_one.true)) c.type_error_of.ensures.did

pub draw-requires-clause-bound : goal.draw-requires-clause-bound
draw-requires-clause-bound g c = c.is_below_one.ensures.bound c.if-is_below_one.false

pub returns-in_err-drawn-clause-ran : goal.returns-in_err-drawn-clause-ran
returns-in_err-drawn-clause-ran g c = value_exit _ _ c.from_residual.ensures.1 (runs_as (λ nu. ap (λ b. if b then type_error (codes "random needs a positive number") else Ask (Draw c.args.bound) (λ m. value (Number m))) (c.is_below_one.ensures.test ∙ c.if-is_below_one.false)) (runs_left (λ nu m. value (Number m)) c.in_err-drawn.ensures.did))

pub returns-clause-ran : goal.returns-clause-ran
returns-clause-ran g c = runs_as (λ nu. ap (λ b. if b then type_error (codes "random needs a positive number") else Ask (Draw c.args.bound) (λ m. value (Number m))) (c.is_below_one.ensures.test ∙ c.if-is_below_one.false)) (runs_on (λ nu m. value (Number m)) c.in_ok-drawn.ensures.did ends_with)
