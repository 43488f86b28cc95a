use Rattle.std.proofs.Common.{sym, ◌∙◌}
use Rattle.turk_base.specs.Values.{Truth}
use Rattle.turk_base.specs.Prog.{value}
use Rattle.run_host.proofs.Sequence.{ends_with}
use Rattle.run_host.proofs.Fits.{runs_on}
use Rattle.host_steps.proofs.Made.{runs_as}
use Rattle.value_rows.proofs.Given.{on_chain_some, on_chain_none}
use Rattle.value_rows.proofs.sums.on_chain.Goals as goal

pub returns-in-Some-clause-ran : goal.returns-in-Some-clause-ran
returns-in-Some-clause-ran g c = runs_as (λ nu. on_chain_some c.args.found c.in-Some.from (sym c.object_in.ensures.cell ∙ c.in-Some.is) nu (nu c.args.cell)) (runs_on (λ nu b. value (Truth b)) c.inherits.ensures.did ends_with)

pub returns-in-None-clause-ran : goal.returns-in-None-clause-ran
returns-in-None-clause-ran g c = runs_as (λ nu. on_chain_none c.args.found (sym c.object_in.ensures.cell ∙ c.in-None.is) nu (nu c.args.cell)) c.type_error_of.ensures.did
