use Rattle.std.proofs.Common.{ap, sym}
use Rattle.turk_base.specs.Values.{Text}
use Rattle.turk_base.specs.Prog.{value}
use Rattle.run_host.proofs.Sequence.{ends_with, no_memory}
use Rattle.run_host.proofs.Exits.{value_exit}
use Rattle.host_steps.proofs.Made.{runs_as}
use Rattle.value_rows.proofs.types.word.Goals as goal

pub returns-in_err-text-clause-ran : goal.returns-in_err-text-clause-ran
returns-in_err-text-clause-ran c = λ m. value_exit _ _ c.from_residual.ensures.1 no_memory

pub returns-clause-ran : goal.returns-clause-ran
returns-clause-ran c = λ m. runs_as (λ nu. ap (λ t. value (Text t)) (sym c.in_ok-text.ensures)) ends_with
