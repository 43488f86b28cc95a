use Rattle.std.proofs.Common.{ap, sym, ◌∙◌}
use Rattle.turk_base.specs.Values.{Text}
use Rattle.turk_base.specs.Prog.{value}
use Rattle.js_tree.specs.Expressions.{literal_row}
use Rattle.run_host.proofs.Sequence.{ends_with, no_memory}
use Rattle.run_host.proofs.Exits.{value_exit}
use Rattle.host_steps.proofs.Made.{runs_as}
use Rattle.host_steps.proofs.literals.literal.Goals as goal

pub returns-in-Null-clause-ran : goal.returns-in-Null-clause-ran
unfolding literal_row
returns-in-Null-clause-ran c = λ m. runs_as (λ nu. ap literal_row c.in-Null.is) ends_with

pub returns-in-Truth-clause-ran : goal.returns-in-Truth-clause-ran
unfolding literal_row
returns-in-Truth-clause-ran c = λ m. runs_as (λ nu. ap literal_row c.in-Truth.is) ends_with

pub returns-in-Number-clause-ran : goal.returns-in-Number-clause-ran
unfolding literal_row
returns-in-Number-clause-ran c = λ m. runs_as (λ nu. ap literal_row c.in-Number.is) ends_with

pub returns-in_ok-copy-in-Text-clause-ran : goal.returns-in_ok-copy-in-Text-clause-ran
unfolding literal_row
returns-in_ok-copy-in-Text-clause-ran c = λ m. runs_as (λ nu. ap literal_row c.in-Text.is ∙ ap (λ t. value (Text t)) (sym c.in_ok-copy-in-Text.ensures)) ends_with

pub returns-in_err-copy-in-Text-clause-ran : goal.returns-in_err-copy-in-Text-clause-ran
returns-in_err-copy-in-Text-clause-ran c = λ m. value_exit _ _ c.from_residual.ensures.1 no_memory
