use Rattle.std.proofs.Common.{ap, ◌∙◌}
use Rattle.turk_base.specs.Conversions.{truth}
use Rattle.turk_base.specs.Errors.{choose}
use Rattle.turk_base.specs.Values.{Break, Normal, Undefined}
use Rattle.turk_base.specs.Prog.{Done, nothing}
use Rattle.run_host.specs.Told.{Says}
use Rattle.run_host.proofs.Sequence.{then_on, ends_with}
use Rattle.run_host.proofs.Exits.{flow_exit, first_out}
use Rattle.tree_rows.proofs.Lists.{onward_eq}
use Rattle.tree_rows.proofs.below.Below.again.Goals as goal

pub returns-in_err-value-clause-ran : goal.returns-in_err-value-clause-ran
returns-in_err-value-clause-ran g c = flow_exit _ _ c.from_residual.ensures.1 (first_out (λ nu v. choose (truth v) nothing (Done Break)) _ c.in_err-value.ensures.ran)

pub returns-then-truth-clause-ran : goal.returns-then-truth-clause-ran
returns-then-truth-clause-ran g c = then_on (λ nu v. choose (truth v) nothing (Done Break)) c.in_ok-value.ensures.ran
    ((onward_eq (λ nu. ap (λ x. choose x nothing (Done Break)) (c.truth.ensures nu ∙ c.if-truth.true))).goes (λ nu. Says (Normal Undefined)) (g.H.Host.moment c.expr.new.host) ends_with)

pub returns-clause-ran : goal.returns-clause-ran
returns-clause-ran g c = then_on (λ nu v. choose (truth v) nothing (Done Break)) c.in_ok-value.ensures.ran
    ((onward_eq (λ nu. ap (λ x. choose x nothing (Done Break)) (c.truth.ensures nu ∙ c.if-truth.false))).goes (λ nu. Says Break) (g.H.Host.moment c.expr.new.host) ends_with)
