use Rattle.std.proofs.Common.{sym, ◌∙◌, eq-eqb, eqb-true}
use Rattle.std.proofs.lemmas.Bool.{false≢true}
use Rattle.trace_tree.proofs.Fronts.{goes_on_then, goes_on_back}
use Rattle.trace_tree.proofs.goes_on.Goals as goal

pub returns-then-not-starts_with : goal.returns-then-not-starts_with
returns-then-not-starts_with c =
    ((λ e. absurd (false≢true e)), (λ b. absurd (false≢true (sym c.if-not-starts_with.true ∙ c.starts_with.ensures.value ∙ (goes_on_back _ _ _ b).0))))

pub returns : goal.returns
returns c =
    ((λ e. goes_on_then _ _ _ (sym c.starts_with.ensures.value ∙ c.if-not-starts_with.false) c.if-path-front.false (eqb-true _ _ e)), (λ b. eq-eqb _ _ (goes_on_back _ _ _ b).2))
