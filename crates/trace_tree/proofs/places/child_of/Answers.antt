use Rattle.std.proofs.Common.{sym, ◌∙◌, subst, List, ℕ, refl, length, ◌+◌, ◌++◌, ◌∷◌, []}
use Rattle.std.proofs.lemmas.Bool.{false≢true}
use Rattle.trace_tree.specs.Traces.{StandsNone}
use Rattle.trace_tree.specs.Spots.{StandsAt}
use Rattle.trace_tree.proofs.Scans.{passed_none, found_none, ended_none, spot_found}
use Rattle.trace_tree.proofs.places.child_of.Goals as goal

pub loop-number-preserved : goal.loop-number-preserved
loop-number-preserved c =
    passed_none _ _ _ _ c.loop-number-test.true c.index-entries-number.is (λ b. false≢true (sym c.if-goes_on.false ∙ c.goes_on.ensures.1 (b.0, c.as_slice.ensures ∙ b.1))) c.loop-number.invariant

pub returns-then-goes_on-clause-spot : goal.returns-then-goes_on-clause-spot
returns-then-goes_on-clause-spot c =
    let found = c.goes_on.ensures.0 c.if-goes_on.true in
    subst (λ (f : List ℕ). StandsAt c.args.entries.now (record { number = c.loop-number.number; depth = length c.front_of-front.result.now + 1 }) (f ++ c.args.index ∷ [])) c.front_of-front.ensures (spot_found c.args.entries.now c.loop-number.number c.index-entries-number.result c.front_of-front.result.now c.args.index c.loop-number-test.true c.index-entries-number.is (found.0, sym c.as_slice.ensures ∙ found.1))

pub returns-then-goes_on-clause-none : goal.returns-then-goes_on-clause-none
returns-then-goes_on-clause-none c =
    let found = c.goes_on.ensures.0 c.if-goes_on.true in
    ((λ e. absurd (false≢true (sym e))), (λ none. absurd (found_none c.args.entries.now c.loop-number.number c.index-entries-number.result (c.front_of-front.result.now ++ c.args.index ∷ []) c.loop-number-test.true c.index-entries-number.is (found.0, sym c.as_slice.ensures ∙ found.1) c.loop-number.invariant (subst (λ (f : List ℕ). StandsNone c.args.entries.now (f ++ c.args.index ∷ [])) (sym c.front_of-front.ensures) none))))

pub returns-clause-none : goal.returns-clause-none
returns-clause-none c =
    ((λ e. subst (λ (f : List ℕ). StandsNone c.args.entries.now (f ++ c.args.index ∷ [])) c.front_of-front.ensures (ended_none c.args.entries.now c.loop-number.number (c.front_of-front.result.now ++ c.args.index ∷ []) c.loop-number-test.false c.loop-number.invariant)), (λ none. refl))
