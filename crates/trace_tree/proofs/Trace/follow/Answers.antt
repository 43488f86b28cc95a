use Rattle.std.proofs.Common.{◌≡◌, ◌≢◌, sym, subst, List, ℕ, inr, take, get_or, ◌+◌, ◌++◌, ◌∷◌, [], refl}
use Rattle.std.proofs.lemmas.Bool.{false≢true}
use Rattle.trace_tree.specs.Traces.{StandsNone}
use Rattle.trace_tree.specs.Spots.{StandsAt, path_of}
use Rattle.trace_tree.proofs.Scans.{path_step, none_along, some_along}
use Rattle.trace_tree.proofs.Trace.follow.Goals as goal

pub returns-clause-none : goal.returns-clause-none
returns-clause-none c =
    let items = c.as_slice-index-items.result.now in
    let same = c.as_slice-index-items.ensures in
    let es = c.args.self.now.entries in
    let k = c.loop-index.index-index in
    ((λ e. absurd (false≢true (sym e))), (λ none. absurd (some_along es items k c.loop-index-test.false c.loop-index.invariant.there (subst (λ (p : List ℕ). p ≢ [] × StandsNone es p) (sym same) none))))

pub loop-index-preserved : goal.loop-index-preserved
loop-index-preserved c =
    let items = c.as_slice-index-items.result.now in
    let es = c.args.self.now.entries in
    let k = c.loop-index.index-index in
    let step : path_of es c.loop-index.here ++ get_or items k 0 ∷ [] ≡ take (k + 1) items = path_step items k (get_or items k 0) (path_of es c.loop-index.here) c.loop-index-test.true refl c.loop-index.invariant.here.path_is in
    record {
      here = subst (λ (p : List ℕ). StandsAt es c.in-Some.next p) step c.in-Some.ensures.spot;
      there = inr (λ none. false≢true (sym (c.in-Some.ensures.none.1 (subst (λ (p : List ℕ). StandsNone es p) (sym step) none))));
    }

pub returns-in-None-clause-none : goal.returns-in-None-clause-none
returns-in-None-clause-none c =
    let items = c.as_slice-index-items.result.now in
    let same = c.as_slice-index-items.ensures in
    let es = c.args.self.now.entries in
    let k = c.loop-index.index-index in
    let step : path_of es c.loop-index.here ++ get_or items k 0 ∷ [] ≡ take (k + 1) items = path_step items k (get_or items k 0) (path_of es c.loop-index.here) c.loop-index-test.true refl c.loop-index.invariant.here.path_is in
    ((λ e. subst (λ (p : List ℕ). p ≢ [] × StandsNone es p) same (none_along es items k _ c.loop-index-test.true step (c.in-None.ensures.none.0 refl))), (λ none. refl))
