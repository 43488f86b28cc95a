-- An entry more at the end of a trace.
use Rattle.std.proofs.Common.{◌≡◌, ◌≢◌, inl, inr, ℕ, zero, suc, ◌<◌, List, [], ◌∷◌, ◌++◌, length, take, None, refl, sym, ap, ◌∙◌, arith, length-append}
use Rattle.std.specs.Prelude.{slice_get}
use Rattle.std.proofs.Math.Seq.{take-nil}
use Rattle.std.proofs.lemmas.Bool.{cases_lt}
use Rattle.std.proofs.lemmas.Option.{slice_get_past}
use Rattle.turk_base.specs.declared.Entry.{Entry}
use Rattle.turk_base.specs.Trace.{at}
use Rattle.trace_tree.specs.declared.spot.Spot.{Spot}
use Rattle.trace_tree.specs.Traces.{HasDistinctPaths, IsTrace}
use Rattle.trace_tree.specs.Spots.{path_in, path_of, StandsAt}
use Rattle.trace_tree.proofs.Scans.{at_hit, at_skip}

abbrev nothing_at : List Entry → List ℕ → Type 0
nothing_at es p = at es p ≡ None

-- where no entry has the path but the first may
first_apart : (f : Entry) (es : List Entry) (p : List ℕ) → nothing_at (f ∷ es) p → f.path ≢ p
first_apart f es p none is =
    let found = at_hit f es p is in
    cc

pub at_push : (es : List Entry) (e : Entry) (p : List ℕ) → nothing_at es p → e.path ≢ p → nothing_at (es ++ e ∷ []) p
at_push [] e p none apart = at_skip e [] p apart
at_push (f ∷ es) e p none apart =
    let far = first_apart f es p none in
    at_skip f (es ++ e ∷ []) p far ∙ at_push es e p (sym (at_skip f es p far) ∙ none) apart

pub distinct_push : (es : List Entry) (e : Entry) → HasDistinctPaths es → nothing_at es e.path → HasDistinctPaths (es ++ e ∷ [])
distinct_push [] e distinct none = (refl, tt)
distinct_push (f ∷ es) e distinct none =
    let far = first_apart f es e.path none in
    (at_push es e f.path distinct.0 (λ is. far (sym is)), distinct_push es e distinct.1 (sym (at_skip f es e.path far) ∙ none))

pub trace_push : (es : List Entry) (e : Entry) → IsTrace es → nothing_at es e.path → length es < 65536 → IsTrace (es ++ e ∷ [])
trace_push es e valid none few = record { distinct = distinct_push es e valid.distinct none; few = omega (arith, length-append es (e ∷ [])) }

slice_get_front : (es fs : List Entry) (k : ℕ) → k < length es → slice_get (es ++ fs) k ≡ slice_get es k
slice_get_front [] fs k lt = absurd (omega arith)
slice_get_front (e ∷ es) fs zero lt = refl
slice_get_front (e ∷ es) fs (suc k) lt = slice_get_front es fs k (omega arith)

-- a Spot stands where it stood
pub stands_push : (es : List Entry) (e : Entry) (s : Spot) (p : List ℕ) → StandsAt es s p → StandsAt (es ++ e ∷ []) s p
stands_push es e s p stands =
    elim (cases_lt s.number (length es)) [
      | inl lt ↦
          let same : path_in (slice_get (es ++ e ∷ []) s.number) ≡ path_in (slice_get es s.number) = ap path_in (slice_get_front es (e ∷ []) s.number lt) in
          record { good = rw same stands.good; path_is = rw same stands.path_is }
      | inr le ↦
          let past : path_in (slice_get es s.number) ≡ [] = ap path_in (slice_get_past es s.number le) in
          let empty : path_of es s ≡ [] = ap (λ (l : List ℕ). take s.depth l) past ∙ take-nil s.depth in
          let none : s.depth ≡ 0 = omega (arith, stands.good, ap length past) in
          record { good = rw none (omega arith); path_is = ap (λ (n : ℕ). take n (path_in (slice_get (es ++ e ∷ []) s.number))) none ∙ sym empty ∙ stands.path_is }
    ]
