-- What the units of a text come to between quotation marks, one after another.
use Rattle.std.proofs.Common.{◌≡◌, ◌∷◌, [], ◌++◌, ◌+◌, ◌<◌, ◌≤◌, ℕ, suc, List, true, false, refl, ap, sym, ◌∙◌, length, drop, get_or, arith, add-one}
use Rattle.std.proofs.Math.ListN.{drop_of_length-le}
use Rattle.std.proofs.Math.Seq.{drop-cons}
use Rattle.std.proofs.lemmas.List.{append-nil, append_assoc, length-drop}
use Rattle.run_texts.specs.Texts.{begins_pair, single, escaped}

pub nothing : escaped [] ≡ []
unfolding escaped
nothing = refl

pub one : (u : ℕ) (us : List ℕ) → begins_pair (u ∷ us) ≡ false → escaped (u ∷ us) ≡ single u ++ escaped us
unfolding escaped
one u [] apart = sym (append-nil (single u))
one u (v ∷ us) apart = rw apart

pub two : (u v : ℕ) (us : List ℕ) → begins_pair (u ∷ v ∷ us) ≡ true → escaped (u ∷ v ∷ us) ≡ u ∷ v ∷ escaped us
unfolding escaped
two u v us pair = rw pair

long : (us : List ℕ) → begins_pair us ≡ true → 1 < length us
long [] pair = cc
long (u ∷ []) pair = cc
long (u ∷ v ∷ us) pair = omega arith

module _ (units : List ℕ) (at : ℕ) where
  first : at < length units → drop at units ≡ get_or units at 0 ∷ drop (at + 1) units
  first within = rw (add-one, drop-cons units at 0 within)

  both : begins_pair (drop at units) ≡ true → drop at units ≡ get_or units at 0 ∷ get_or units (at + 1) 0 ∷ drop (at + 2) units
  both pair =
      let within : at + 1 < length units = omega (arith, long (drop at units) pair, length-drop at units) in
      let place : at + 2 ≡ suc (at + 1) = omega arith in
      let second : drop (at + 1) units ≡ get_or units (at + 1) 0 ∷ drop (suc (at + 1)) units = drop-cons units (at + 1) 0 within in
      rw place (first (omega arith) ∙ ap (λ us. get_or units at 0 ∷ us) second)

  -- no pair begins at the last unit
  pub last_begins_none : at < length units → at + 1 ≡ length units → begins_pair (drop at units) ≡ false
  last_begins_none within last =
      let past : drop (at + 1) units ≡ [] = drop_of_length-le units (omega arith) in
      ap begins_pair (first within ∙ ap (λ us. get_or units at 0 ∷ us) past)

  pub escaped_none : length units ≤ at → escaped (drop at units) ≡ []
  escaped_none past = ap escaped (drop_of_length-le units past) ∙ nothing

  module _ (old new : List ℕ) where
    -- a unit that is first in no pair is added
    pub one_added : at < length units → begins_pair (drop at units) ≡ false → new ≡ old ++ single (get_or units at 0)
        → new ++ escaped (drop (at + 1) units) ≡ old ++ escaped (drop at units)
    one_added within apart added =
        let rest : escaped (drop at units) ≡ single (get_or units at 0) ++ escaped (drop (at + 1) units) =
        ap escaped (first within) ∙ one _ _ (sym (ap begins_pair (first within)) ∙ apart) in
        rw (rest, added, append_assoc)

    -- a pair is added, one unit after the other
    pub two_added : (middle : List ℕ) → begins_pair (drop at units) ≡ true → middle ≡ old ++ get_or units at 0 ∷ [] → new ≡ middle ++ get_or units (at + 1) 0 ∷ []
        → new ++ escaped (drop (at + 2) units) ≡ old ++ escaped (drop at units)
    two_added middle pair high low =
        let rest : escaped (drop at units) ≡ get_or units at 0 ∷ get_or units (at + 1) 0 ∷ escaped (drop (at + 2) units) =
        ap escaped (both pair) ∙ two _ _ _ (sym (ap begins_pair (both pair)) ∙ pair) in
        rw (rest, low, high) (simp append_assoc)
