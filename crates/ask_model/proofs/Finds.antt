-- Looking in one list of entries and then in another.
use Rattle.std.proofs.Common.{◌≡◌, Bool, true, false, cond, ◌||◌, List, [], ◌∷◌, ◌++◌, ℕ, Option, Some, None, refl, sym, ap, ◌∙◌}
use Rattle.turk_base.specs.declared.Entry.{Entry}
use Rattle.turk_base.specs.declared.Record.{Record}
use Rattle.turk_base.specs.Trace.{at, below, same_list, begins}
use Rattle.std.specs.Prelude.{◌&&◌, not}
use Rattle.ask_model.specs.declared.Known.TheVariants.{Nothing, Below, Here}
use Rattle.ask_model.specs.Asker.{known_by, known_at}

abbrev first_of : Option Record → Option Record → Option Record
first_of (Some r) o = Some r
first_of None o = o

pub at_both : (l m : List Entry) (p : List ℕ) → at (l ++ m) p ≡ first_of (at l p) (at m p)
at_both [] m p = refl
at_both (e ∷ l) m p = by_test (same_list e.path p) (at_both l m p)
  where
    by_test : (b : Bool) → at (l ++ m) p ≡ first_of (at l p) (at m p) → cond b (Some e.what) (at (l ++ m) p) ≡ first_of (cond b (Some e.what) (at l p)) (at m p)
    by_test true h = refl
    by_test false h = h

pub at_some : (l m : List Entry) (p : List ℕ) (r : Record) → at l p ≡ Some r → at (l ++ m) p ≡ Some r
at_some l m p r h = at_both l m p ∙ ap (λ o. first_of o (at m p)) h

pub at_none : (l m : List Entry) (p : List ℕ) → at l p ≡ None → at (l ++ m) p ≡ at m p
at_none l m p h = at_both l m p ∙ ap (λ o. first_of o (at m p)) h

pub below_both : (l m : List Entry) (p : List ℕ) → below (l ++ m) p ≡ (below l p || below m p)
below_both [] m p = refl
below_both (e ∷ l) m p = by_test (begins p e.path && not (same_list p e.path)) (below_both l m p)
  where
    by_test : (b : Bool) → below (l ++ m) p ≡ (below l p || below m p) → (b || below (l ++ m) p) ≡ ((b || below l p) || below m p)
    by_test true h = refl
    by_test false h = h

-- ---- what an answer of `known` shows

pub here_is : (es : List Entry) (p : List ℕ) → Here ≡ known_at es p → (r : Record) × (at es p ≡ Some r)
here_is es p h = by_cases (at es p) (below es p) h refl
  where
    by_cases : (o : Option Record) (b : Bool) → Here ≡ known_by o b → at es p ≡ o → (r : Record) × (at es p ≡ Some r)
    by_cases (Some r) b h is = (r, is)
    by_cases None true h is = absurd (cc)
    by_cases None false h is = absurd (cc)

pub below_is : (es : List Entry) (p : List ℕ) → Below ≡ known_at es p → (at es p ≡ None) × (below es p ≡ true)
below_is es p h = by_cases (at es p) (below es p) h refl refl
  where
    by_cases : (o : Option Record) (b : Bool) → Below ≡ known_by o b → at es p ≡ o → below es p ≡ b → (at es p ≡ None) × (below es p ≡ true)
    by_cases (Some r) b h is low = absurd (cc)
    by_cases None true h is low = (is, low)
    by_cases None false h is low = absurd (cc)

pub nothing_is : (es : List Entry) (p : List ℕ) → Nothing ≡ known_at es p → (at es p ≡ None) × (below es p ≡ false)
nothing_is es p h = by_cases (at es p) (below es p) h refl refl
  where
    by_cases : (o : Option Record) (b : Bool) → Nothing ≡ known_by o b → at es p ≡ o → below es p ≡ b → (at es p ≡ None) × (below es p ≡ false)
    by_cases (Some r) b h is low = absurd (cc)
    by_cases None true h is low = absurd (cc)
    by_cases None false h is low = (is, low)

-- ---- a second list in which the same stands at a path, and below it

pub at_same : (l m n : List Entry) (p : List ℕ) → at m p ≡ at n p → at (l ++ m) p ≡ at (l ++ n) p
at_same l m n p is = at_both l m p ∙ ap (λ o. first_of (at l p) o) is ∙ sym (at_both l n p)

pub known_same : (l m n : List Entry) (p : List ℕ) → at m p ≡ at n p → below m p ≡ below n p → known_at (l ++ m) p ≡ known_at (l ++ n) p
known_same l m n p is low =
    let lower : below (l ++ m) p ≡ below (l ++ n) p = below_both l m p ∙ ap (λ b. below l p || b) low ∙ sym (below_both l n p) in
    ap (λ o. known_by o (below (l ++ m) p)) (at_same l m n p is) ∙ ap (λ b. known_by (at (l ++ n) p) b) lower
