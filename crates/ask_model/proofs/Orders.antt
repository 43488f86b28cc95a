-- Paths in the order of lists, and what stands where a path comes after all.
use Rattle.std.proofs.Common.{◌≡◌, ℕ, Bool, true, false, cond, ◌||◌, List, [], ◌∷◌, ◌++◌, length, Option, Some, None, refl, sym, ap, ◌∙◌, subst, zero, suc}
use Rattle.std.specs.Prelude.{◌&&◌, ◌==◌, not}
use Rattle.std.specs.List.{AllByRecursion, slice_get}
use Rattle.std.specs.declared.cmp.Ordering.{Ordering}
use Rattle.std.specs.declared.cmp.Ordering.TheVariants.{Less, Equal, Greater}
use Rattle.std.specs.Ordering.{nat_cmp, is_eq, is_gt, ordering_then, ordering_reverse}
use Rattle.std.specs.Cmp.{unsigned_ties}
use Rattle.std.specs.Cmp.Lexicographic.{slice_cmp, texts_ties}
use Rattle.std.proofs.lemmas.Cmp.{nat_list_cmp_total, upto}
use Rattle.turk_base.specs.declared.Entry.{Entry}
use Rattle.turk_base.specs.Trace.{at, below, begins, same_list}
use Rattle.ask_model.specs.Made.{comes_after, comes_after_entry, IsGreatest}

-- ---- the order

before : (p q : List ℕ) → comes_after p q ≡ true → slice_cmp nat_cmp q p ≡ Less
before p q h = nat_list_cmp_total.antisymm q p ∙ turned (slice_cmp nat_cmp p q) h
  where
    turned : (o : Ordering) → is_gt o ≡ true → ordering_reverse o ≡ Less
    turned Less h = absurd (cc)
    turned Equal h = absurd (cc)
    turned Greater h = refl

after_trans : (p q r : List ℕ) → comes_after p q ≡ true → comes_after q r ≡ true → comes_after p r ≡ true
after_trans p q r h g = ap is_gt (nat_list_cmp_total.antisymm p r ∙ ap ordering_reverse (nat_list_cmp_total.trans r q p (before q r g) (before p q h)))

-- after what isn't less
after_upto : (p q r : List ℕ) → comes_after q r ≡ false → comes_after p r ≡ true → comes_after p q ≡ true
after_upto p q r h g = by_test (comes_after p q) refl
  where
    by_test : (b : Bool) → comes_after p q ≡ b → comes_after p q ≡ true
    by_test true is = is
    by_test false is =
        let not_after : comes_after p r ≡ false = upto nat_list_cmp_total p q r is h in
        absurd (cc)

-- a path that comes after another isn't it, nor a front of it
other : (p q : List ℕ) → comes_after p q ≡ true → same_list q p ≡ false
other p q h = texts_ties q p ∙ ap is_eq (before p q h)

no_front : (p q : List ℕ) → comes_after p q ≡ true → begins p q ≡ false
no_front [] [] h = absurd (cc)
no_front [] (j ∷ q) h = absurd (cc)
no_front (i ∷ p) [] h = refl
no_front (i ∷ p) (j ∷ q) h = by_head (i == j) (nat_cmp i j) (unsigned_ties i j) h (no_front p q)
  where
    by_head : (b : Bool) (o : Ordering) → b ≡ is_eq o → is_gt (ordering_then o (slice_cmp nat_cmp p q)) ≡ true → (comes_after p q ≡ true → begins p q ≡ false) → (b && begins p q) ≡ false
    by_head false o is h go = refl
    by_head true Less is h go = absurd (cc)
    by_head true Equal is h go = go h
    by_head true Greater is h go = absurd (cc)

-- ---- what stands at a path that comes after all, and below it

abbrev AllBefore : List ℕ → List Entry → Type 0
AllBefore p es = AllByRecursion (λ f. comes_after p f.path ≡ true) es

nothing_at : (p : List ℕ) (es : List Entry) → AllBefore p es → at es p ≡ None
nothing_at p [] all = refl
nothing_at p (e ∷ es) all = ap (λ b. cond b (Some e.what) (at es p)) (other p e.path all.0) ∙ nothing_at p es all.1

nothing_below : (p : List ℕ) (es : List Entry) → AllBefore p es → below es p ≡ false
nothing_below p [] all = refl
nothing_below p (e ∷ es) all = ap (λ b. (b && not (same_list p e.path)) || below es p) (no_front p e.path all.0) ∙ nothing_below p es all.1

pub alone : (p : List ℕ) (e : Option Entry) (es : List Entry) → IsGreatest e es → comes_after_entry p e ≡ true → (at es p ≡ None) × (below es p ≡ false)
alone p e es greatest h = (nothing_at p es (greatest p h), nothing_below p es (greatest p h))

-- ---- one entry more

all_push : (p : List ℕ) (es : List Entry) (e : Entry) → AllBefore p es → comes_after p e.path ≡ true → AllBefore p (es ++ e ∷ [])
all_push p [] e all one = (one, tt)
all_push p (f ∷ es) e all one = (all.0, all_push p es e all.1 one)

all_after : (p q : List ℕ) (es : List Entry) → comes_after p q ≡ true → AllBefore q es → AllBefore p es
all_after p q [] h all = tt
all_after p q (f ∷ es) h all = (after_trans p q f.path h all.0, all_after p q es h all.1)

get_last : (es : List Entry) (e : Entry) → slice_get (es ++ e ∷ []) (length es) ≡ Some e
get_last [] e = refl
get_last (f ∷ es) e = get_last es e

get_before : (es : List Entry) (e f : Entry) (i : ℕ) → slice_get es i ≡ Some f → slice_get (es ++ e ∷ []) i ≡ Some f
get_before [] e f i is = absurd (cc)
get_before (g ∷ es) e f zero is = is
get_before (g ∷ es) e f (suc i) is = get_before es e f i is

-- The greatest once an entry is added, at its end where its path comes after that of the greatest.
pub greatest_push : (es : List Entry) (e : Entry) (i : ℕ) → IsGreatest (slice_get es i) es → IsGreatest (slice_get (es ++ e ∷ []) (cond (comes_after_entry e.path (slice_get es i)) (length es) i)) (es ++ e ∷ [])
greatest_push es e i greatest = by_test (slice_get es i) (comes_after_entry e.path (slice_get es i)) refl refl greatest
  where
    by_test : (o : Option Entry) (b : Bool) → slice_get es i ≡ o → comes_after_entry e.path o ≡ b → IsGreatest o es → IsGreatest (slice_get (es ++ e ∷ []) (cond b (length es) i)) (es ++ e ∷ [])
    by_test o true at_i later greatest = subst (λ (x : Option Entry). IsGreatest x (es ++ e ∷ [])) (sym (get_last es e))
        (λ p h. all_push p es e (all_after p e.path es h (greatest e.path later)) h)
    by_test None false at_i later greatest = absurd (cc)
    by_test (Some f) false at_i later greatest = subst (λ (x : Option Entry). IsGreatest x (es ++ e ∷ [])) (sym (get_before es e f i at_i))
        (λ p h. all_push p es e (greatest p h) (after_upto p e.path f.path later h))
