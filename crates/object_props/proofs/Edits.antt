-- What `indexmap`'s words come to where the key is missing.
use Rattle.std.proofs.Common.{◌<◌, subst, take, drop, drop-cons, take-append-drop, slice_get, ◌≡◌, ℕ, suc, ◌+◌, ◌≤◌, Bool, true, false, cond, List, [], ◌∷◌, ◌++◌, length, Some, None, is_some, refl, sym, ap, ◌∙◌, true≢false, insert, arith, not}
use Rattle.std.specs.Map.{keys_of, lookup, set_value}
use Rattle.std.specs.List.{position_or_len, IsDistinct}
use Rattle.std.specs.Cmp.{IsEquivalence}
use Rattle.std.proofs.lemmas.Option.{slice_get_within, get_or_from_slice_get}
use Rattle.indexmap.proofs.MapLemmas.{absent_before}
use Rattle.indexmap.specs.IndexMap.{insert_entry, move_index}
use Rattle.indexmap.proofs.MoveLemmas.{push_moved}

module _ {K V : Type 0} where
  -- setting a key that is missing changes nothing
  pub set_value-absent : (test : K → Bool) (es : List (K × V)) (w : V) → lookup test es ≡ None → set_value test es w ≡ es
  set_value-absent test [] w h = refl
  set_value-absent test (e ∷ es) w h = by (test e.0) (set_value-absent test es w) h
    where
      by : (b : Bool) → (lookup test es ≡ None → set_value test es w ≡ es) → cond b (Some e.1) (lookup test es) ≡ None → cond b ((e.0, w) ∷ es) (e ∷ set_value test es w) ≡ e ∷ es
      by true rest q = absurd (true≢false (ap is_some q))
      by false rest q = ap (λ l. e ∷ l) (rest q)

  -- the place of a key that is missing is the length
  pub position-absent : (test : K → Bool) (es : List (K × V)) → lookup test es ≡ None → position_or_len test (keys_of es) ≡ length es
  position-absent test [] h = refl
  position-absent test (e ∷ es) h = by (test e.0) (position-absent test es) h
    where
      by : (b : Bool) → (lookup test es ≡ None → position_or_len test (keys_of es) ≡ length es) → cond b (Some e.1) (lookup test es) ≡ None → cond (not b) (1 + position_or_len test (keys_of es)) 0 ≡ length (e ∷ es)
      by true rest q = absurd (true≢false (ap is_some q))
      by false rest q = ap (λ n. 1 + n) (rest q) ∙ omega arith

  -- a key that is missing is added last
  pub insert_entry-last : (eq : K → K → Bool) (es : List (K × V)) (k : K) (v : V) → lookup (eq k) es ≡ None → insert_entry eq es k v ≡ es ++ (k, v) ∷ []
  insert_entry-last eq [] k v h = refl
  insert_entry-last eq (e ∷ es) k v h = by (eq k e.0) (insert_entry-last eq es k v) h
    where
      by : (b : Bool) → (lookup (eq k) es ≡ None → insert_entry eq es k v ≡ es ++ (k, v) ∷ []) → cond b (Some e.1) (lookup (eq k) es) ≡ None → cond b ((e.0, v) ∷ es) (e ∷ insert_entry eq es k v) ≡ e ∷ (es ++ (k, v) ∷ [])
      by true rest q = absurd (true≢false (ap is_some q))
      by false rest q = ap (λ l. e ∷ l) (rest q)

  -- what `shift_insert` leaves at a key that is missing
  pub inserted : (eq : K → K → Bool) (es : List (K × V)) (place : ℕ) (k : K) (v : V) → lookup (eq k) es ≡ None → place ≤ length es
      → move_index (insert_entry eq es k v) (position_or_len (eq k) (keys_of es)) place ≡ insert es place (k, v)
  inserted eq es place k v h w =
      (λ i. move_index (insert_entry-last eq es k v h i) (position-absent (eq k) es h i) place) ∙ push_moved es (k, v) place w

-- the key at a place is not among those before it
pub absent_before_place : {K V : Type 0} (eq : K → K → Bool) → IsEquivalence eq → (es : List (K × V)) (i : ℕ) (e : K × V) → IsDistinct eq (keys_of es) → slice_get es i ≡ Some e → lookup (eq e.0) (take i es) ≡ None
absent_before_place eq laws es i e distinct at =
    let here : i < length es = slice_get_within es i e at in
    let split : es ≡ take i es ++ e ∷ drop (suc i) es = sym (take-append-drop i es) ∙ ap (λ l. take i es ++ l) (drop-cons es i e here ∙ ap (λ x. x ∷ drop (suc i) es) (get_or_from_slice_get es i e e at)) in
    absent_before laws (take i es) (drop (suc i) es) e (subst (λ l. IsDistinct eq (keys_of l)) split distinct)
