-- What a list of pairs has at the place of a key, and what keeps its keys distinct.
use Rattle.std.proofs.Common.{◌≡◌, ℕ, zero, suc, ◌+◌, ◌<◌, Bool, true, false, cond, not, nat_lt, List, [], ◌∷◌, ◌++◌, length, insert, remove, slice_set, get_or, position, Option, Some, None, Result, Ok, Err, OnOk, OnErr, refl, sym, ap, ◌∙◌, subst, arith, append_assoc}
use Rattle.std.specs.Cmp.{IsEquivalence}
use Rattle.std.specs.List.{IsDistinct, AllByRecursion, position_or_len}
use Rattle.std.specs.Map.{keys_of, lookup, lookup_key, remove_entry, set_value}
use Rattle.std.specs.Option.{option_map}
use Rattle.std.proofs.lemmas.Option.{slice_get-map, slice_get-get_or}
use Rattle.std.proofs.lemmas.Map.{none_passes_from_lookup, keys-set_value}
use Rattle.std.proofs.lemmas.Map.Entries.{length-keys_of}
use Rattle.indexmap.specs.IndexMap.{insert_entry}
use Rattle.indexmap.proofs.MapLemmas.{Found, Found-position, Missing, Missing-position, remove_entry-first, absent_before}
use Rattle.object_props.proofs.Edits.{insert_entry-last}

module _ {K V : Type 0} (t : K → Bool) where
  or_len-keys : (es : List (K × V)) → position_or_len (λ e. t e.0) es ≡ position_or_len t (keys_of es)
  or_len-keys [] = refl
  or_len-keys (e ∷ es) = ap (λ n. cond (not (t e.0)) (1 + n) 0) (or_len-keys es)

  -- a key is at the place of its pair
  pub position-keys : (es : List (K × V)) → position (λ e. t e.0) es ≡ position t (keys_of es)
  position-keys es = λ j. cond (nat_lt (or_len-keys es j) (sym (length-keys_of es) j)) (Some (or_len-keys es j)) None

  -- what a search of a list answers is what one of an equal list does
  pub same_search : (o : Option ℕ) (xs es : List (K × V)) → xs ≡ es → o ≡ position (λ e. t e.0) xs → position (λ e. t e.0) es ≡ o
  same_search o xs es same h = ap (position (λ e. t e.0)) (sym same) ∙ sym h

  pub found_at : (es : List (K × V)) (i : ℕ) → position (λ e. t e.0) es ≡ Some i → Found t es i
  found_at es i p = Found-position t es i (sym (position-keys es) ∙ p)

  pub missing_from : (es : List (K × V)) → position (λ e. t e.0) es ≡ None → Missing t es
  missing_from es p = Missing-position t es (sym (position-keys es) ∙ p)

  -- what a search finds is what stands there, whatever is read past the end
  pub value_at : (es : List (K × V)) (i : ℕ) (d : K × V) → position (λ e. t e.0) es ≡ Some i → Some (get_or es i d).1 ≡ lookup t es
  value_at es i d p =
      let f = found_at es i p in
      sym (f.value ∙ slice_get-map (λ e. e.1) es i ∙ ap (option_map (λ e. e.1)) (slice_get-get_or es i d f.within))

  pub key_at : (es : List (K × V)) (i : ℕ) (d : K × V) → position (λ e. t e.0) es ≡ Some i → Some (get_or es i d).0 ≡ lookup_key t es
  key_at es i d p =
      let f = found_at es i p in
      sym (f.key ∙ slice_get-map (λ e. e.0) es i ∙ ap (option_map (λ e. e.0)) (slice_get-get_or es i d f.within))

  set_first : (es : List (K × V)) (d : K × V) (w : V) → position_or_len t (keys_of es) < length es
      → slice_set es (position_or_len t (keys_of es)) ((get_or es (position_or_len t (keys_of es)) d).0, w) ≡ set_value t es w
  set_first [] d w h = absurd (omega arith)
  set_first (e ∷ es) d w h = by (t e.0) h (set_first es d w)
    where
      by : (b : Bool) → cond (not b) (1 + position_or_len t (keys_of es)) 0 < length (e ∷ es)
          → (position_or_len t (keys_of es) < length es → slice_set es (position_or_len t (keys_of es)) ((get_or es (position_or_len t (keys_of es)) d).0, w) ≡ set_value t es w)
          → slice_set (e ∷ es) (cond (not b) (1 + position_or_len t (keys_of es)) 0) ((get_or (e ∷ es) (cond (not b) (1 + position_or_len t (keys_of es)) 0) d).0, w) ≡ cond b ((e.0, w) ∷ es) (e ∷ set_value t es w)
      by true here rest = refl
      by false here rest =
          let next : suc (position_or_len t (keys_of es)) ≡ 1 + position_or_len t (keys_of es) = omega arith in
          subst (λ n. slice_set (e ∷ es) n ((get_or (e ∷ es) n d).0, w) ≡ e ∷ set_value t es w) next (ap (λ l. e ∷ l) (rest (omega arith)))

  -- the value written where the key stands
  pub set_value-at : (es : List (K × V)) (i : ℕ) (d : K × V) (w : V) → position (λ e. t e.0) es ≡ Some i → slice_set es i ((get_or es i d).0, w) ≡ set_value t es w
  set_value-at es i d w p =
      let f = found_at es i p in
      subst (λ n. slice_set es n ((get_or es n d).0, w) ≡ set_value t es w) f.or_len (set_first es d w (let within : i < length es = f.within in let at : position_or_len t (keys_of es) ≡ i = f.or_len in omega arith))

  pub remove_entry-at : (es : List (K × V)) (i : ℕ) → position (λ e. t e.0) es ≡ Some i → remove_entry t es ≡ remove es i
  remove_entry-at es i p = remove_entry-first t es i (found_at es i p).first

  pub remove_entry-absent : (es : List (K × V)) → lookup t es ≡ None → remove_entry t es ≡ es
  remove_entry-absent [] h = refl
  remove_entry-absent (e ∷ es) h =
      let none = none_passes_from_lookup t (e ∷ es) h in
      ap (λ b. cond b es (e ∷ remove_entry t es)) none.0 ∙ ap (λ l. e ∷ l) (remove_entry-absent es (sym (ap (λ b. cond b (Some e.1) (lookup t es)) none.0) ∙ h))

module _ {K : Type 0} (eq : K → K → Bool) where
  pub IsDistinct-nil : IsDistinct eq []
  unfolding IsDistinct
  IsDistinct-nil = tt

  module _ {V : Type 0} where
    apart-remove_entry : (t : K → Bool) (k : K) (es : List (K × V)) → AllByRecursion (λ y. eq k y ≡ false) (keys_of es) → AllByRecursion (λ y. eq k y ≡ false) (keys_of (remove_entry t es))
    apart-remove_entry t k [] h = tt
    apart-remove_entry t k (e ∷ es) h = by (t e.0) (apart-remove_entry t k es h.1)
      where
        by : (b : Bool) → AllByRecursion (λ y. eq k y ≡ false) (keys_of (remove_entry t es)) → AllByRecursion (λ y. eq k y ≡ false) (keys_of (cond b es (e ∷ remove_entry t es)))
        by true rest = h.1
        by false rest = (h.0, rest)

    -- keys stay distinct where one goes
    pub IsDistinct-remove_entry : (t : K → Bool) (es : List (K × V)) → IsDistinct eq (keys_of es) → IsDistinct eq (keys_of (remove_entry t es))
    unfolding IsDistinct
    IsDistinct-remove_entry t [] h = tt
    IsDistinct-remove_entry t (e ∷ es) h = by (t e.0) (IsDistinct-remove_entry t es h.1)
      where
        by : (b : Bool) → IsDistinct eq (keys_of (remove_entry t es)) → IsDistinct eq (keys_of (cond b es (e ∷ remove_entry t es)))
        by true rest = h.1
        by false rest = (apart-remove_entry t e.0 es h.0, rest)

    -- and where a value changes
    pub IsDistinct-set_value : (t : K → Bool) (es : List (K × V)) (w : V) → IsDistinct eq (keys_of es) → IsDistinct eq (keys_of (set_value t es w))
    IsDistinct-set_value t es w h = subst (IsDistinct eq) (sym (keys-set_value t es w)) h

    module _ (laws : IsEquivalence eq) (e : K × V) where
      apart-insert : (k : K) (es : List (K × V)) (place : ℕ) → eq k e.0 ≡ false → AllByRecursion (λ y. eq k y ≡ false) (keys_of es) → AllByRecursion (λ y. eq k y ≡ false) (keys_of (insert es place e))
      apart-insert k [] zero new h = (new, tt)
      apart-insert k [] (suc n) new h = (new, tt)
      apart-insert k (x ∷ xs) zero new h = (new, h)
      apart-insert k (x ∷ xs) (suc n) new h = (h.0, apart-insert k xs n new h.1)

      apart_from_missing : (es : List (K × V)) → lookup (eq e.0) es ≡ None → AllByRecursion (λ y. eq e.0 y ≡ false) (keys_of es)
      apart_from_missing [] h = tt
      apart_from_missing (x ∷ xs) h =
          let none = none_passes_from_lookup (eq e.0) (x ∷ xs) h in
          (none.0, apart_from_missing xs (sym (ap (λ b. cond b (Some x.1) (lookup (eq e.0) xs)) none.0) ∙ h))

      -- and where a missing one is put in
      pub IsDistinct-insert : (es : List (K × V)) (place : ℕ) → lookup (eq e.0) es ≡ None → IsDistinct eq (keys_of es) → IsDistinct eq (keys_of (insert es place e))
      unfolding IsDistinct
      IsDistinct-insert [] zero new h = (tt, tt)
      IsDistinct-insert [] (suc n) new h = (tt, tt)
      IsDistinct-insert (x ∷ xs) zero new h = (apart_from_missing (x ∷ xs) new, h)
      IsDistinct-insert (x ∷ xs) (suc n) new h =
          let none = none_passes_from_lookup (eq e.0) (x ∷ xs) new in
          let later : lookup (eq e.0) xs ≡ None = sym (ap (λ b. cond b (Some x.1) (lookup (eq e.0) xs)) none.0) ∙ new in
          (apart-insert x.0 xs n (laws.symm x.0 e.0 ∙ none.0) h.0, IsDistinct-insert xs n later h.1)

      -- and where it was to be put in, whether or not there was the memory for it
      pub IsDistinct-after_insert : {U E : Type 0} (r : Result U E) (place : ℕ) (now es fs : List (K × V)) → es ≡ now → OnOk r (fs ≡ insert es place e) → OnErr r (fs ≡ es) → lookup (eq e.0) now ≡ None → IsDistinct eq (keys_of now) → IsDistinct eq (keys_of fs)
      IsDistinct-after_insert (Ok u) place now es fs same ok err new h =
          subst (λ l. IsDistinct eq (keys_of l)) (sym (ok ∙ ap (λ l. insert l place e) same)) (IsDistinct-insert now place new h)
      IsDistinct-after_insert (Err f) place now es fs same ok err new h = subst (λ l. IsDistinct eq (keys_of l)) (sym (err ∙ same)) h

    -- what a map has and what is yet to come stays the same list where the next pair goes in
    pub next_moved : IsEquivalence eq → (es before rest all : List (K × V)) (e : K × V) → before ≡ e ∷ rest → es ++ before ≡ all → IsDistinct eq (keys_of all) → insert_entry eq es e.0 e.1 ++ rest ≡ all
    next_moved laws es before rest all e split whole distinct =
        let parts : es ++ e ∷ rest ≡ all = ap (λ l. es ++ l) (sym split) ∙ whole in
        let none : lookup (eq e.0) es ≡ None = absent_before laws es rest e (subst (λ l. IsDistinct eq (keys_of l)) (sym parts) distinct) in
        ap (λ l. l ++ rest) (insert_entry-last eq es e.0 e.1 none) ∙ append_assoc es (e ∷ []) rest ∙ parts
