-- The two laws of edits: what is not written stays, and where what is touched is the same on two sides the answers are the
-- same, and each part that is written or was the same is the same afterwards.
use Rattle.std.specs.Prelude.{List, Bool, true, false, Option, Some, None, ℕ, pos}
use Rattle.std.proofs.Common.{◌≡◌, refl, ap, ◌⊎◌, inl, inr, suc, [], ◌∷◌, ◌++◌, sym, ◌∙◌, subst, true≢false}
use Rattle.turk_base.specs.Cells.{Props, found, keys_of, set_key, drop_key, drop_all, length_key, doomed, Edit, look, put, remove, list, trim, grow, says, grows_at, grown, new_props, looked, set_at, deleted, deleted_all, grown_at, touches, unset, writes, Seen, value, keys, seen, created, edit_cost}
use Rattle.turk_base.specs.Names.{Units, In, first, later, Part, shape, at, units_eq}
use Rattle.turk_base.specs.Values.{Val, Number}
use Rattle.run_laws.proofs.Props.{none_some, found_set, found_set_other, keys_set_there, keys_set_new, same_keys, none_keys, keys_none, keys_drop_same, found_drop, found_drop_other, drop_none, keys_drop_all, found_all_out, found_all_in, doomed_in, in_doomed, deleted_in, units_in}

as_value : Seen → Option Val
as_value (value o) = o
as_value (keys l) = None

as_keys : Seen → List Units
as_keys (value o) = []
as_keys (keys l) = l

key_of : Part → Units
key_of shape = []
key_of (at k) = k

pub value_is : {o o' : Option Val} → value o ≡ value o' → o ≡ o'
unfolding as_value
value_is e = ap as_value e

pub keys_is : {l l' : List Units} → keys l ≡ keys l' → l ≡ l'
unfolding as_keys
keys_is e = ap as_keys e

at_is : {k j : Units} → at k ≡ at j → k ≡ j
unfolding key_of
at_is e = ap key_of e

no_at : {k : Units} → shape ≡ at k → ⊥
no_at e = cc

in_one_at : {j k : Units} → In Part (at j) (at k ∷ []) → j ≡ k
in_one_at first = refl
in_one_at (later h) = elim h [ ]

shape_one : {k : Units} → In Part shape (at k ∷ []) → ⊥
shape_one (later h) = elim h [ ]

in_two_at : {j k : Units} → In Part (at j) (at k ∷ shape ∷ []) → j ≡ k
in_two_at first = refl
in_two_at (later (later h)) = elim h [ ]

grows_some : (i : ℕ) (o : Option Val) → grows_at i o ≡ true → (v : Val) × (o ≡ Some v)
grows_some i (Some v) e = (v, refl)
grows_some i None e = absurd (true≢false (sym e))

-- ---- what is not written stays

pub edit_frame : (e : Edit) (p : Props) (y : Part) → ¬ (In Part y (writes e p)) → seen y (new_props e p) ≡ seen y p
edit_frame (look k) p y n = refl
edit_frame (put k v) p shape n = inner (found k p) refl n
  where
    inner : (o : Option Val) → found k p ≡ o → ¬ (In Part shape (set_at k o)) → keys (keys_of (set_key k v p)) ≡ keys (keys_of p)
    inner (Some w) e n = ap keys (keys_set_there k v p e)
    inner None e n = absurd (n (later first))
edit_frame (put k v) p (at j) n = ap value (found_set_other k v p (λ e. inner (found k p) e n))
  where
    inner : (o : Option Val) → j ≡ k → ¬ (In Part (at j) (set_at k o)) → ⊥
    inner (Some w) e n = n (rw e first)
    inner None e n = n (rw e first)
edit_frame (remove k) p shape n = inner (found k p) refl n
  where
    inner : (o : Option Val) → found k p ≡ o → ¬ (In Part shape (unset k o)) → keys (keys_of (drop_key k p)) ≡ keys (keys_of p)
    inner (Some w) e n = absurd (n (later first))
    inner None e n = ap (λ z. keys (keys_of z)) (drop_none k p e)
edit_frame (remove k) p (at j) n = inner (found k p) refl n
  where
    inner : (o : Option Val) → found k p ≡ o → ¬ (In Part (at j) (unset k o)) → value (found j (drop_key k p)) ≡ value (found j p)
    inner (Some w) e n = ap value (found_drop_other k p (λ z. n (rw z first)))
    inner None e n = ap (λ z. value (found j z)) (drop_none k p e)
edit_frame list p y n = refl
edit_frame (trim z) p shape n = inner (doomed z (keys_of p)) n
  where
    inner : (d : List Units) → ¬ (In Part shape (deleted_all d)) → keys (keys_of (drop_all d p)) ≡ keys (keys_of p)
    inner [] n = refl
    inner (k ∷ ks) n = absurd (n (later first))
edit_frame (trim z) p (at j) n = ap value (found_all_out (doomed z (keys_of p)) p (λ m. n (in_deleted (doomed z (keys_of p)) m)))
  where
    in_deleted : (ks : List Units) {k : Units} → In Units k ks → In Part (at k) (deleted_all ks)
    in_deleted [] h = elim h [ ]
    in_deleted (x ∷ ks) first = first
    in_deleted (x ∷ ks) (later h) = later (later (in_deleted ks h))
edit_frame (grow i) p shape n = inner (grows_at i (found length_key p)) refl
  where
    inner : (t : Bool) → grows_at i (found length_key p) ≡ t → keys (keys_of (grown t i p)) ≡ keys (keys_of p)
    inner true e = ap keys (keys_set_there length_key (Number (pos (suc i))) p (grows_some i (found length_key p) e).1)
    inner false e = refl
edit_frame (grow i) p (at j) n = inner (grows_at i (found length_key p)) n
  where
    inner : (t : Bool) → ¬ (In Part (at j) (grown_at t)) → value (found j (grown t i p)) ≡ value (found j p)
    inner true n = ap value (found_set_other length_key (Number (pos (suc i))) p (λ z. n (rw z first)))
    inner false n = refl

-- ---- two sides

abbrev pub Settled : Edit → Props → Props → Type 0
Settled e p q = (y : Part) → In Part y (touches e q) → seen y p ≡ seen y q

pub says_same : (e : Edit) (p q : Props) → Settled e p q → says e p ≡ says e q
says_same (look k) p q h = inner (found k q) refl h
  where
    inner : (o : Option Val) → found k q ≡ o → ((y : Part) → In Part y (looked k o) → seen y p ≡ seen y q) → found k p ≡ found k q
    inner (Some v) e h = value_is (h (at k) first)
    inner None e h = same_keys k p q (keys_is (h shape first)) e ∙ sym e
says_same (put k v) p q h = refl
says_same (remove k) p q h = refl
says_same list p q h = keys_is (h shape first)
says_same (trim z) p q h = refl
says_same (grow i) p q h = refl

abbrev pub Alike : Edit → Part → Props → Props → Type 0
Alike e y p q = In Part y (writes e q) ⊎ (seen y p ≡ seen y q)

put_same : (k : Units) (v : Val) (p q : Props) → Settled (put k v) p q → (y : Part) → Alike (put k v) y p q → seen y (set_key k v p) ≡ seen y (set_key k v q)
put_same k v p q h shape a = inner (found k q) refl h a
  where
    inner : (o : Option Val) → found k q ≡ o → ((y : Part) → In Part y (set_at k o) → seen y p ≡ seen y q) → In Part shape (set_at k o) ⊎ (keys (keys_of p) ≡ keys (keys_of q)) → keys (keys_of (set_key k v p)) ≡ keys (keys_of (set_key k v q))
    inner (Some w) e h (inl m) = absurd (shape_one m)
    inner (Some w) e h (inr d) = ap keys (keys_set_there k v p (value_is (h (at k) first) ∙ e) ∙ keys_is d ∙ sym (keys_set_there k v q e))
    inner None e h a = ap keys (keys_set_new k v p (value_is (h (at k) first) ∙ e) ∙ ap (λ z. z ++ (k ∷ [])) (keys_is (h shape (later first))) ∙ sym (keys_set_new k v q e))
put_same k v p q h (at j) a = inner (units_eq j k) a
  where
    written : (o : Option Val) → In Part (at j) (set_at k o) → j ≡ k
    written (Some w) m = in_one_at m
    written None m = in_two_at m

    inner : Dec (j ≡ k) → In Part (at j) (set_at k (found k q)) ⊎ (value (found j p) ≡ value (found j q)) → value (found j (set_key k v p)) ≡ value (found j (set_key k v q))
    inner (yes e) a = rw e (ap value (found_set k v p ∙ sym (found_set k v q)))
    inner (no n) (inl m) = absurd (n (written (found k q) m))
    inner (no n) (inr d) = ap value (found_set_other k v p n ∙ value_is d ∙ sym (found_set_other k v q n))

remove_same : (k : Units) (p q : Props) → Settled (remove k) p q → (y : Part) → Alike (remove k) y p q → seen y (drop_key k p) ≡ seen y (drop_key k q)
remove_same k p q h y a = inner (found k q) refl h y a
  where
    inner : (o : Option Val) → found k q ≡ o → ((y : Part) → In Part y (deleted k o) → seen y p ≡ seen y q) → (y : Part) → In Part y (unset k o) ⊎ (seen y p ≡ seen y q) → seen y (drop_key k p) ≡ seen y (drop_key k q)
    inner (Some w) e h shape a = ap keys (keys_drop_same k p q (keys_is (h shape (later first))))
    inner (Some w) e h (at j) a = choose (units_eq j k) a
      where
        choose : Dec (j ≡ k) → In Part (at j) (at k ∷ shape ∷ []) ⊎ (value (found j p) ≡ value (found j q)) → value (found j (drop_key k p)) ≡ value (found j (drop_key k q))
        choose (yes d) a = rw d (ap value (found_drop k p ∙ sym (found_drop k q)))
        choose (no n) (inl m) = absurd (n (in_two_at m))
        choose (no n) (inr d) = ap value (found_drop_other k p n ∙ value_is d ∙ sym (found_drop_other k q n))
    inner None e h y (inl m) = elim m [ ]
    inner None e h y (inr d) = rw (drop_none k p (same_keys k p q (keys_is (h shape first)) e), drop_none k q e) d

trim_same : (z : ℕ) (p q : Props) → Settled (trim z) p q → (y : Part) → Alike (trim z) y p q → seen y (new_props (trim z) p) ≡ seen y (new_props (trim z) q)
trim_same z p q h y a = inner (doomed z (keys_of q)) refl h y a
  where
    -- nothing is deleted on the right
    kept_at : doomed z (keys_of q) ≡ [] → (j : Units) → found j p ≡ found j q → Dec (In Units j (doomed z (keys_of p))) → found j (drop_all (doomed z (keys_of p)) p) ≡ found j q
    kept_at e j d (no n) = found_all_out (doomed z (keys_of p)) p n ∙ d
    kept_at e j d (yes m) = absurd (gone (found j q) refl)
      where
        gone : (o : Option Val) → found j q ≡ o → ⊥
        gone None x = none_keys j p (d ∙ x) (doomed_in z (keys_of p) m).0
        gone (Some v) x = choose (units_in j (keys_of q))
          where
            empty : In Units j (doomed z (keys_of q)) → doomed z (keys_of q) ≡ [] → ⊥
            empty i y = elim (subst (λ l. In Units j l) y i) [ ]

            choose : Dec (In Units j (keys_of q)) → ⊥
            choose (yes i) = empty (in_doomed z (keys_of q) i (doomed_in z (keys_of p) m).1) e
            choose (no n) = none_some (sym (keys_none j q n) ∙ x)

    inner : (d : List Units) → doomed z (keys_of q) ≡ d → ((y : Part) → In Part y (deleted_all d) → seen y p ≡ seen y q) → (y : Part) → In Part y (deleted_all d) ⊎ (seen y p ≡ seen y q) → seen y (drop_all (doomed z (keys_of p)) p) ≡ seen y (drop_all d q)
    inner [] e h y (inl m) = elim m [ ]
    inner [] e h shape (inr d) = ap keys (rw (ap (doomed z) (keys_is d) ∙ e) (keys_is d))
    inner [] e h (at j) (inr d) = ap value (kept_at e j (value_is d) (units_in j (doomed z (keys_of p))))
    inner (k ∷ ks) e h shape a = ap keys (rw (ap (doomed z) (keys_is (h shape (later first))) ∙ e) (keys_drop_all (k ∷ ks) p q (keys_is (h shape (later first)))))
    inner (k ∷ ks) e h (at j) a = rw (ap (doomed z) (keys_is (h shape (later first))) ∙ e) (choose (units_in j (k ∷ ks)) a)
      where
        choose : Dec (In Units j (k ∷ ks)) → In Part (at j) (deleted_all (k ∷ ks)) ⊎ (value (found j p) ≡ value (found j q)) → value (found j (drop_all (k ∷ ks) p)) ≡ value (found j (drop_all (k ∷ ks) q))
        choose (yes m) a = ap value (found_all_in (k ∷ ks) p m ∙ sym (found_all_in (k ∷ ks) q m))
        choose (no n) (inl m) = absurd (n (deleted_in (k ∷ ks) m))
        choose (no n) (inr d) = ap value (found_all_out (k ∷ ks) p n ∙ value_is d ∙ sym (found_all_out (k ∷ ks) q n))

grow_same : (i : ℕ) (p q : Props) → Settled (grow i) p q → (y : Part) → Alike (grow i) y p q → seen y (new_props (grow i) p) ≡ seen y (new_props (grow i) q)
grow_same i p q h y a = inner (grows_at i (found length_key q)) refl h y a
  where
    stays : (t : Bool) → grows_at i (found length_key p) ≡ t → keys_of (grown t i p) ≡ keys_of p
    stays true e = keys_set_there length_key (Number (pos (suc i))) p (grows_some i (found length_key p) e).1
    stays false e = refl

    other : (t : Bool) (j : Units) → ¬ (j ≡ length_key) → found j (grown t i p) ≡ found j p
    other true j n = found_set_other length_key (Number (pos (suc i))) p n
    other false j n = refl

    inner : (t : Bool) → grows_at i (found length_key q) ≡ t → ((y : Part) → In Part y (grown_at t) → seen y p ≡ seen y q) → (y : Part) → In Part y (grown_at t) ⊎ (seen y p ≡ seen y q) → seen y (grown (grows_at i (found length_key p)) i p) ≡ seen y (grown t i q)
    inner true e h shape (inl m) = absurd (shape_one m)
    inner true e h shape (inr d) = ap keys (stays (grows_at i (found length_key p)) refl ∙ keys_is d ∙ sym (keys_set_there length_key (Number (pos (suc i))) q (grows_some i (found length_key q) e).1))
    inner true e h (at j) a = rw (ap (grows_at i) (value_is (h (at length_key) first)) ∙ e) (choose (units_eq j length_key) a)
      where
        choose : Dec (j ≡ length_key) → In Part (at j) (at length_key ∷ []) ⊎ (value (found j p) ≡ value (found j q)) → value (found j (grown true i p)) ≡ value (found j (grown true i q))
        choose (yes d) a = rw d (ap value (found_set length_key (Number (pos (suc i))) p ∙ sym (found_set length_key (Number (pos (suc i))) q)))
        choose (no n) (inl m) = absurd (n (in_one_at m))
        choose (no n) (inr d) = ap value (found_set_other length_key (Number (pos (suc i))) p n ∙ value_is d ∙ sym (found_set_other length_key (Number (pos (suc i))) q n))
    inner false e h y (inl m) = elim m [ ]
    inner false e h shape (inr d) = ap keys (stays (grows_at i (found length_key p)) refl ∙ keys_is d)
    inner false e h (at j) (inr d) = choose (units_eq j length_key)
      where
        choose : Dec (j ≡ length_key) → value (found j (grown (grows_at i (found length_key p)) i p)) ≡ value (found j q)
        choose (yes x) = rw (ap (grows_at i) (subst (λ z. found z p ≡ found z q) x (value_is d)) ∙ e) d
        choose (no n) = ap value (other (grows_at i (found length_key p)) j n ∙ value_is d)

pub edit_same : (e : Edit) (p q : Props) → Settled e p q → (y : Part) → Alike e y p q → seen y (new_props e p) ≡ seen y (new_props e q)
edit_same (look k) p q h y (inl m) = elim m [ ]
edit_same (look k) p q h y (inr d) = d
edit_same (put k v) p q h y a = put_same k v p q h y a
edit_same (remove k) p q h y a = remove_same k p q h y a
edit_same list p q h y (inl m) = elim m [ ]
edit_same list p q h y (inr d) = d
edit_same (trim z) p q h y a = trim_same z p q h y a
edit_same (grow i) p q h y a = grow_same i p q h y a

pub cost_same : (e : Edit) (p q : Props) → Settled e p q → edit_cost e p ≡ edit_cost e q
cost_same (look k) p q h = refl
cost_same (put k v) p q h = inner (found k q) refl h
  where
    inner : (o : Option Val) → found k q ≡ o → ((y : Part) → In Part y (set_at k o) → seen y p ≡ seen y q) → created (found k p) ≡ created (found k q)
    inner (Some w) e h = ap created (value_is (h (at k) first))
    inner None e h = ap created (value_is (h (at k) first))
cost_same (remove k) p q h = refl
cost_same list p q h = refl
cost_same (trim z) p q h = refl
cost_same (grow i) p q h = refl
