-- Keys that are listed: one after another, and cell after cell.
use Rattle.std.proofs.Common.{◌≡◌, refl, ap, sym, ◌∙◌, subst, ℕ, zero, suc, ◌+◌, ◌<◌, ◌≤◌, Bool, true, false, true≢false, List, [], ◌∷◌, ◌++◌, length, Some, slice_get, get_or, take, drop, map, cond, if◌then◌else◌, arith}
use Rattle.std.proofs.lemmas.Option.{slice_get_read}
use Rattle.turk_base.specs.Names.{Units, Name, pick, units_eq}
use Rattle.turk_base.specs.Values as model
use Rattle.turk_base.specs.Values.{Kind}
use Rattle.turk_base.specs.Cells.{put, list, length_key}
use Rattle.turk_base.specs.State.{change, if_paid}
use Rattle.turk_base.specs.Steps.{Small, give, step, bind, edit, has_key, add_keys, without_length, keys_in, steps_of}
use Rattle.turk_base.specs.Prog.{Keys}
use Rattle.value_cells.specs.declared.OpStop.{OpStop}
use Rattle.value_cells.specs.declared.CellKind.{CellKind}
use Rattle.value_cells.specs.declared.CellKind.TheVariants.{Frame, Plain, Array, Function, BuiltIn}
use Rattle.value_cells.specs.Held.{Key, key_eq, kinds_of, IsWhole}
use Rattle.value_cells.specs.Seen.{Naming, kind_in}
use Rattle.value_cells.specs.Does.{Told, Says, told_stop}
use Rattle.run_heap.specs.Core.{Core, count}
use Rattle.run_heap.specs.Placed.{chain_of}
use Rattle.run_heap.specs.Listing.{one_listed, add_one, hidden}
use Rattle.run_heap.specs.Works.{Works}
use Rattle.run_heap.proofs.Tables.{kind_there}
use Rattle.run_heap.proofs.Keys.{pick_key, same_key, key_same}
use Rattle.run_heap.proofs.Chains.{works_known}
use Rattle.run_heap.proofs.Index_keys.{drop_next, no_more}
use Rattle.run_heap.proofs.Turn.{works_then, works_out, works_give, works_fails, keeps_same}

-- ---- whether a key stands in a list

pub has_hit : (k j : Key) (ks : List Key) → key_eq j k ≡ true → has_key k (j ∷ ks) ≡ true
has_hit k j ks e = pick_key j k true (has_key k ks) ∙ ap (λ t. cond t true (has_key k ks)) (swap k j e)
  where
    swap : (k j : Key) → key_eq j k ≡ true → key_eq k j ≡ true
    swap k j e = subst (λ x. key_eq k x ≡ true) (sym (same_key j k e)) (key_same k)

pub has_miss : (k j : Key) (ks : List Key) → key_eq j k ≡ false → has_key k (j ∷ ks) ≡ has_key k ks
has_miss k j ks e = pick_key j k true (has_key k ks) ∙ by (key_eq k j) refl
  where
    by : (t : Bool) → key_eq k j ≡ t → cond t true (has_key k ks) ≡ has_key k ks
    by false h = refl
    by true h = absurd (true≢false (sym (key_same j) ∙ ap (key_eq j) (sym (same_key k j h)) ∙ e))

pub has_found : (k x : Key) (ks : List Key) (i : ℕ) → i < length ks → x ≡ get_or ks i x → key_eq x k ≡ true → has_key k (drop i ks) ≡ has_key k ks → true ≡ has_key k ks
has_found k x ks i here g e so_far = sym (ap (has_key k) (drop_next ks i x (slice_get_read ks (length ks) i x refl here g)) ∙ has_hit k x (drop (suc i) ks) e) ∙ so_far

pub has_next : (k x : Key) (ks : List Key) (i : ℕ) → i < length ks → x ≡ get_or ks i x → key_eq x k ≡ false → has_key k (drop i ks) ≡ has_key k ks → has_key k (drop (i + 1) ks) ≡ has_key k ks
has_next k x ks i here g e so_far = (let p : i + 1 ≡ suc i = omega arith in ap (λ n. has_key k (drop n ks)) p) ∙ sym (ap (has_key k) (drop_next ks i x (slice_get_read ks (length ks) i x refl here g)) ∙ has_miss k x (drop (suc i) ks) e) ∙ so_far

-- the first of a list, with the next
take_suc : {A : Type 0} (l : List A) (i : ℕ) (x : A) → slice_get l i ≡ Some x → take (suc i) l ≡ take i l ++ x ∷ []
take_suc [] i x e = cc
take_suc (y ∷ l) zero x e = let h : y ≡ x = cc in ap (λ z. z ∷ []) h
take_suc (y ∷ l) (suc i) x e = ap (λ z. y ∷ z) (take_suc l i x e)

pub take_next : {A : Type 0} (l : List A) (i : ℕ) (x : A) → slice_get l i ≡ Some x → take (i + 1) l ≡ take i l ++ x ∷ []
take_next l i x e = (let p : i + 1 ≡ suc i = omega arith in ap (λ n. take n l) p) ∙ take_suc l i x e

-- ---- keys are added one after another

pub add_step : (had : List Key) (k : Key) (ks : List Key) → add_keys had (k ∷ ks) ≡ add_keys (add_one k had) ks
add_step had k ks = by (has_key k had)
  where
    by : (t : Bool) → (if t then add_keys had ks else add_keys (had ++ (k ∷ [])) ks) ≡ add_keys (if t then had else had ++ (k ∷ [])) ks
    by true = refl
    by false = refl

pub listed_hidden : (nu : Naming) (kind : CellKind) (k : Key) (ks : List Key) → hidden kind k ≡ true → without_length (kind_in nu kind) (k ∷ ks) ≡ without_length (kind_in nu kind) ks
listed_hidden nu (Frame p) k ks e = absurd (true≢false (sym e))
listed_hidden nu (Plain p) k ks e = absurd (true≢false (sym e))
listed_hidden nu Array k ks e = pick_key k length_key (without_length model.Array ks) (k ∷ without_length model.Array ks) ∙ ap (λ t. cond t (without_length model.Array ks) (k ∷ without_length model.Array ks)) e
listed_hidden nu (Function n f) k ks e = absurd (true≢false (sym e))
listed_hidden nu (BuiltIn w) k ks e = absurd (true≢false (sym e))

pub listed_seen : (nu : Naming) (kind : CellKind) (k : Key) (ks : List Key) → hidden kind k ≡ false → without_length (kind_in nu kind) (k ∷ ks) ≡ k ∷ without_length (kind_in nu kind) ks
listed_seen nu (Frame p) k ks e = refl
listed_seen nu (Plain p) k ks e = refl
listed_seen nu Array k ks e = pick_key k length_key (without_length model.Array ks) (k ∷ without_length model.Array ks) ∙ ap (λ t. cond t (without_length model.Array ks) (k ∷ without_length model.Array ks)) e
listed_seen nu (Function n f) k ks e = refl
listed_seen nu (BuiltIn w) k ks e = refl

listed_none : (nu : Naming) (kind : CellKind) → without_length (kind_in nu kind) [] ≡ []
listed_none nu (Frame p) = refl
listed_none nu (Plain p) = refl
listed_none nu Array = refl
listed_none nu (Function n f) = refl
listed_none nu (BuiltIn w) = refl

-- what is still to be added of ks from the place i on gives what all of them give
abbrev pub Adds : CellKind → List Key → List Key → List Key → ℕ → Type 0
Adds kind old had ks i = (nu : Naming) → add_keys had (without_length (kind_in nu kind) (drop i ks)) ≡ add_keys old (without_length (kind_in nu kind) ks)

adds_suc : (kind : CellKind) (old had ks : List Key) (i : ℕ) (k : Key) (new : List Key) → i < length ks → k ≡ get_or ks i k → Adds kind old had ks i
    → new ≡ (if hidden kind k then had else add_one k had) → Adds kind old new ks (suc i)
adds_suc kind old had ks i k new here g so_far is nu = by (hidden kind k) refl
  where
    place : slice_get ks i ≡ Some k
    place = slice_get_read ks (length ks) i k refl here g

    by : (t : Bool) → hidden kind k ≡ t → add_keys new (without_length (kind_in nu kind) (drop (suc i) ks)) ≡ add_keys old (without_length (kind_in nu kind) ks)
    by true e =
        ap (λ l. add_keys l (without_length (kind_in nu kind) (drop (suc i) ks))) (is ∙ ap (λ t. if t then had else add_one k had) e)
        ∙ sym (ap (λ l. add_keys had (without_length (kind_in nu kind) l)) (drop_next ks i k place) ∙ ap (add_keys had) (listed_hidden nu kind k (drop (suc i) ks) e)) ∙ so_far nu
    by false e =
        ap (λ l. add_keys l (without_length (kind_in nu kind) (drop (suc i) ks))) (is ∙ ap (λ t. if t then had else add_one k had) e)
        ∙ sym (ap (λ l. add_keys had (without_length (kind_in nu kind) l)) (drop_next ks i k place) ∙ ap (add_keys had) (listed_seen nu kind k (drop (suc i) ks) e) ∙ add_step had k (without_length (kind_in nu kind) (drop (suc i) ks)))
        ∙ so_far nu

pub adds_next : (kind : CellKind) (old had ks : List Key) (i n : ℕ) (k : Key) (new : List Key) → i < n → n ≡ length ks → k ≡ get_or ks i k → Adds kind old had ks i
    → new ≡ (if hidden kind k then had else add_one k had) → Adds kind old new ks (i + 1)
adds_next kind old had ks i n k new here long g so_far is =
    let e : suc i ≡ i + 1 = omega arith in
    subst (Adds kind old new ks) e (adds_suc kind old had ks i k new (omega (arith, here, long)) g so_far is)

pub adds_all : (kind : CellKind) (old had ks : List Key) (i : ℕ) → length ks ≤ i → Adds kind old had ks i → (nu : Naming) → had ≡ add_keys old (without_length (kind_in nu kind) ks)
adds_all kind old had ks i h so_far nu = sym (ap (λ l. add_keys had (without_length (kind_in nu kind) l)) (no_more i ks h) ∙ ap (add_keys had) (listed_none nu kind)) ∙ so_far nu

-- ---- one cell

module _ (i : ℕ) (old : Core) (whole : IsWhole old.cells.now) (here : i < count old) where
  pub lists_one : (kind : CellKind) → slice_get (kinds_of old.cells.now) i ≡ Some kind → (had new ks : List Key) (mid : Core) → ((nu : Naming) → new ≡ add_keys had (without_length (kind_in nu kind) ks))
      → Works (λ nu. step (change true (nu i) list) give) (λ nu. Says ks) old mid → Works (λ nu. one_listed had (nu i)) (λ nu. Says new) old mid
  lists_one kind e had new ks mid is x =
      works_known old whole i here kind e (λ nu k. edit (nu i) list (λ ks. give (add_keys had (without_length k.kind ks)))) (λ nu. Says new) mid
      (subst (λ (said : Naming → Told (List Key)). Works (λ nu. edit (nu i) list (λ ks. give (add_keys had (without_length (kind_in nu kind) ks)))) said old mid) (λ x nu. Says (sym (is nu) x))
      (works_then (λ nu. step (change true (nu i) list) give) (λ nu. ks) (λ nu ks. give (add_keys had (without_length (kind_in nu kind) ks))) (λ nu. Says (add_keys had (without_length (kind_in nu kind) ks))) old mid mid x
      (works_give (λ nu. add_keys had (without_length (kind_in nu kind) ks)) mid)))

  -- ---- cell after cell

  pub listed_start : (said : Naming → Told (List Key)) (last : Core)
      → Works (λ nu. keys_in [] (nu i ∷ map nu (chain_of (kinds_of old.cells.now) i))) said old last → Works (λ nu. steps_of (Keys (nu i))) said old last
  unfolding steps_of
  listed_start said last y =
      let kind = kind_there old.cells.now i here in
      works_known old whole i here kind.0 kind.1 (λ nu k. keys_in [] (nu i ∷ k.chain)) said last y

module _ (i : ℕ) (had : List Key) (chain : List ℕ) where
  pub listed_on : (new : List Key) (said : Naming → Told (List Key)) (s t last : Core) → Works (λ nu. one_listed had (nu i)) (λ nu. Says new) s t
      → Works (λ nu. keys_in new (map nu chain)) said t last → Works (λ nu. keys_in had (nu i ∷ map nu chain)) said s last
  listed_on new said s t last x y = works_then (λ nu. one_listed had (nu i)) (λ nu. new) (λ nu had. keys_in had (map nu chain)) said s t last x y

  pub listed_out : (e : OpStop) (s t : Core) → Works (λ nu. one_listed had (nu i)) (λ nu. told_stop e) s t → Works (λ nu. keys_in had (nu i ∷ map nu chain)) (λ nu. told_stop e) s t
  listed_out e s t x = works_out (λ nu. one_listed had (nu i)) (λ nu had. keys_in had (map nu chain)) e s t x
