-- Data taken, from the steps that the code did.
use Rattle.std.proofs.Common.{◌≡◌, refl, ap, sym, ◌∙◌, subst, ℕ, suc, ◌<◌, slice_get, true, List, [], ◌∷◌, ◌++◌, length, Option, Some, None, option_map, decimal}
use Rattle.std.specs.Prelude.{Result, Ok, Err}
use Rattle.turk_base.specs.Names.{path_in, Name}
use Rattle.turk_base.specs.Values as model
use Rattle.turk_base.specs.Values.{Val, Array, Refusal}
use Rattle.turk_base.specs.Data.{Data, DList, DFields, Items, NoItems, Item, Fields, NoFields, Field, items_of, fields_of}
use Rattle.turk_base.specs.Cells.{look, list, length_key}
use Rattle.turk_base.specs.State.{charge, change}
use Rattle.turk_base.specs.Steps.{Small, give, refuse, lost, step, ask, bind, pays, edit, there, without_length, just_elements, take_items, take_list, take_fields, take_cell}
use Rattle.value_cells.specs.declared.Value.{Value}
use Rattle.value_cells.specs.declared.OpStop.{OpStop}
use Rattle.value_cells.specs.Comes.{then_goes, comes}
use Rattle.value_cells.specs.Seen.{Naming, val_in}
use Rattle.value_cells.specs.Does.{Told, Says, Refuses, told_stop}
use Rattle.value_cells.specs.declared.OpStop.TheVariants.{Memory}
use Rattle.value_cells.specs.declared.CellKind.{CellKind}
use Rattle.value_cells.specs.Held.{kinds_of, IsWhole}
use Rattle.value_cells.specs.Seen.{kind_in}
use Rattle.std.specs.Result.{IsErrAnd}
use Rattle.turk_base.specs.Prog.{ReadName}
use Rattle.std.specs.Map.{keys_of}
use Rattle.turk_base.specs.Steps.{steps_of, take}
use Rattle.run_heap.specs.Core.{count, names_in, Rests}
use Rattle.run_heap.proofs.Chains.{works_known}
use Rattle.run_heap.proofs.Putting.{works_refuse}
use Rattle.run_heap.proofs.Turn.{Keeps, works_fails}
use Rattle.run_heap.specs.Core.{Core}
use Rattle.run_heap.specs.Placed.{placed}
use Rattle.run_heap.specs.Works.{Works}
use Rattle.run_heap.proofs.Acts.{comes_bind}
use Rattle.run_heap.proofs.Turn.{works_then, works_out, works_give}
use Rattle.run_data.specs.Taken.{told_taken}

-- data put before others
abbrev pub items_then : List Data → Items → Items
items_then [] ds = ds
items_then (d ∷ front) ds = Item d (items_then front ds)

abbrev pub fields_then : List (List ℕ × Data) → Fields → Fields
fields_then [] ds = ds
fields_then (f ∷ front) ds = Field f.0 f.1 (fields_then front ds)

-- ---- programs

pub bind_give : {A : Type 0} (m : Small A) → bind m give ≡ m
bind_give (give a) = refl
bind_give (refuse why) = refl
bind_give lost = refl
bind_give (step o go) = λ i. step o (λ a. bind_give (go a) i)
bind_give (ask q go) = λ i. ask q (λ a. bind_give (go a) i)

pub bind_then : {A B C : Type 0} (m : Small A) (f : A → Small B) (g : B → Small C) → bind (bind m f) g ≡ bind m (λ a. bind (f a) g)
bind_then (give a) f g = refl
bind_then (refuse why) f g = refl
bind_then lost f g = refl
bind_then (step o go) f g = λ i. step o (λ a. bind_then (go a) f g i)
bind_then (ask q go) f g = λ i. ask q (λ a. bind_then (go a) f g i)

-- a refusal ends what comes after it
pub works_refused : {A B : Type 0} (g : Naming → Small A) (k : Naming → A → Small B) (why : Refusal) (s t : Core) → Works g (λ nu. Refuses why) s t → Works (λ nu. bind (g nu) (k nu)) (λ nu. Refuses why) s t
works_refused g k why s t x = record {
  all = λ r.
      let f = x.all r in
      record {
        stays = f.stays;
        did = λ nu fits.
            comes_bind (path_in s.place.path) (path_in s.place.branch) r.body (g nu) (k nu) (placed nu s (r.base nu)) s.left
            ∙ ap (λ c. then_goes c (λ a τ m. comes (k nu a) (path_in s.place.path) (path_in s.place.branch) r.body τ m)) (f.did nu fits);
      };
}

-- by what was told of the first
pub works_told : {V A B : Type 0} (g : Naming → Small A) (f : V → A) (h : A → B) (r : Result (Option V) OpStop) (s t : Core) → Works g (λ nu. told_taken f r) s t
    → Works (λ nu. bind (g nu) (λ a. give (h a))) (λ nu. told_taken (λ v. h (f v)) r) s t
works_told g f h (Ok (Some v)) s t x = works_then g (λ nu. f v) (λ nu a. give (h a)) (λ nu. Says (h (f v))) s t t x (works_give (λ nu. h (f v)) t)
works_told g f h (Ok None) s t x = works_refused g (λ nu a. give (h a)) model.NotData s t x
works_told g f h (Err e) s t x = works_out g (λ nu a. give (h a)) e s t x

-- ---- a primitive and the first step of a cell

pub paid_then : {A : Type 0} (n : ℕ) (g : Naming → Small A) (said : Naming → Told A) (s p t : Core) → Works (λ nu. step (charge n) give) (λ nu. Says tt) s p → Works g said p t → Works (λ nu. pays n (g nu)) said s t
paid_then n g said s p t x y = works_then (λ nu. step (charge n) give) (λ nu. tt) (λ nu _. g nu) said s p t x y

pub paid_out : {A : Type 0} (n : ℕ) (g : Naming → Small A) (e : OpStop) (s p : Core) → Works (λ nu. step (charge n) give) (λ nu. told_stop e) s p → Works (λ nu. pays n (g nu)) (λ nu. told_stop e) s p
paid_out n g e s p x = works_out (λ nu. step (charge n) give) (λ nu _. g nu) e s p x

-- ---- items

module _ (one : Val → Small Data) (i : ℕ) where
  abbrev pub rest_of : Naming → ℕ → ℕ → List Data → Small Items
  rest_of nu place n front = bind (take_items one (nu i) place n) (λ ds. give (items_then front ds))

  abbrev pub found_at : Naming → List ℕ → Small Val
  found_at nu key = edit (nu i) (look key) there

  items_push : (front : List Data) (d : Data) (ds : Items) → items_then (front ++ d ∷ []) ds ≡ items_then front (Item d ds)
  items_push [] d ds = refl
  items_push (e ∷ front) d ds = ap (Item e) (items_push front d ds)

  module _ (place n : ℕ) (front : List Data) where
    abbrev pub after_one : Naming → Data → Small Items
    after_one nu d = bind (take_items one (nu i) (suc place) n) (λ ds. give (items_then front (Item d ds)))

    -- the first of them, and those that are left
    split : (nu : Naming) → rest_of nu place (suc n) front ≡ bind (found_at nu (decimal place)) (λ v. bind (one v) (λ d. after_one nu d))
    split nu =
        bind_then (found_at nu (decimal place)) (λ v. bind (one v) (λ d. bind (take_items one (nu i) (suc place) n) (λ ds. give (Item d ds)))) (λ ds. give (items_then front ds))
        ∙ (λ x. bind (found_at nu (decimal place)) (λ v. bind_then (one v) (λ d. bind (take_items one (nu i) (suc place) n) (λ ds. give (Item d ds))) (λ ds. give (items_then front ds)) x))
        ∙ (λ x. bind (found_at nu (decimal place)) (λ v. bind (one v) (λ d. bind_then (take_items one (nu i) (suc place) n) (λ ds. give (Item d ds)) (λ ds. give (items_then front ds)) x)))

    module _ (v : Value) (s t : Core) (x : Works (λ nu. found_at nu (decimal place)) (λ nu. Says (val_in nu v)) s t) where
      pub items_next : (d : Data) (said : Naming → Told Items) (u last : Core) → Works (λ nu. one (val_in nu v)) (λ nu. Says d) t u → Works (λ nu. rest_of nu (suc place) n (front ++ d ∷ [])) said u last
          → Works (λ nu. rest_of nu place (suc n) front) said s last
      items_next d said u last y z =
          subst (λ g. Works g said s last) (λ x nu. sym (split nu) x)
          (works_then (λ nu. found_at nu (decimal place)) (λ nu. val_in nu v) (λ nu v. bind (one v) (λ d. after_one nu d)) said s t last x
          (works_then (λ nu. one (val_in nu v)) (λ nu. d) (λ nu d. after_one nu d) said t u last y
          (subst (λ (g : Naming → Small Items). Works g said u last) (λ x nu. bind (take_items one (nu i) (suc place) n) (λ ds. give (items_push front d ds x))) z)))

      pub items_none : (u : Core) → Works (λ nu. one (val_in nu v)) (λ nu. Refuses model.NotData) t u → Works (λ nu. rest_of nu place (suc n) front) (λ nu. Refuses model.NotData) s u
      items_none u y =
          subst (λ g. Works g (λ nu. Refuses model.NotData) s u) (λ x nu. sym (split nu) x)
          (works_then (λ nu. found_at nu (decimal place)) (λ nu. val_in nu v) (λ nu v. bind (one v) (λ d. after_one nu d)) (λ nu. Refuses model.NotData) s t u x
          (works_refused (λ nu. one (val_in nu v)) (λ nu d. after_one nu d) model.NotData t u y))

      pub items_out : (e : OpStop) (u : Core) → Works (λ nu. one (val_in nu v)) (λ nu. told_stop e) t u → Works (λ nu. rest_of nu place (suc n) front) (λ nu. told_stop e) s u
      items_out e u y =
          subst (λ g. Works g (λ nu. told_stop e) s u) (λ x nu. sym (split nu) x)
          (works_then (λ nu. found_at nu (decimal place)) (λ nu. val_in nu v) (λ nu v. bind (one v) (λ d. after_one nu d)) (λ nu. told_stop e) s t u x
          (works_out (λ nu. one (val_in nu v)) (λ nu d. after_one nu d) e t u y))

    pub items_lost : (e : OpStop) (s t : Core) → Works (λ nu. found_at nu (decimal place)) (λ nu. told_stop e) s t → Works (λ nu. rest_of nu place (suc n) front) (λ nu. told_stop e) s t
    items_lost e s t x =
        subst (λ g. Works g (λ nu. told_stop e) s t) (λ x nu. sym (split nu) x)
        (works_out (λ nu. found_at nu (decimal place)) (λ nu v. bind (one v) (λ d. after_one nu d)) e s t x)

  pub items_end : (place : ℕ) (front : List Data) (c : Core) → Works (λ nu. rest_of nu place 0 front) (λ nu. Says (items_of front)) c c
  items_end place front c = subst (λ ds. Works (λ nu. rest_of nu place 0 front) (λ nu. Says ds) c c) (all front) (works_give (λ nu. items_then front NoItems) c)
    where
      all : (front : List Data) → items_then front NoItems ≡ items_of front
      all [] = refl
      all (d ∷ front) = ap (Item d) (all front)

  pub items_begin : (n : ℕ) (said : Naming → Told Items) (s t : Core) → Works (λ nu. rest_of nu 0 n []) said s t → Works (λ nu. take_items one (nu i) 0 n) said s t
  items_begin n said s t x = subst (λ g. Works g said s t) (λ x nu. bind_give (take_items one (nu i) 0 n) x) x

-- ---- fields: each pays 1 and its key

module _ (one : Val → Small Data) (i : ℕ) where
  abbrev pub fields_left : Naming → List (List ℕ) → List (List ℕ × Data) → Small Fields
  fields_left nu ks front = bind (take_fields one (nu i) ks) (λ ds. give (fields_then front ds))

  fields_push : (front : List (List ℕ × Data)) (k : List ℕ) (d : Data) (ds : Fields) → fields_then (front ++ (k, d) ∷ []) ds ≡ fields_then front (Field k d ds)
  fields_push [] k d ds = refl
  fields_push (f ∷ front) k d ds = ap (Field f.0 f.1) (fields_push front k d ds)

  module _ (k : List ℕ) (ks : List (List ℕ)) (front : List (List ℕ × Data)) where
    abbrev pub after_field : Naming → Data → Small Fields
    after_field nu d = bind (take_fields one (nu i) ks) (λ ds. give (fields_then front (Field k d ds)))

    abbrev pub field_read : Naming → Small Fields
    field_read nu = bind (found_at one i nu k) (λ v. bind (one v) (λ d. after_field nu d))

    split_field : (nu : Naming) → fields_left nu (k ∷ ks) front ≡ pays (suc (length k)) (field_read nu)
    split_field nu =
        (λ x. pays (suc (length k)) (bind_then (found_at one i nu k) (λ v. bind (one v) (λ d. bind (take_fields one (nu i) ks) (λ ds. give (Field k d ds)))) (λ ds. give (fields_then front ds)) x))
        ∙ (λ x. pays (suc (length k)) (bind (found_at one i nu k) (λ v. bind_then (one v) (λ d. bind (take_fields one (nu i) ks) (λ ds. give (Field k d ds))) (λ ds. give (fields_then front ds)) x)))
        ∙ (λ x. pays (suc (length k)) (bind (found_at one i nu k) (λ v. bind (one v) (λ d. bind_then (take_fields one (nu i) ks) (λ ds. give (Field k d ds)) (λ ds. give (fields_then front ds)) x))))

    pub fields_unpaid : (e : OpStop) (s p : Core) → Works (λ nu. step (charge (suc (length k))) give) (λ nu. told_stop e) s p → Works (λ nu. fields_left nu (k ∷ ks) front) (λ nu. told_stop e) s p
    fields_unpaid e s p x = subst (λ g. Works g (λ nu. told_stop e) s p) (λ x nu. sym (split_field nu) x) (paid_out (suc (length k)) field_read e s p x)

    module _ (s p : Core) (paid : Works (λ nu. step (charge (suc (length k))) give) (λ nu. Says tt) s p) where
      pub fields_lost : (e : OpStop) (t : Core) → Works (λ nu. found_at one i nu k) (λ nu. told_stop e) p t → Works (λ nu. fields_left nu (k ∷ ks) front) (λ nu. told_stop e) s t
      fields_lost e t x =
          subst (λ g. Works g (λ nu. told_stop e) s t) (λ x nu. sym (split_field nu) x)
          (paid_then (suc (length k)) field_read (λ nu. told_stop e) s p t paid (works_out (λ nu. found_at one i nu k) (λ nu v. bind (one v) (λ d. after_field nu d)) e p t x))

      module _ (v : Value) (t : Core) (x : Works (λ nu. found_at one i nu k) (λ nu. Says (val_in nu v)) p t) where
        then_field : (said : Naming → Told Fields) (last : Core) → Works (λ nu. bind (one (val_in nu v)) (λ d. after_field nu d)) said t last → Works (λ nu. fields_left nu (k ∷ ks) front) said s last
        then_field said last y =
            subst (λ g. Works g said s last) (λ x nu. sym (split_field nu) x)
            (paid_then (suc (length k)) field_read said s p last paid (works_then (λ nu. found_at one i nu k) (λ nu. val_in nu v) (λ nu v. bind (one v) (λ d. after_field nu d)) said p t last x y))

        pub fields_next : (d : Data) (said : Naming → Told Fields) (u last : Core) → Works (λ nu. one (val_in nu v)) (λ nu. Says d) t u → Works (λ nu. fields_left nu ks (front ++ (k, d) ∷ [])) said u last
            → Works (λ nu. fields_left nu (k ∷ ks) front) said s last
        unfolding then_field
        fields_next d said u last y z =
            then_field said last
            (works_then (λ nu. one (val_in nu v)) (λ nu. d) (λ nu d. after_field nu d) said t u last y
            (subst (λ (g : Naming → Small Fields). Works g said u last) (λ x nu. bind (take_fields one (nu i) ks) (λ ds. give (fields_push front k d ds x))) z))

        pub fields_none : (u : Core) → Works (λ nu. one (val_in nu v)) (λ nu. Refuses model.NotData) t u → Works (λ nu. fields_left nu (k ∷ ks) front) (λ nu. Refuses model.NotData) s u
        unfolding then_field
        fields_none u y = then_field (λ nu. Refuses model.NotData) u (works_refused (λ nu. one (val_in nu v)) (λ nu d. after_field nu d) model.NotData t u y)

        pub fields_out : (e : OpStop) (u : Core) → Works (λ nu. one (val_in nu v)) (λ nu. told_stop e) t u → Works (λ nu. fields_left nu (k ∷ ks) front) (λ nu. told_stop e) s u
        unfolding then_field
        fields_out e u y = then_field (λ nu. told_stop e) u (works_out (λ nu. one (val_in nu v)) (λ nu d. after_field nu d) e t u y)

  pub fields_end : (front : List (List ℕ × Data)) (c : Core) → Works (λ nu. fields_left nu [] front) (λ nu. Says (fields_of front)) c c
  fields_end front c = subst (λ ds. Works (λ nu. fields_left nu [] front) (λ nu. Says ds) c c) (all front) (works_give (λ nu. fields_then front NoFields) c)
    where
      all : (front : List (List ℕ × Data)) → fields_then front NoFields ≡ fields_of front
      all [] = refl
      all (f ∷ front) = ap (Field f.0 f.1) (all front)

  pub fields_begin : (ks : List (List ℕ)) (said : Naming → Told Fields) (s t : Core) → Works (λ nu. fields_left nu ks []) said s t → Works (λ nu. take_fields one (nu i) ks) said s t
  fields_begin ks said s t x = subst (λ g. Works g said s t) (λ x nu. bind_give (take_fields one (nu i) ks) x) x

-- ---- a cell: an array, where its keys are just its elements; a plain one

module _ (one : Val → Small Data) (i : ℕ) (ks : List (List ℕ)) (s p t : Core) (paid : Works (λ nu. step (charge 1) give) (λ nu. Says tt) s p) (listed : Works (λ nu. step (change true (nu i) list) give) (λ nu. Says ks) p t) where
  abbrev pub with_length : Naming → Option Val → Small Data
  with_length nu o = take_list one (nu i) (just_elements (without_length Array ks) o)

  pub array_on : (o : Option Value) (said : Naming → Told Data) (u last : Core) → Works (λ nu. step (change true (nu i) (look length_key)) give) (λ nu. Says (option_map (val_in nu) o)) t u
      → Works (λ nu. with_length nu (option_map (val_in nu) o)) said u last → Works (λ nu. take_cell one (nu i) Array) said s last
  array_on o said u last x y =
      paid_then 1 (λ nu. edit (nu i) list (λ ks. edit (nu i) (look length_key) (λ o. take_list one (nu i) (just_elements (without_length Array ks) o)))) said s p last paid
      (works_then (λ nu. step (change true (nu i) list) give) (λ nu. ks) (λ nu ks. edit (nu i) (look length_key) (λ o. take_list one (nu i) (just_elements (without_length Array ks) o))) said p t last listed
      (works_then (λ nu. step (change true (nu i) (look length_key)) give) (λ nu. option_map (val_in nu) o) with_length said t u last x y))

  pub array_out : (e : OpStop) (u : Core) → Works (λ nu. step (change true (nu i) (look length_key)) give) (λ nu. told_stop e) t u → Works (λ nu. take_cell one (nu i) Array) (λ nu. told_stop e) s u
  array_out e u x =
      paid_then 1 (λ nu. edit (nu i) list (λ ks. edit (nu i) (look length_key) (λ o. take_list one (nu i) (just_elements (without_length Array ks) o)))) (λ nu. told_stop e) s p u paid
      (works_then (λ nu. step (change true (nu i) list) give) (λ nu. ks) (λ nu ks. edit (nu i) (look length_key) (λ o. take_list one (nu i) (just_elements (without_length Array ks) o))) (λ nu. told_stop e) p t u listed
      (works_out (λ nu. step (change true (nu i) (look length_key)) give) with_length e t u x))

  module _ (proto : Naming → Option Name) where
    pub plain_on : {V : Type 0} (f : V → Fields) (r : Result (Option V) OpStop) (last : Core) → Works (λ nu. take_fields one (nu i) ks) (λ nu. told_taken f r) t last
        → Works (λ nu. take_cell one (nu i) (model.Plain (proto nu))) (λ nu. told_taken (λ v. DFields (f v)) r) s last
    plain_on f r last x =
        paid_then 1 (λ nu. edit (nu i) list (λ ks. bind (take_fields one (nu i) ks) (λ ds. give (DFields ds)))) (λ nu. told_taken (λ v. DFields (f v)) r) s p last paid
        (works_then (λ nu. step (change true (nu i) list) give) (λ nu. ks) (λ nu ks. bind (take_fields one (nu i) ks) (λ ds. give (DFields ds))) (λ nu. told_taken (λ v. DFields (f v)) r) p t last listed
        (works_told (λ nu. take_fields one (nu i) ks) f DFields r t last x))

    pub plain_told : {V : Type 0} (f : V → Fields) (g : V → Data) (r : Result (Option V) OpStop) (last : Core) → ((v : V) → g v ≡ DFields (f v)) → Works (λ nu. take_fields one (nu i) ks) (λ nu. told_taken f r) t last
        → Works (λ nu. take_cell one (nu i) (model.Plain (proto nu))) (λ nu. told_taken g r) s last
    plain_told {V} f g r last h x = let same : g ≡ (λ v. DFields (f v)) = λ y v. h v y in subst (λ (g : V → Data). Works (λ nu. take_cell one (nu i) (model.Plain (proto nu))) (λ nu. told_taken g r) s last) (sym same) (plain_on f r last x)

  module _ (o : Option Value) (u : Core) (read : Works (λ nu. step (change true (nu i) (look length_key)) give) (λ nu. Says (option_map (val_in nu) o)) t u) where
    pub array_none : ((nu : Naming) → None ≡ just_elements (without_length Array ks) (option_map (val_in nu) o)) → Works (λ nu. take_cell one (nu i) Array) (λ nu. Refuses model.NotData) s u
    array_none h =
        array_on o (λ nu. Refuses model.NotData) u u read
        (let same : (λ (nu : Naming). refuse model.NotData) ≡ (λ (nu : Naming). with_length nu (option_map (val_in nu) o)) = λ x nu. take_list one (nu i) (h nu x) in
        subst (λ (g : Naming → Small Data). Works g (λ nu. Refuses model.NotData) u u) same (works_refuse model.NotData u))

    pub array_told : {V : Type 0} (n : ℕ) (f : V → Items) (r : Result (Option V) OpStop) (last : Core) → ((nu : Naming) → Some n ≡ just_elements (without_length Array ks) (option_map (val_in nu) o))
        → Works (λ nu. take_items one (nu i) 0 n) (λ nu. told_taken f r) u last → Works (λ nu. take_cell one (nu i) Array) (λ nu. told_taken (λ v. DList (f v)) r) s last
    array_told n f r last h x =
        array_on o (λ nu. told_taken (λ v. DList (f v)) r) u last read
        (let same : (λ (nu : Naming). bind (take_items one (nu i) 0 n) (λ ds. give (DList ds))) ≡ (λ (nu : Naming). with_length nu (option_map (val_in nu) o)) = λ x nu. take_list one (nu i) (h nu x) in
        subst (λ (g : Naming → Small Data). Works g (λ nu. told_taken (λ v. DList (f v)) r) u last) same (works_told (λ nu. take_items one (nu i) 0 n) f DList r u last x))

-- ---- exits

pub taken_err : {V A : Type 0} (g : Naming → Small A) (f : V → A) (r : Result (Option V) OpStop) (x : OpStop) (s t : Core) → IsErrAnd r (λ e. e ≡ x) → Works g (λ nu. told_stop x) s t → Works g (λ nu. told_taken f r) s t
taken_err g f (Ok o) x s t h y = absurd h
taken_err g f (Err e) x s t h y = subst (λ e. Works g (λ nu. told_stop e) s t) (sym h) y

pub keeps_of : (s t : Core) → Rests s t → t.cells ≡ s.cells → Keeps s t
keeps_of s t r e = record { path = r.path; branch = r.branch; names = λ x. names_in (e x).now }

pub taken_fails : {V A : Type 0} (g : Naming → Small A) (f : V → A) (r : Result (Option V) OpStop) (s t : Core) → Rests s t → t.cells ≡ s.cells → IsErrAnd r (λ e. e ≡ Memory) → Works g (λ nu. told_taken f r) s t
taken_fails g f r s t k e h = taken_err g f r Memory s t h (works_fails g s t (keeps_of s t k e))

-- ---- one access, and one cell

pub read_there : (i : ℕ) (key : List ℕ) (said : Naming → Told Val) (s t : Core) → Works (λ nu. steps_of (ReadName (nu i) key)) said s t → Works (λ nu. edit (nu i) (look key) there) said s t
unfolding steps_of
read_there i key said s t x = x

pub object_at : (old : Core) → IsWhole old.cells.now → (i : ℕ) → i < count old → (kind : CellKind) → slice_get (kinds_of old.cells.now) i ≡ Some kind → (left n : ℕ) → left ≡ suc n → (said : Naming → Told Data) (last : Core)
    → Works (λ nu. take_cell (take n) (nu i) (kind_in nu kind)) said old last → Works (λ nu. take left (model.Object (nu i))) said old last
object_at old whole i here kind is left n e said last x =
    subst (λ m. Works (λ nu. take m (model.Object (nu i))) said old last) (sym e) (works_known old whole i here kind is (λ nu k. take_cell (take n) (nu i) k.kind) said last x)

pub too_deep : (i left : ℕ) (c : Core) → left ≡ 0 → Works (λ nu. take left (model.Object (nu i))) (λ nu. Refuses model.NotData) c c
too_deep i left c e = subst (λ m. Works (λ nu. take m (model.Object (nu i))) (λ nu. Refuses model.NotData) c c) (sym e) (works_refuse model.NotData c)

pub in_none : {V A : Type 0} (g : Naming → Small A) (o : Option V) (f : V → A) (s t : Core) → o ≡ None → Works g (λ nu. told_taken f (Ok o)) s t → Works g (λ nu. Refuses model.NotData) s t
in_none g o f s t e x = subst (λ o. Works g (λ nu. told_taken f (Ok o)) s t) e x

pub in_some : {V A : Type 0} (g : Naming → Small A) (o : Option V) (v : V) (f : V → A) (s t : Core) → o ≡ Some v → Works g (λ nu. told_taken f (Ok o)) s t → Works g (λ nu. Says (f v)) s t
in_some g o v f s t e x = subst (λ o. Works g (λ nu. told_taken f (Ok o)) s t) e x

pub begin_items : (one : Val → Small Data) (i n m : ℕ) (front : List Data) → front ≡ [] → m ≡ n → (said : Naming → Told Items) (s t : Core) → Works (λ nu. rest_of one i nu 0 m front) said s t → Works (λ nu. take_items one (nu i) 0 n) said s t
begin_items one i n m front e q said s t x = items_begin one i n said s t (subst (λ m. Works (λ nu. rest_of one i nu 0 m []) said s t) q (subst (λ l. Works (λ nu. rest_of one i nu 0 m l) said s t) e x))

pub begin_fields : (one : Val → Small Data) (i : ℕ) (ks : List (List ℕ)) (front : List (List ℕ × Data)) → front ≡ [] → (said : Naming → Told Fields) (s t : Core) → Works (λ nu. fields_left one i nu ks front) said s t → Works (λ nu. take_fields one (nu i) ks) said s t
begin_fields one i ks front e said s t x = fields_begin one i ks said s t (subst (λ l. Works (λ nu. fields_left one i nu ks l) said s t) e x)

pub keys_push : (front : List (List ℕ × Data)) (f : List ℕ × Data) → keys_of (front ++ f ∷ []) ≡ keys_of front ++ f.0 ∷ []
keys_push [] f = refl
keys_push (g ∷ front) f = ap (λ l. g.0 ∷ l) (keys_push front f)
