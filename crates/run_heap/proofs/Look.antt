-- The steps on properties, over plain variables.
use Rattle.std.proofs.Common.{◌≡◌, refl, ap, sym, ◌∙◌, subst, ℕ, zero, suc, ◌-◌, ◌<◌, ◌≤◌, Bool, true, false, true≢false, List, [], ◌∷◌, ◌++◌, length, Option, Some, None, is_some, option_map, slice_get, map, arith}
use Rattle.std.specs.Prelude.{IsSome}
use Rattle.std.specs.Map.{lookup, set_value, remove_entry}
use Rattle.std.proofs.lemmas.Option.{slice_get-map, slice_get_within}
use Rattle.turk_base.specs.Names.{Path, path_in, Name, cell, Slot, slot, shape, at, home}
use Rattle.turk_base.specs.Values.{Val}
use Rattle.turk_base.specs.Cells.{Edit, look, put, remove, list, found, says, new_props, edit_cost, created, set_key, drop_key}
use Rattle.turk_base.specs.State.{St, change, if_paid}
use Rattle.turk_base.specs.Steps.{Small, give, step}
use Rattle.branch_check.specs.Watch.{Watch, after_touch, after_write}
use Rattle.value_cells.specs.declared.Value.{Value}
use Rattle.value_cells.specs.declared.CellName.{CellName}
use Rattle.value_cells.specs.Comes.{goes, spends}
use Rattle.value_cells.specs.Held.{Cell, Held, Key, Props, props_in, props_at, own, key_eq, names_of, kinds_of, IsWhole}
use Rattle.value_cells.specs.Held as held
use Rattle.value_cells.specs.Seen.{Naming, Fits, val_in, name_in}
use Rattle.value_cells.specs.Does.{Told, Says, Fails, told, comes_from}
use Rattle.value_cells.proofs.Lists.{names-with, count-with}
use Rattle.slot_watch.specs.Named.{named, TellsApart}
use Rattle.slot_watch.specs.Slots.{Slots, Turns}
use Rattle.run_heap.specs.declared.Place.{Place}
use Rattle.run_heap.specs.Core.{Core, count, names_in}
use Rattle.run_heap.specs.Placed.{placed, Around, seen_in}
use Rattle.run_heap.specs.Placed as spec
use Rattle.run_heap.specs.Works.{Works}
use Rattle.std.specs.List.{IsDistinct}
use Rattle.std.specs.Map as std
use Rattle.value_cells.specs.Does.{Spends, Did}
use Rattle.value_cells.proofs.Turns.{fits_before}
use Rattle.run_heap.proofs.Keys.{found_in, set_there, set_new, drop_in, drop_missing, keys_in}
use Rattle.run_heap.proofs.Tables.{name_at, tells, props_here}
use Rattle.run_heap.proofs.Watches.{edited_watch, look_some, look_none, put_some, put_none, remove_some, remove_none, list_watch}
use Rattle.run_heap.proofs.Acts.{Edits, paid_same}
use Rattle.run_heap.proofs.Turn.{Keeps, works_one, works_spends, edit_goes, edit_spends, core}

pub with_same : (cells : List Cell) (i : ℕ) → held.with_props cells i (props_at cells i) ≡ cells
with_same [] i = refl
with_same (c ∷ cells) zero = refl
with_same (c ∷ cells) (suc i) = ap (λ l. c ∷ l) (with_same cells i)

some_of : {A : Type 0} (o : Option A) → IsSome o → (v : A) × (o ≡ Some v)
some_of (Some v) h = (v, refl)
some_of None h = absurd (true≢false (sym h))

pub names_same : (cells : List Cell) (i : ℕ) (ps : Props) → names_in (held.with_props cells i ps) ≡ names_in cells
names_same cells i ps = ap (map name_in) (names-with cells i ps)

module _ (cells : Held) (place : Place) (outer : List Place) (left : ℕ) (whole : IsWhole cells.now) (i : ℕ) (here : i < length cells.now) (key : Key) where
  abbrev pub props : Props
  props = props_at cells.now i

  -- a property is looked up
  module _ (slots after : Slots) where
    was : Core
    was = core cells slots place outer left

    now : Core
    now = core cells after place outer left

    same : Keeps was now
    unfolding was now
    same = record { path = refl; branch = refl; names = refl }

    looks : (o : Option Value) → own cells.now i key ≡ o
        → ((nu : Naming) → Fits nu (names_in cells.now) → TellsApart nu (length cells.now) → named nu after.keys after.current ≡ edited_watch (path_in place.branch) (nu i) (look key) (spec.props_in nu props) (named nu slots.keys slots.current))
        → Works (λ nu. step (change true (nu i) (look key)) give) (λ nu. Says (option_map (val_in nu) o)) was now
    unfolding was now
    looks o e w =
        let edits : Edits i (λ nu. look key) was now = record { props = props; cells = sym (with_same cells.now i); props_are = λ nu. refl; watch = w; made = refl } in
        works_one (λ nu. step (change true (nu i) (look key)) give) (λ nu. option_map (val_in nu) o) was now same
        (λ r nu f. edit_goes i (λ nu. look key) was now here whole edits refl true 0 (λ nu. refl) (omega arith) (omega arith) r nu f
        ∙ ap (λ x. goes x (placed nu now (r.base nu)) left) (found_in nu key props ∙ ap (option_map (val_in nu)) e))

    pub looks_none : own cells.now i key ≡ None → Turns (λ nu w. after_touch (path_in place.branch) (slot (nu i) shape) w) (length cells.now) slots after
        → Works (λ nu. step (change true (nu i) (look key)) give) (λ nu. Says None) (core cells slots place outer left) (core cells after place outer left)
    unfolding was now
    looks_none e t = looks None e (λ nu f a. t.now nu a ∙ sym (look_none (path_in place.branch) (nu i) key (spec.props_in nu props) (named nu slots.keys slots.current) (found_in nu key props ∙ ap (option_map (val_in nu)) e)))

    pub looks_some : (v : Value) → own cells.now i key ≡ Some v → Turns (λ nu w. after_touch (path_in place.branch) (slot (nu i) (at key)) w) (length cells.now) slots after
        → Works (λ nu. step (change true (nu i) (look key)) give) (λ nu. Says (Some (val_in nu v))) (core cells slots place outer left) (core cells after place outer left)
    unfolding was now
    looks_some v e t = looks (Some v) e (λ nu f a. t.now nu a ∙ sym (look_some (path_in place.branch) (nu i) key (spec.props_in nu props) (named nu slots.keys slots.current) (val_in nu v) (found_in nu key props ∙ ap (option_map (val_in nu)) e)))

  -- ---- a property is set, deleted

  module _ (slots after : Slots) (more : Held) (e : Naming → Edit) (ps : Props) (is : more.now ≡ held.with_props cells.now i ps) (new_are : (nu : Naming) → spec.props_in nu ps ≡ new_props (e nu) (spec.props_in nu props))
      (w : (nu : Naming) → Fits nu (names_in cells.now) → TellsApart nu (length cells.now) → named nu after.keys after.current ≡ edited_watch (path_in place.branch) (nu i) (e nu) (spec.props_in nu props) (named nu slots.keys slots.current)) where
    abbrev pub old : Core
    old = core cells slots place outer left

    abbrev pub new : Core
    new = core more after place outer left

    pub keeps : Keeps old new
    keeps = record { path = refl; branch = refl; names = ap names_in is ∙ names_same cells.now i ps }

    pub edits : Edits i e old new
    edits = record { props = ps; cells = is; props_are = new_are; watch = w; made = refl }

    pub edited_goes : (paid : Bool) → ((nu : Naming) → if_paid paid (edit_cost (e nu) (spec.props_in nu props)) ≡ 0) → (r : Around) (nu : Naming) → Fits nu (names_in more.now)
        → comes_from (step (change paid (nu i) (e nu)) give) nu (seen_in r old) ≡ goes (says (e nu) (spec.props_in nu props)) (placed nu new (r.base nu)) left
    edited_goes paid free r nu f = edit_goes i e old new here whole edits keeps.names paid 0 free (omega arith) (omega arith) r nu f

  module _ (n : CellName) (maker : slice_get (names_of cells.now) i ≡ Some n) where
    home_is : (nu : Naming) → Fits nu (names_in cells.now) → path_in n.scope ≡ home (nu i)
    home_is nu f = ap home (sym (f.agrees i (name_in n) (name_at cells.now i n maker)))

    written : (slots after : Slots) (x : (ℕ → Name) → Slot) → Turns (λ nu w. after_write (path_in place.branch) (path_in n.scope) (x nu) w) (length cells.now) slots after
        → (nu : Naming) → Fits nu (names_in cells.now) → TellsApart nu (length cells.now)
        → named nu after.keys after.current ≡ after_write (path_in place.branch) (home (nu i)) (x nu) (named nu slots.keys slots.current)
    written slots after x t nu f a = t.now nu a ∙ ap (λ m. after_write (path_in place.branch) m (x nu) (named nu slots.keys slots.current)) (home_is nu f)

    pub sets_there : (v : Value) (slots after : Slots) (more : Held) → IsSome (own cells.now i key) → more.now ≡ held.with_props cells.now i (set_value (key_eq key) (props_at cells.now i) v)
        → Turns (λ nu w. after_write (path_in place.branch) (path_in n.scope) (slot (nu i) (at key)) w) (length cells.now) slots after
        → Works (λ nu. step (change true (nu i) (put key (val_in nu v))) give) (λ nu. Says tt) (core cells slots place outer left) (core more after place outer left)
    sets_there v slots after more there is t =
        let u = some_of (own cells.now i key) there in
        let found_is = λ (nu : Naming). found_in nu key props ∙ ap (option_map (val_in nu)) u.1 in
        let w = λ (nu : Naming) (f : Fits nu (names_in cells.now)) (a : TellsApart nu (length cells.now)).
        written slots after (λ nu. slot (nu i) (at key)) t nu f a
        ∙ sym (put_some (path_in place.branch) (nu i) key (spec.props_in nu props) (named nu slots.keys slots.current) (val_in nu u.0) (val_in nu v) (found_is nu)) in
        let e = λ (nu : Naming). put key (val_in nu v) in
        let ps = set_value (key_eq key) props v in
        let new_are = λ (nu : Naming). sym (set_there nu key v props there) in
        works_one (λ nu. step (change true (nu i) (put key (val_in nu v))) give) (λ nu. tt) (core cells slots place outer left) (core more after place outer left) (keeps slots after more e ps is new_are w)
        (edited_goes slots after more e ps is new_are w true (λ nu. ap created (found_is nu)))

    pub creates : (v : Value) (slots mid after : Slots) (more : Held) → own cells.now i key ≡ None → more.now ≡ held.with_props cells.now i (props_at cells.now i ++ (key, v) ∷ [])
        → Turns (λ nu w. after_write (path_in place.branch) (path_in n.scope) (slot (nu i) (at key)) w) (length cells.now) slots mid
        → Turns (λ nu w. after_write (path_in place.branch) (path_in n.scope) (slot (nu i) shape) w) (length cells.now) mid after
        → Works (λ nu. step (change false (nu i) (put key (val_in nu v))) give) (λ nu. Says tt) (core cells slots place outer left) (core more after place outer left)
    creates v slots mid after more missing is t u =
        let found_is = λ (nu : Naming). found_in nu key props ∙ ap (option_map (val_in nu)) missing in
        let w = λ (nu : Naming) (f : Fits nu (names_in cells.now)) (a : TellsApart nu (length cells.now)).
        written mid after (λ nu. slot (nu i) shape) u nu f a
        ∙ ap (λ (w : Watch). after_write (path_in place.branch) (home (nu i)) (slot (nu i) shape) w) (written slots mid (λ nu. slot (nu i) (at key)) t nu f a)
        ∙ sym (put_none (path_in place.branch) (nu i) key (spec.props_in nu props) (named nu slots.keys slots.current) (val_in nu v) (found_is nu)) in
        let e = λ (nu : Naming). put key (val_in nu v) in
        let ps = props ++ (key, v) ∷ [] in
        let new_are = λ (nu : Naming). sym (set_new nu key v props missing) in
        works_one (λ nu. step (change false (nu i) (put key (val_in nu v))) give) (λ nu. tt) (core cells slots place outer left) (core more after place outer left) (keeps slots after more e ps is new_are w)
        (edited_goes slots after more e ps is new_are w false (λ nu. refl))

    pub drops : (slots mid after : Slots) (more : Held) → IsDistinct key_eq (std.keys_of (props_at cells.now i)) → IsSome (own cells.now i key) → more.now ≡ held.with_props cells.now i (remove_entry (key_eq key) (props_at cells.now i))
        → Turns (λ nu w. after_write (path_in place.branch) (path_in n.scope) (slot (nu i) (at key)) w) (length cells.now) slots mid
        → Turns (λ nu w. after_write (path_in place.branch) (path_in n.scope) (slot (nu i) shape) w) (length cells.now) mid after
        → Works (λ nu. step (change true (nu i) (remove key)) give) (λ nu. Says tt) (core cells slots place outer left) (core more after place outer left)
    drops slots mid after more distinct there is t u =
        let v = some_of (own cells.now i key) there in
        let found_is = λ (nu : Naming). found_in nu key props ∙ ap (option_map (val_in nu)) v.1 in
        let w = λ (nu : Naming) (f : Fits nu (names_in cells.now)) (a : TellsApart nu (length cells.now)).
        written mid after (λ nu. slot (nu i) shape) u nu f a
        ∙ ap (λ (w : Watch). after_write (path_in place.branch) (home (nu i)) (slot (nu i) shape) w) (written slots mid (λ nu. slot (nu i) (at key)) t nu f a)
        ∙ sym (remove_some (path_in place.branch) (nu i) key (spec.props_in nu props) (named nu slots.keys slots.current) (val_in nu v.0) (found_is nu)) in
        let e = λ (nu : Naming). remove key in
        let ps = remove_entry (key_eq key) props in
        let new_are = λ (nu : Naming). sym (drop_in nu key props distinct) in
        works_one (λ nu. step (change true (nu i) (remove key)) give) (λ nu. tt) (core cells slots place outer left) (core more after place outer left) (keeps slots after more e ps is new_are w)
        (edited_goes slots after more e ps is new_are w true (λ nu. refl))

  -- ---- the shape alone is touched

  module _ (slots after : Slots) (t : Turns (λ nu w. after_touch (path_in place.branch) (slot (nu i) shape) w) (length cells.now) slots after) where
    pub drops_none : own cells.now i key ≡ None → Works (λ nu. step (change true (nu i) (remove key)) give) (λ nu. Says tt) (core cells slots place outer left) (core cells after place outer left)
    drops_none missing =
        let found_is = λ (nu : Naming). found_in nu key props ∙ ap (option_map (val_in nu)) missing in
        let w = λ (nu : Naming) (f : Fits nu (names_in cells.now)) (a : TellsApart nu (length cells.now)).
        t.now nu a ∙ sym (remove_none (path_in place.branch) (nu i) key (spec.props_in nu props) (named nu slots.keys slots.current) (found_is nu)) in
        let e = λ (nu : Naming). remove key in
        let is = sym (with_same cells.now i) in
        let new_are = λ (nu : Naming). sym (drop_missing nu key props missing) in
        works_one (λ nu. step (change true (nu i) (remove key)) give) (λ nu. tt) (core cells slots place outer left) (core cells after place outer left) (keeps slots after cells e props is new_are w)
        (edited_goes slots after cells e props is new_are w true (λ nu. refl))

    pub lists : Works (λ nu. step (change true (nu i) list) give) (λ nu. Says (std.keys_of (props_at cells.now i))) (core cells slots place outer left) (core cells after place outer left)
    lists =
        let w = λ (nu : Naming) (f : Fits nu (names_in cells.now)) (a : TellsApart nu (length cells.now)).
        t.now nu a ∙ sym (list_watch (path_in place.branch) (nu i) (spec.props_in nu props) (named nu slots.keys slots.current)) in
        let e = λ (nu : Naming). list in
        let is = sym (with_same cells.now i) in
        works_one (λ nu. step (change true (nu i) list) give) (λ nu. std.keys_of props) (core cells slots place outer left) (core cells after place outer left) (keeps slots after cells e props is (λ nu. refl) w)
        (λ r nu f. edited_goes slots after cells e props is (λ nu. refl) w true (λ nu. refl) r nu f ∙ ap (λ ks. goes ks (placed nu (core cells after place outer left) (r.base nu)) left) (keys_in nu props))

-- ---- a property that is missing is paid

module _ (old : Core) (whole : IsWhole old.cells.now) (i : ℕ) (here : i < count old) (key : Key) (v : Value) (missing : own old.cells.now i key ≡ None) where
  cost_is : (nu : Naming) → edit_cost (put key (val_in nu v)) (spec.props_in nu (props_at old.cells.now i)) ≡ 1
  cost_is nu = ap created (found_in nu key (props_at old.cells.now i) ∙ ap (option_map (val_in nu)) missing)

  pub set_spends : old.left < 1 → Works (λ nu. step (change true (nu i) (put key (val_in nu v))) give) (λ nu. Spends) old old
  set_spends h = works_spends (λ nu. step (change true (nu i) (put key (val_in nu v))) give) old
      (λ r nu f. edit_spends i (λ nu. put key (val_in nu v)) old here whole true (λ nu. subst (λ c. old.left < c) (sym (cost_is nu)) h) r nu f)

  pub set_paid : (said : Naming → Told (Unit {0})) (new : Core) → 1 ≤ old.left → Works (λ nu. step (change false (nu i) (put key (val_in nu v))) give) said (record old { left = old.left - 1 }) new
      → Works (λ nu. step (change true (nu i) (put key (val_in nu v))) give) said old new
  set_paid said new h y = record {
    all = λ r.
        let l = y.all r in
        record {
          stays = record { scope = l.stays.scope; outer = l.stays.outer; grows = l.stays.grows; below = l.stays.below };
          did = λ nu fits.
              let a = tells nu old.cells.now whole (fits_before nu (names_in old.cells.now) (names_in new.cells.now) l.stays.grows fits) in
              subst (λ c. Did c (said nu) (placed nu new (r.base nu)) new.left)
              (sym (paid_same (nu i) (put key (val_in nu v)) (path_in old.place.path) (path_in old.place.branch) r.body (placed nu old (r.base nu)) old.left
              (ap (edit_cost (put key (val_in nu v))) (props_here nu old.cells.now a i here) ∙ cost_is nu) h))
              (l.did nu fits);
        };
  }
