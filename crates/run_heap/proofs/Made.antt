-- A cell is made.
use Rattle.std.proofs.Common.{◌≡◌, refl, ap, sym, ◌∙◌, subst, ℕ, zero, suc, ◌+◌, ◌-◌, ◌<◌, ◌≤◌, nat_lt, Bool, true, false, List, [], ◌∷◌, ◌++◌, length, Option, Some, None, slice_get, map, arith, length-append}
use Rattle.std.proofs.lemmas.List.{map-append, length-map}
use Rattle.std.proofs.lemmas.Option.{slice_get_within}
use Rattle.turk_base.specs.Names.{Path, sub, path_in, Name, cell, home, pick, name_eq, Under, self}
use Rattle.turk_base.specs.Values as model
use Rattle.turk_base.specs.Values.{Val, Known, Kind, Property, property}
use Rattle.turk_base.specs.State.{St, make, Act, gives, act, act_make, act_chained, make_cell, first_props, op_cost, if_paid, with_props}
use Rattle.turk_base.specs.Steps.{Small, give, step}
use Rattle.value_cells.specs.declared.Value.{Value}
use Rattle.value_cells.specs.declared.CellName.{CellName}
use Rattle.value_cells.specs.declared.CellKind.{CellKind}
use Rattle.value_cells.specs.declared.CellKind.TheVariants.{Frame, Plain, Array, Function, BuiltIn}
use Rattle.value_cells.specs.Needs.{kind_needs}
use Rattle.value_cells.specs.Comes.{Comes, goes, comes}
use Rattle.value_cells.specs.Held.{Cell, Held, Props, names_of, kinds_of, props_at, IsWhole}
use Rattle.value_cells.specs.Seen.{Naming, Fits, Grows, name_in, val_in, kind_in}
use Rattle.value_cells.specs.Does.{Told, Says, Stays, comes_from}
use Rattle.value_cells.proofs.Lists.{get_front, get_last, pushed}
use Rattle.value_cells.proofs.Turns.{fits_before}
use Rattle.run_heap.specs.declared.Place.{Place}
use Rattle.run_heap.specs.Core.{Core, count, names_in}
use Rattle.run_heap.specs.Placed.{placed, Around, seen_in, props_in, known_one, known_of, props_of, chain_from, chain_of, above, table}
use Rattle.run_heap.specs.Works.{Performs, Works}
use Rattle.run_heap.specs.Making.{Adds, AddsAt, IsBare, array_props}
use Rattle.branch_check.specs.Watch.{Watch}
use Rattle.slot_watch.specs.Slots.{Slots}
use Rattle.slot_watch.specs.Named.{named}
use Rattle.run_heap.proofs.Tables.{there, table_same, tells, known_here, count_names, kind_there}
use Rattle.run_heap.proofs.Chains.{chain_up, chain_plain, chain_frame, chain_array, chain_function, chain_built_in}
use Rattle.branch_check.specs.Watch.{watch_of}
use Rattle.slot_watch.specs.Named.{cell_number, number_of_cell}
use Rattle.slot_watch.specs.Within.{CellsWithin}
use Rattle.slot_watch.proofs.Renaming.{holds_of}
use Rattle.value_cells.specs.Does.{Spends, Fails, Did, told, told_stop}
use Rattle.std.specs.Prelude.{Result, Ok, Err, IfOk, IfErr}
use Rattle.value_cells.specs.declared.OpStop.{OpStop}
use Rattle.value_cells.specs.declared.OpStop.TheVariants.{Memory}
use Rattle.value_cells.specs.Held as held
use Rattle.turk_base.specs.Steps.{steps_of}
use Rattle.turk_base.specs.Prog.{Make}
use Rattle.run_heap.specs.Whole.{IsCore}
use Rattle.run_heap.proofs.Tables.{path_apart, name_at}
use Rattle.run_heap.proofs.Scoping.{no_loop}
use Rattle.run_heap.proofs.Turn.{works_spends, works_fails, keeps_same}
use Rattle.run_heap.proofs.Acts.{step_goes, step_spends, made_same}

chain_push : (kinds : List CellKind) (older : (i : ℕ) (k : CellKind) → slice_get kinds i ≡ Some k → kind_needs k ≤ i) (k : CellKind) (d i : ℕ) → i < length kinds → chain_from (kinds ++ k ∷ []) d i ≡ chain_from kinds d i
chain_push kinds older k zero i h = refl
chain_push kinds older k (suc d) i h = by (slice_get kinds i) refl (chain_push kinds older k d)
  where
    front : (x : CellKind) → slice_get kinds i ≡ Some x → above (slice_get (kinds ++ k ∷ []) i) (chain_from (kinds ++ k ∷ []) d) ≡ above (Some x) (chain_from (kinds ++ k ∷ []) d)
    front x e = ap (λ o. above o (chain_from (kinds ++ k ∷ []) d)) (get_front kinds (k ∷ []) i x e)

    back : (x : CellKind) → slice_get kinds i ≡ Some x → above (Some x) (chain_from kinds d) ≡ above (slice_get kinds i) (chain_from kinds d)
    back x e = sym (ap (λ o. above o (chain_from kinds d)) e)

    by : (o : Option CellKind) → slice_get kinds i ≡ o → ((j : ℕ) → j < length kinds → chain_from (kinds ++ k ∷ []) d j ≡ chain_from kinds d j)
        → above (slice_get (kinds ++ k ∷ []) i) (chain_from (kinds ++ k ∷ []) d) ≡ above (slice_get kinds i) (chain_from kinds d)
    by None e r = let t = there kinds i h in let z : Some t.0 ≡ None = sym t.1 ∙ e in cc
    by (Some (Frame p)) e r = front (Frame p) e ∙ back (Frame p) e
    by (Some (Plain None)) e r = front (Plain None) e ∙ back (Plain None) e
    by (Some (Plain (Some p))) e r =
        let o = older i (Plain (Some p)) e in
        front (Plain (Some p)) e ∙ ap (λ l. p ∷ l) (r p (omega (arith, o, h))) ∙ back (Plain (Some p)) e
    by (Some Array) e r = front Array e ∙ back Array e
    by (Some (Function n f)) e r = front (Function n f) e ∙ back (Function n f) e
    by (Some (BuiltIn w)) e r = front (BuiltIn w) e ∙ back (BuiltIn w) e

same_at : (cells : List Cell) (c : Cell) (i : ℕ) → i < length cells → props_at (cells ++ c ∷ []) i ≡ props_at cells i
same_at [] c i h = absurd (omega arith)
same_at (d ∷ cells) c zero h = refl
same_at (d ∷ cells) c (suc i) h = same_at cells c i (omega arith)

last_at : (cells : List Cell) (c : Cell) → props_at (cells ++ c ∷ []) (length cells) ≡ c.props
last_at [] c = refl
last_at (d ∷ cells) c = last_at cells c

module _ (nu : Naming) (cells : List Cell) (whole : IsWhole cells) (c : Cell) where
  kinds : List CellKind
  kinds = kinds_of cells

  long_kinds : length kinds ≡ length cells
  unfolding kinds
  long_kinds = length-map cells (λ c. c.kind)

  long : length (cells ++ c ∷ []) ≡ suc (length cells)
  long = length-append cells (c ∷ []) ∙ omega arith

  all : List CellKind → ℕ → Name → Option Known
  all ks n m = table nu (λ i. known_one nu ks i (slice_get ks i)) None n m

  known_push : (m : Name) → known_of nu (cells ++ c ∷ []) m ≡ pick (name_eq m (nu (length cells))) (Some (record { kind = kind_in nu c.kind; chain = map nu (chain_of (kinds ++ c.kind ∷ []) (length cells)) })) (known_of nu cells m)
  unfolding kinds all
  known_push m =
      let ks = kinds ++ c.kind ∷ [] in
      let last : slice_get ks (length cells) ≡ Some c.kind = ap (slice_get ks) (sym long_kinds) ∙ get_last kinds c.kind in
      let same : (i : ℕ) → i < length cells → known_one nu ks i (slice_get ks i) ≡ known_one nu kinds i (slice_get kinds i) = λ i h.
      let t = there kinds i (omega (arith, h, long_kinds)) in
      ap (known_one nu ks i) (get_front kinds (c.kind ∷ []) i t.0 t.1)
      ∙ ap (λ ch. Some (record { kind = kind_in nu t.0; chain = map nu ch })) (chain_push kinds whole.older c.kind (suc i) i (omega (arith, h, long_kinds)))
      ∙ sym (ap (known_one nu kinds i) t.1) in
      (λ x. all (map-append (λ (c : Cell). c.kind) cells (c ∷ []) x) (long x) m)
      ∙ (λ x. pick (name_eq m (nu (length cells))) (known_one nu ks (length cells) (last x)) (table_same nu None (λ i. known_one nu ks i (slice_get ks i)) (λ i. known_one nu kinds i (slice_get kinds i)) (length cells) same m x))

  props_push : (m : Name) → props_of nu (cells ++ c ∷ []) m ≡ pick (name_eq m (nu (length cells))) (props_in nu c.props) (props_of nu cells m)
  props_push m =
      ap (λ n. table nu (λ i. props_in nu (props_at (cells ++ c ∷ []) i)) [] n m) long
      ∙ (λ x. pick (name_eq m (nu (length cells))) (props_in nu (last_at cells c x))
      (table_same nu [] (λ i. props_in nu (props_at (cells ++ c ∷ []) i)) (λ i. props_in nu (props_at cells i)) (length cells) (λ i h. ap (props_in nu) (same_at cells c i h)) m x))

module _ (c : Cell) (old new : Core) (whole : IsWhole old.cells.now) (h : Adds c old new) where
  names_push : names_in new.cells.now ≡ names_in old.cells.now ++ name_in c.name ∷ []
  names_push = ap names_in h.cells ∙ ap (map name_in) (map-append (λ (c : Cell). c.name) old.cells.now (c ∷ [])) ∙ map-append name_in (names_of old.cells.now) (c.name ∷ [])

  name_is : name_in c.name ≡ cell (path_in old.place.path) old.place.made
  name_is = λ i. cell (path_in (h.scope i)) (h.number i)

  pub adds_stays : (r : Around) → Stays (seen_in r old) (seen_in r new)
  adds_stays r = record {
    scope = λ i. record { path = path_in (h.path i); branch = path_in (h.branch i); body = r.body; back = r.back };
    outer = refl;
    grows = λ i n e. ap (λ l. slice_get l i) names_push ∙ get_front (names_in old.cells.now) (name_in c.name ∷ []) i n e;
    below = λ i n e l.
        pushed (λ i n. length (names_in old.cells.now) ≤ i → Under (path_in old.place.path) (home n)) (names_in old.cells.now) (name_in c.name)
        (λ i n e l. absurd (let w = slice_get_within (names_in old.cells.now) i n e in omega (arith, w, l)))
        (λ l. subst (λ p. Under (path_in old.place.path) p) (sym (ap home name_is)) self) i n (ap (λ l. slice_get l i) (sym names_push) ∙ e) l;
  }

  module _ (nu : Naming) (fits : Fits nu (names_in new.cells.now)) where
    at_last : nu (length old.cells.now) ≡ cell (path_in old.place.path) old.place.made
    at_last =
        fits.agrees (length old.cells.now) (name_in c.name)
        (ap (λ l. slice_get l (length old.cells.now)) names_push ∙ ap (slice_get (names_in old.cells.now ++ name_in c.name ∷ [])) (sym (count_names old.cells.now)) ∙ get_last (names_in old.cells.now) (name_in c.name))
        ∙ name_is

    before : Fits nu (names_in old.cells.now)
    before = fits_before nu (names_in old.cells.now) (names_in new.cells.now) (λ i n e. ap (λ l. slice_get l i) names_push ∙ get_front (names_in old.cells.now) (name_in c.name ∷ []) i n e) fits

    module _ (σ : St) (first : first_props (kind_in nu c.kind) ≡ props_in nu c.props) where
      made_is : (chain : List Name) → map nu (chain_of (kinds_of old.cells.now ++ c.kind ∷ []) (length old.cells.now)) ≡ chain
          → gives (cell (path_in old.place.path) old.place.made) (make_cell (path_in old.place.path) (kind_in nu c.kind) chain (placed nu old σ)) ≡ gives (nu (length old.cells.now)) (placed nu new σ)
      unfolding kinds
      made_is chain e =
          let s = path_in old.place.path in
          let n = sym at_last in
          let m = sym h.made in
          let w = ap (λ (w : Slots). (named nu w.keys w.current).opened) (sym h.slots) in
          let v = ap (λ (w : Slots). (named nu w.keys w.current).verdict) (sym h.slots) in
          let known : (λ (m : Name). pick (name_eq m (cell s old.place.made)) (Some (record { kind = kind_in nu c.kind; chain = chain })) (known_of nu old.cells.now m)) ≡ known_of nu new.cells.now =
          (λ x m. pick (name_eq m (n x)) (Some (record { kind = kind_in nu c.kind; chain = sym e x })) (known_of nu old.cells.now m))
          ∙ (λ x m. sym (known_push nu old.cells.now whole c m) x) ∙ ap (known_of nu) (sym h.cells) in
          let props : with_props (cell s old.place.made) (first_props (kind_in nu c.kind)) (props_of nu old.cells.now) ≡ props_of nu new.cells.now =
          (λ x m. pick (name_eq m (n x)) (first x) (props_of nu old.cells.now m))
          ∙ (λ x m. sym (props_push nu old.cells.now whole c m) x) ∙ ap (props_of nu) (sym h.cells) in
          λ x. gives (n x) (record { calls = σ.calls; cells = m x; vals = σ.vals; known = known x; props = props x; text = σ.text; opened = w x; verdict = v x; gone = σ.gone })

      older_all : kind_needs c.kind ≤ length (kinds_of old.cells.now) → (i : ℕ) (k : CellKind) → slice_get (kinds_of old.cells.now ++ c.kind ∷ []) i ≡ Some k → kind_needs k ≤ i
      older_all l i k e = pushed (λ i k. kind_needs k ≤ i) (kinds_of old.cells.now) c.kind whole.older l i k e

      kinds_long : length (kinds_of old.cells.now) ≡ length old.cells.now
      kinds_long = length-map old.cells.now (λ c. c.kind)

      last_kind : (k : CellKind) → c.kind ≡ k → slice_get (kinds_of old.cells.now ++ c.kind ∷ []) (length old.cells.now) ≡ Some k
      last_kind k e = ap (slice_get (kinds_of old.cells.now ++ c.kind ∷ [])) (sym kinds_long) ∙ get_last (kinds_of old.cells.now) c.kind ∙ ap Some e

      -- a kind without prototype
      alone : (k : CellKind) → c.kind ≡ k → chain_of (kinds_of old.cells.now ++ c.kind ∷ []) (length old.cells.now) ≡ []
          → act_make (path_in old.place.path) (kind_in nu k) (placed nu old σ) ≡ gives (cell (path_in old.place.path) old.place.made) (make_cell (path_in old.place.path) (kind_in nu k) [] (placed nu old σ))
          → act_make (path_in old.place.path) (kind_in nu c.kind) (placed nu old σ) ≡ gives (nu (length old.cells.now)) (placed nu new σ)
      alone k e chain acts =
          let s = path_in old.place.path in
          ap (λ k. act_make s (kind_in nu k) (placed nu old σ)) e ∙ acts
          ∙ ap (λ k. gives (cell s old.place.made) (make_cell s (kind_in nu k) [] (placed nu old σ))) (sym e) ∙ made_is [] (ap (map nu) chain)

      pub make_acts : kind_needs c.kind ≤ count old → act_make (path_in old.place.path) (kind_in nu c.kind) (placed nu old σ) ≡ gives (nu (length old.cells.now)) (placed nu new σ)
      make_acts l = by c.kind refl
        where
          up : kind_needs c.kind ≤ length (kinds_of old.cells.now)
          up = omega (arith, l, kinds_long)

          by : (k : CellKind) → c.kind ≡ k → act_make (path_in old.place.path) (kind_in nu c.kind) (placed nu old σ) ≡ gives (nu (length old.cells.now)) (placed nu new σ)
          by (Frame p) e = alone (Frame p) e (chain_frame (kinds_of old.cells.now ++ c.kind ∷ []) (older_all up) (length old.cells.now) p (last_kind (Frame p) e)) refl
          by (Plain None) e = alone (Plain None) e (chain_plain (kinds_of old.cells.now ++ c.kind ∷ []) (older_all up) (length old.cells.now) (last_kind (Plain None) e)) refl
          by (Plain (Some p)) e =
              let s = path_in old.place.path in
              let ks = kinds_of old.cells.now in
              let here : p < length old.cells.now = omega (arith, l, ap kind_needs e) in
              let kind = kind_there old.cells.now p here in
              let k = known_here nu old.cells.now (tells nu old.cells.now whole before) p here kind.0 kind.1 in
              let chain : chain_of (ks ++ c.kind ∷ []) (length old.cells.now) ≡ p ∷ chain_of ks p =
              chain_up (ks ++ c.kind ∷ []) (older_all up) (length old.cells.now) p (last_kind (Plain (Some p)) e) ∙ ap (λ l. p ∷ l) (chain_push ks whole.older c.kind (suc p) p (omega (arith, here, kinds_long))) in
              ap (λ k. act_make s (kind_in nu k) (placed nu old σ)) e
              ∙ ap (λ o. act_chained o (nu p) s (model.Plain (Some (nu p))) (placed nu old σ)) k
              ∙ ap (λ k. gives (cell s old.place.made) (make_cell s (kind_in nu k) (map nu (p ∷ chain_of ks p)) (placed nu old σ))) (sym e) ∙ made_is (map nu (p ∷ chain_of ks p)) (ap (map nu) chain)
          by Array e = alone Array e (chain_array (kinds_of old.cells.now ++ c.kind ∷ []) (older_all up) (length old.cells.now) (last_kind Array e)) refl
          by (Function n f) e = alone (Function n f) e (chain_function (kinds_of old.cells.now ++ c.kind ∷ []) (older_all up) (length old.cells.now) n f (last_kind (Function n f) e)) refl
          by (BuiltIn w) e = alone (BuiltIn w) e (chain_built_in (kinds_of old.cells.now ++ c.kind ∷ []) (older_all up) (length old.cells.now) w (last_kind (BuiltIn w) e)) refl

  -- the step, not charged
  pub add_works : kind_needs c.kind ≤ count old → ((nu : Naming) → first_props (kind_in nu c.kind) ≡ props_in nu c.props)
      → Works (λ nu. step (make false (kind_in nu c.kind)) give) (λ nu. Says (nu (count old))) old new
  unfolding act
  add_works l first = record {
    all = λ r. record {
      stays = adds_stays r;
      did = λ nu fits.
          step_goes (make false (kind_in nu c.kind)) (path_in old.place.path) (path_in old.place.branch) r.body (placed nu old (r.base nu)) old.left 0 (nu (count old)) (placed nu new (r.base nu)) refl (omega arith)
          (make_acts nu fits (r.base nu) (first nu) l)
          ∙ ap (goes (nu (count old)) (placed nu new (r.base nu))) (omega (arith, h.left));
    };
  }

  -- what is true of each heap
  pub add_core : IsCore old → (cells : new.cells.marks ≡ old.cells.marks) → new.outer ≡ old.outer → IsCore new
  add_core k marks outer = record {
    own = record {
      below = λ i m n e u. pushed (λ i n. Under (sub m (path_in new.place.path)) (home n) → m < new.place.calls) (names_in old.cells.now) (name_in c.name)
          (λ i n e u. let b = k.own.below i m n e (subst (λ p. Under (sub m (path_in p)) (home n)) h.path u) in omega (arith, b, h.calls))
          (λ u. absurd (no_loop (subst (λ p. Under (sub m (path_in p)) (path_in old.place.path)) h.path (subst (λ p. Under (sub m (path_in new.place.path)) p) (ap home name_is) u)))) i n (ap (λ l. slice_get l i) (sym names_push) ∙ e) u;
      own = λ i n e s. pushed (λ i n. home n ≡ path_in new.place.path → cell_number n < new.place.made) (names_in old.cells.now) (name_in c.name)
          (λ i n e s. let o = k.own.own i n e (s ∙ ap path_in h.path) in omega (arith, o, h.made))
          (λ s. omega (arith, h.number, h.made)) i n (ap (λ l. slice_get l i) (sym names_push) ∙ e) s;
    };
    others = λ j o g. record {
      below = λ i m n e u. pushed (λ i n. Under (sub m (path_in o.path)) (home n) → m < o.calls) (names_in old.cells.now) (name_in c.name)
          (λ i n e u. (k.others j o (ap (λ l. slice_get l j) (sym outer) ∙ g)).below i m n e u)
          (λ u. k.nested.inside j m o (ap (λ l. slice_get l j) (sym outer) ∙ g) (subst (λ p. Under (sub m (path_in o.path)) p) (ap home name_is) u)) i n (ap (λ l. slice_get l i) (sym names_push) ∙ e) u;
      own = λ i n e s. pushed (λ i n. home n ≡ path_in o.path → cell_number n < o.made) (names_in old.cells.now) (name_in c.name)
          (λ i n e s. (k.others j o (ap (λ l. slice_get l j) (sym outer) ∙ g)).own i n e s)
          (λ s. absurd (let q = path_apart o.path old.place.path (sym s ∙ ap home name_is) in let t = k.nested.shorter j o (ap (λ l. slice_get l j) (sym outer) ∙ g) in omega (arith, t, ap length q))) i n (ap (λ l. slice_get l i) (sym names_push) ∙ e) s;
    };
    nested = record {
      shorter = λ i o e. subst (λ p. length o.path < length p) (sym h.path) (k.nested.shorter i o (ap (λ l. slice_get l i) (sym outer) ∙ e));
      apart = λ i j o p l e f. k.nested.apart i j o p l (ap (λ l. slice_get l i) (sym outer) ∙ e) (ap (λ l. slice_get l j) (sym outer) ∙ f);
      inside = λ i m o e u. k.nested.inside i m o (ap (λ l. slice_get l i) (sym outer) ∙ e) (subst (λ p. Under (sub m (path_in o.path)) (path_in p)) h.path u);
      between = λ i j m o p l e f. k.nested.between i j m o p l (ap (λ l. slice_get l i) (sym outer) ∙ e) (ap (λ l. slice_get l j) (sym outer) ∙ f);
      branches = λ i o e. k.nested.branches i o (ap (λ l. slice_get l i) (sym outer) ∙ e);
      here = subst (λ b. Under (path_in b) (path_in new.place.path)) (sym h.branch) (subst (λ p. Under (path_in old.place.branch) (path_in p)) (sym h.path) k.nested.here);
    };
    marked = record {
      first = λ i a e j n f. ap (λ l. slice_get l j) names_push ∙ get_front (names_in old.cells.now) (name_in c.name ∷ []) j n (k.marked.first i a (ap (λ l. slice_get l i) (sym marks) ∙ e) j n f);
      before = λ i j a b l e f. k.marked.before i j a b l (ap (λ l. slice_get l i) (sym marks) ∙ e) (ap (λ l. slice_get l j) (sym marks) ∙ f);
      within = λ i a q e f. k.marked.within i a q (ap (λ l. slice_get l i) (sym marks) ∙ e) (ap (λ (s : Slots). slice_get s.marks i) (sym h.slots) ∙ f);
    };
    within = subst (λ (s : Slots). CellsWithin (length new.cells.now) s.current) (sym h.slots)
        (holds_of (λ x. number_of_cell x < length old.cells.now) (λ x. number_of_cell x < length new.cells.now) (λ x w. omega (arith, w, ap length h.cells, length-append old.cells.now (c ∷ []))) (watch_of old.slots.current) k.within);
    as_many_cells = ap length marks ∙ k.as_many_cells ∙ ap length (sym outer);
    as_many_slots = ap (λ (s : Slots). length s.marks) h.slots ∙ k.as_many_slots ∙ ap length (sym outer);
  }

-- ---- the making is paid

pub make_spends : (old : Core) (kind : CellKind) → old.left < 1 → Works (λ nu. step (make true (kind_in nu kind)) give) (λ nu. Spends) old old
make_spends old kind h = works_spends (λ nu. step (make true (kind_in nu kind)) give) old
    (λ r nu f. step_spends (make true (kind_in nu kind)) (path_in old.place.path) (path_in old.place.branch) r.body (placed nu old (r.base nu)) old.left h)

pub make_paid : (old new : Core) (kind : CellKind) (said : Naming → Told Name) → 1 ≤ old.left → Works (λ nu. step (make false (kind_in nu kind)) give) said (record old { left = old.left - 1 }) new
    → Works (λ nu. step (make true (kind_in nu kind)) give) said old new
make_paid old new kind said h y = record {
  all = λ r.
      let l = y.all r in
      record {
        stays = record { scope = l.stays.scope; outer = l.stays.outer; grows = l.stays.grows; below = l.stays.below };
        did = λ nu fits. subst (λ c. Did c (said nu) (placed nu new (r.base nu)) new.left)
            (sym (made_same (kind_in nu kind) (path_in old.place.path) (path_in old.place.branch) r.body (placed nu old (r.base nu)) old.left h)) (l.did nu fits);
      };
}

-- the next name is new
pub fresh_name : (core : Core) → IsCore core → (n : CellName) → n.scope ≡ core.place.path → n.number ≡ core.place.made → (i : ℕ) → slice_get (names_of core.cells.now) i ≡ Some n → ⊥
fresh_name core k n scope number i e = let o = k.own.own i (name_in n) (name_at core.cells.now i n e) (ap path_in scope) in omega (arith, o, number)

-- ---- what the code tells of a cell that is added

pub adds_count : (c : Cell) (old new : Core) → Adds c old new → count new ≡ suc (count old)
adds_count c old new h = ap length h.cells ∙ length-append old.cells.now (c ∷ []) ∙ omega arith

bare_props : (kind : CellKind) → IsBare kind → (nu : Naming) → first_props (kind_in nu kind) ≡ []
bare_props (Frame p) h nu = refl
bare_props (Plain p) h nu = refl
bare_props Array h nu = absurd h
bare_props (Function n f) h nu = refl
bare_props (BuiltIn w) h nu = refl

at_works : (kind : CellKind) (ps : Props) (number : ℕ) (old new : Core) → IsWhole old.cells.now → kind_needs kind ≤ count old → ((nu : Naming) → first_props (kind_in nu kind) ≡ props_in nu ps) → AddsAt kind ps number old new
    → Works (λ nu. step (make false (kind_in nu kind)) give) (λ nu. Says (nu number)) old new
at_works kind ps number old new whole l first a =
    let w = add_works a.what old new whole a.adds (omega (arith, l, ap kind_needs a.kind_is)) (λ nu. ap (λ k. first_props (kind_in nu k)) a.kind_is ∙ first nu ∙ ap (props_in nu) (sym a.props_are)) in
    subst (λ k. Works (λ nu. step (make false (kind_in nu k)) give) (λ nu. Says (nu number)) old new) a.kind_is
    (subst (λ n. Works (λ nu. step (make false (kind_in nu a.what.kind)) give) (λ nu. Says (nu n)) old new) (sym a.number_is) w)

pub bare_works : (kind : CellKind) (r : Result ℕ OpStop) (old new : Core) → IsWhole old.cells.now → IsBare kind → kind_needs kind ≤ count old → IfOk r (λ n. AddsAt kind [] n old new)
    → IfErr r (λ e. (e ≡ Memory) × (new ≡ old)) → Works (λ nu. step (make false (kind_in nu kind)) give) (λ nu. told nu r) old new
bare_works kind (Ok n) old new whole bare l a h = at_works kind [] n old new whole l (bare_props kind bare) a
bare_works kind (Err e) old new whole bare l a h =
    let g = λ (nu : Naming). step (make false (kind_in nu kind)) give in
    subst (λ e. Works g (λ nu. told_stop e) old new) (sym h.0) (subst (λ s. Works g (λ nu. Fails) old s) (sym h.1) (works_fails g old old (keeps_same old)))

with_last : (cells : List Cell) (c : Cell) (ps : Props) → held.with_props (cells ++ c ∷ []) (length cells) ps ≡ cells ++ record c { props = ps } ∷ []
with_last [] c ps = refl
with_last (d ∷ cells) c ps = ap (λ l. d ∷ l) (with_last cells c ps)

-- its length begins an array
pub array_adds : (number : ℕ) (old mid new : Core) → AddsAt Array [] number old mid → new ≡ record mid { cells = record mid.cells { now = held.with_props mid.cells.now number array_props } }
    → AddsAt Array array_props number old new
array_adds number old mid new a e = record {
  what = record a.what { props = array_props };
  kind_is = a.kind_is;
  props_are = refl;
  adds = record {
    cells = ap (λ (s : Core). s.cells.now) e ∙ (λ i. held.with_props (a.adds.cells i) (a.number_is i) array_props) ∙ with_last old.cells.now a.what array_props;
    slots = ap (λ (s : Core). s.slots) e ∙ a.adds.slots;
    made = ap (λ (s : Core). s.place.made) e ∙ a.adds.made;
    path = ap (λ (s : Core). s.place.path) e ∙ a.adds.path;
    branch = ap (λ (s : Core). s.place.branch) e ∙ a.adds.branch;
    calls = ap (λ (s : Core). s.place.calls) e ∙ a.adds.calls;
    left = ap (λ (s : Core). s.left) e ∙ a.adds.left;
    scope = a.adds.scope;
    number = a.adds.number;
  };
  number_is = a.number_is;
}

pub array_works : (number : ℕ) (old mid new : Core) → IsWhole old.cells.now → AddsAt Array [] number old mid → new ≡ record mid { cells = record mid.cells { now = held.with_props mid.cells.now number array_props } }
    → Works (λ nu. step (make false (kind_in nu Array)) give) (λ nu. Says (nu number)) old new
array_works number old mid new whole a e = at_works Array array_props number old new whole (omega arith) (λ nu. refl) (array_adds number old mid new a e)

pub array_fails : {B : Type 0} (number : ℕ) (old mid : Core) → IsWhole old.cells.now → AddsAt Array [] number old mid → (g : Naming → Small B) → Works g (λ nu. Fails) old mid
array_fails number old mid whole a g = record { all = λ r. record { stays = adds_stays a.what old mid whole a.adds r; did = λ nu f. tt } }

-- the cell that was made last has no property yet
pub last_bare : (kind : CellKind) (number : ℕ) (old new : Core) → AddsAt kind [] number old new → props_at new.cells.now number ≡ []
last_bare kind number old new a = (λ i. props_at (a.adds.cells i) (a.number_is i)) ∙ last_at old.cells.now a.what ∙ a.props_are

pub makes_spends : (old : Core) (kind : CellKind) → old.left < 1 → Works (λ nu. steps_of (Make (kind_in nu kind))) (λ nu. Spends) old old
unfolding steps_of
makes_spends old kind h = make_spends old kind h

pub makes_paid : (old new : Core) (kind : CellKind) (said : Naming → Told Name) → 1 ≤ old.left → Works (λ nu. step (make false (kind_in nu kind)) give) said (record old { left = old.left - 1 }) new
    → Works (λ nu. steps_of (Make (kind_in nu kind))) said old new
unfolding steps_of
makes_paid old new kind said h y = make_paid old new kind said h y
