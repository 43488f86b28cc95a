-- What is true of every machine as it is seen.
use Rattle.std.specs.Prelude.{IsSome}
use Rattle.std.proofs.Common.{◌≡◌, refl, ap, sym, ◌∙◌, true, false, ℕ, zero, suc, ◌<◌, ◌≤◌, List, [], ◌∷◌, length, Option, Some, None, map, slice_get, subst, arith}
use Rattle.std.proofs.lemmas.Option.{slice_get_within}
use Rattle.std.proofs.lemmas.List.{length-map}
use Rattle.turk_base.specs.Names.{Name, name_eq, pick, Slot, slot}
use Rattle.turk_base.specs.Values as model
use Rattle.turk_base.specs.Values.{Known, Property, property}
use Rattle.turk_base.specs.State.{St}
use Rattle.branch_check.specs.Watch.{Watch, watch_of}
use Rattle.slot_watch.specs.Keys.{part_in}
use Rattle.slot_watch.specs.Named.{named, by_names, number_of_cell, number_of_key}
use Rattle.slot_watch.proofs.Renaming.{alike, holds_of}
use Rattle.value_cells.specs.declared.Value.{Value}
use Rattle.value_cells.specs.declared.Value.TheVariants.{Undefined, Null, Truth, Number, Text, Object}
use Rattle.value_cells.specs.declared.CellKind.{CellKind}
use Rattle.value_cells.specs.declared.CellKind.TheVariants.{Frame, Plain, Array, Function, BuiltIn}
use Rattle.value_cells.specs.Needs.{needs, all_needs, kind_needs, props_needs}
use Rattle.value_cells.specs.Held.{Cell, Props, names_of, kinds_of, props_in, props_at, IsWhole}
use Rattle.value_cells.specs.Seen.{Naming, name_in, val_in, kind_in}
use Rattle.run_heap.specs.Core.{names_in}
use Rattle.run_heap.specs.Placed as placed
use Rattle.run_heap.specs.Placed.{table, known_one, known_of, props_of, chain_from, chain_of, above}
use Rattle.run_heap.specs.Whole.{IsCore}
use Rattle.run_heap.proofs.Tables.{there, name_at, name_apart, count_names, kind_there}
use Rattle.eval_ops.specs.Run.{Run, seen_of}
use Rattle.eval_ops.specs.Stored.{IsRun}
use Rattle.eval_ops.specs.Looks.{IsTold}

-- ---- two namings that agree on the first n cells

module _ (nu mu : Naming) (n : ℕ) (agree : (i : ℕ) → i < n → nu i ≡ mu i) where
  val_as : (v : Value) → needs v ≤ n → val_in nu v ≡ val_in mu v
  val_as Undefined h = refl
  val_as Null h = refl
  val_as (Truth b) h = refl
  val_as (Number z) h = refl
  val_as (Text t) h = refl
  val_as (Object i) h = ap model.Object (agree i (omega (arith, h)))

  vals_as : (vs : List Value) → all_needs vs ≤ n → map (val_in nu) vs ≡ map (val_in mu) vs
  vals_as [] h = refl
  vals_as (v ∷ vs) h =
      let a = val_as v (omega (arith, h)) in
      let r = vals_as vs (omega (arith, h)) in
      λ i. a i ∷ r i

  props_as : (ps : Props) → props_needs ps ≤ n → placed.props_in nu ps ≡ placed.props_in mu ps
  props_as [] h = refl
  props_as (p ∷ ps) h =
      let a = val_as p.1 (omega (arith, h)) in
      let r = props_as ps (omega (arith, h)) in
      λ i. property p.0 (a i) ∷ r i

  kind_as : (k : CellKind) → kind_needs k ≤ n → kind_in nu k ≡ kind_in mu k
  kind_as (Frame None) h = refl
  kind_as (Frame (Some p)) h = ap (λ q. model.Frame (Some q)) (agree p (omega (arith, h)))
  kind_as (Plain None) h = refl
  kind_as (Plain (Some p)) h = ap (λ q. model.Plain (Some q)) (agree p (omega (arith, h)))
  kind_as Array h = refl
  kind_as (Function k f) h = ap (model.Function k) (agree f (omega (arith, h)))
  kind_as (BuiltIn w) h = refl

  table_as : {B : Type 0} (z : B) (f g : ℕ → B) (k : ℕ) → k ≤ n → ((i : ℕ) → i < k → f i ≡ g i) → (x : Name) → table nu f z k x ≡ table mu g z k x
  table_as z f g zero l h x = refl
  table_as z f g (suc i) l h x =
      let a = agree i (omega (arith, l)) in
      let e = h i (omega arith) in
      let r = table_as z f g i (omega (arith, l)) (λ j q. h j (omega (arith, q))) x in
      λ y. pick (name_eq x (a y)) (e y) (r y)

  module _ (kinds : List CellKind) (older : (i : ℕ) (k : CellKind) → slice_get kinds i ≡ Some k → kind_needs k ≤ i) where
    chain_as : (d i : ℕ) → i ≤ n → map nu (chain_from kinds d i) ≡ map mu (chain_from kinds d i)
    chain_as zero i h = refl
    chain_as (suc d) i h = by (slice_get kinds i) refl (chain_as d)
      where
        by : (o : Option CellKind) → slice_get kinds i ≡ o → ((j : ℕ) → j ≤ n → map nu (chain_from kinds d j) ≡ map mu (chain_from kinds d j))
            → map nu (above o (chain_from kinds d)) ≡ map mu (above o (chain_from kinds d))
        by None e f = refl
        by (Some (Frame p)) e f = refl
        by (Some (Plain None)) e f = refl
        by (Some (Plain (Some p))) e f =
            let o = older i (Plain (Some p)) e in
            let a = agree p (omega (arith, o, h)) in
            let r = f p (omega (arith, o, h)) in
            λ y. a y ∷ r y
        by (Some Array) e f = refl
        by (Some (Function k g)) e f = refl
        by (Some (BuiltIn w)) e f = refl

    one_as : (i : ℕ) → i < n → (o : Option CellKind) → slice_get kinds i ≡ o → known_one nu kinds i o ≡ known_one mu kinds i o
    one_as i h None e = refl
    one_as i h (Some k) e =
        let o = older i k e in
        let a = kind_as k (omega (arith, o, h)) in
        let r = chain_as (suc i) i (omega (arith, h)) in
        λ y. Some (record { kind = a y; chain = r y })

-- ---- what a table has

module _ {B : Type 0} (nu : Naming) (f : ℕ → Option B) where
  table_there : (k i : ℕ) → i < k → ((j : ℕ) → j < k → IsSome (f j)) → IsSome (table nu f None k (nu i))
  table_there zero i h s = absurd (omega arith)
  table_there (suc k) i h s = by (name_eq (nu i) (nu k)) (λ l. table_there k i l (λ j q. s j (omega (arith, q))))
    where
      by : (d : Dec (nu i ≡ nu k)) → (i < k → IsSome (table nu f None k (nu i))) → IsSome (pick d (f k) (table nu f None k (nu i)))
      by (yes e) r = s k (omega arith)
      by (no d) r = r (lower (λ e. d (ap nu e)))
        where
          lower : (i ≡ k → ⊥) → i < k
          lower ne = omega (arith, h, ne)

  table_only : (k : ℕ) (x : Name) → IsSome (table nu f None k x) → (i : ℕ) × (i < k) × (nu i ≡ x)
  table_only zero x h = let q : false ≡ true = h in let z : ⊥ = cc in absurd z
  table_only (suc k) x h = by (name_eq x (nu k)) h (table_only k x)
    where
      by : (d : Dec (x ≡ nu k)) → IsSome (pick d (f k) (table nu f None k x)) → (IsSome (table nu f None k x) → (i : ℕ) × (i < k) × (nu i ≡ x)) → (i : ℕ) × (i < suc k) × (nu i ≡ x)
      by (yes e) s r = (k, omega arith, sym e)
      by (no d) s r = let a = r s in let l = a.1 in (a.0, omega (arith, l), a.2)

some_same : {A : Type 0} {x y : A} → Some x ≡ Some y → x ≡ y
some_same e = cc

-- ---- a machine

module _ (m : Run) (k : IsRun m) (whole : IsWhole m.heap.cells.now) (core : IsCore m.heap) where
  abbrev cells : List Cell
  cells = m.heap.cells.now

  abbrev many : length (names_in cells) ≡ length cells
  many = count_names cells

  names_apart : (i j : ℕ) (n : Name) → slice_get (names_in cells) i ≡ Some n → slice_get (names_in cells) j ≡ Some n → i ≡ j
  names_apart i j n e f =
      let l = slice_get_within (names_in cells) i n e in
      let h = slice_get_within (names_in cells) j n f in
      let a = there (names_of cells) i (omega (arith, l, length-map (names_of cells) name_in)) in
      let b = there (names_of cells) j (omega (arith, h, length-map (names_of cells) name_in)) in
      let same : name_in a.0 ≡ name_in b.0 = some_same (sym (name_at cells i a.0 a.1) ∙ e ∙ sym f ∙ name_at cells j b.0 b.1) in
      whole.distinct i j b.0 (a.1 ∙ ap Some (name_apart a.0 b.0 same)) b.1

  known_is : (nu : Naming) (i : ℕ) → i < length cells → IsSome (known_one nu (kinds_of cells) i (slice_get (kinds_of cells) i))
  known_is nu i h =
      let a = kind_there cells i h in
      subst (λ o. IsSome (known_one nu (kinds_of cells) i o)) (sym a.1) refl

  module _ (nu mu : Naming) (agree : (i : ℕ) → i < length cells → nu i ≡ mu i) where
    known_as : known_of nu cells ≡ known_of mu cells
    known_as = λ y x. table_as nu mu (length cells) agree None (λ i. known_one nu (kinds_of cells) i (slice_get (kinds_of cells) i)) (λ i. known_one mu (kinds_of cells) i (slice_get (kinds_of cells) i)) (length cells) (omega arith)
        (λ i h. one_as nu mu (length cells) agree (kinds_of cells) whole.older i h (slice_get (kinds_of cells) i) refl) x y

    at_as : (i : ℕ) (o : Option Cell) → slice_get cells i ≡ o → placed.props_in nu (props_in o) ≡ placed.props_in mu (props_in o)
    at_as i None e = refl
    at_as i (Some c) e = props_as nu mu (length cells) agree c.props (whole.exist i c e)

    all_as : props_of nu cells ≡ props_of mu cells
    all_as = λ y x. table_as nu mu (length cells) agree [] (λ i. placed.props_in nu (props_at cells i)) (λ i. placed.props_in mu (props_at cells i)) (length cells) (omega arith)
        (λ i h. at_as i (slice_get cells i) refl) x y

    watch_as : named nu m.heap.slots.keys m.heap.slots.current ≡ named mu m.heap.slots.keys m.heap.slots.current
    watch_as =
        let keys = m.heap.slots.keys in
        alike (by_names nu keys) (by_names mu keys) (watch_of m.heap.slots.current)
        (holds_of (λ x. number_of_cell x < length cells) (λ y. by_names nu keys y ≡ by_names mu keys y) (λ y h. ap (λ c. slot c (part_in keys (number_of_key y))) (agree (number_of_cell y) h)) (watch_of m.heap.slots.current) core.within)

    first_as : (seen_of m).first nu ≡ (seen_of m).first mu
    first_as =
        let σ = (seen_of m).first nu in
        let vals = vals_as nu mu (length cells) agree m.values k.values in
        λ y. record {
          calls = σ.calls;
          cells = σ.cells;
          vals = vals y;
          known = known_as y;
          props = all_as y;
          text = σ.text;
          opened = (watch_as y).opened;
          verdict = (watch_as y).verdict;
          gone = σ.gone;
        }

  pub is_told : IsTold (seen_of m)
  is_told = record {
    apart = names_apart;
    own = λ nu mu agree. first_as nu mu (λ i h. agree i (omega (arith, h, many)));
    there = λ nu i h. table_there nu (λ i. known_one nu (kinds_of cells) i (slice_get (kinds_of cells) i)) (length cells) i (omega (arith, h, many)) (known_is nu);
    only = λ nu n h. let a = table_only nu (λ i. known_one nu (kinds_of cells) i (slice_get (kinds_of cells) i)) (length cells) n h in let l = a.1 in (a.0, omega (arith, l, many), a.2);
  }
