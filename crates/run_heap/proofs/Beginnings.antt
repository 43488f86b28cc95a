-- The cells that a run begins with.
use Rattle.std.proofs.Common.{◌≡◌, refl, ap, sym, ◌∙◌, subst, ℕ, zero, suc, ◌+◌, ◌<◌, ◌≤◌, List, [], ◌∷◌, ◌++◌, length, Option, Some, None, option_map, map, slice_get, arith, length-append}
use Rattle.std.specs.Prelude.{codes}
use Rattle.std.specs.Map.{lookup}
use Rattle.std.proofs.lemmas.List.{map-append, length-map}
use Rattle.std.proofs.lemmas.Option.{slice_get_within}
use Rattle.turk_base.specs.Names.{Path, root, sub, Name, cell, home, name_eq, pick, Under, self, not_root}
use Rattle.turk_base.specs.Values as model
use Rattle.turk_base.specs.Values.{Known, Property, property}
use Rattle.turk_base.specs.State.{St, independent}
use Rattle.turk_base.specs.Steps.{prototype_key}
use Rattle.turk_base.specs.Start.{start, first_known, first_cell_props}
use Rattle.branch_check.specs.Watch.{Watch, Kept, watch_of, verdict_of, openings_of}
use Rattle.value_cells.specs.declared.Value.TheVariants.{Text, Object}
use Rattle.value_cells.specs.declared.CellName.{CellName}
use Rattle.value_cells.specs.declared.CellKind.{CellKind}
use Rattle.value_cells.specs.declared.CellKind.TheVariants.{Frame, Plain, Array, Function, BuiltIn}
use Rattle.value_cells.specs.Held.{Cell, Held, Key, Props, props_at, names_of, kinds_of, key_eq, own, with_props, IsWhole}
use Rattle.value_cells.specs.Seen.{Naming, Fits, Grows, kind_in}
use Rattle.value_cells.proofs.Lists.{pushed, names-with, count-with}
use Rattle.slot_watch.specs.Slots.{Slots}
use Rattle.slot_watch.specs.Named.{cell_number, number_of_cell, TellsApart, renamed_all, renamed_verdict, by_names}
use Rattle.slot_watch.specs.Within.{Holds, Each, InVerdict, CellsWithin}
use Rattle.run_heap.specs.declared.Place.{Place}
use Rattle.run_heap.specs.Core.{Core, names_in}
use Rattle.run_heap.specs.Begins.{at_root, error_cells, first_cells, first_names, AreCounted, Begins}
use Rattle.run_heap.specs.Placed.{placed, table, known_one, known_of, props_of, props_in, chain_of}
use Rattle.run_heap.specs.Whole.{IsCore}
use Rattle.run_heap.proofs.Tables.{tells, known_here, props_here}
use Rattle.run_heap.proofs.Watches.{pick_no}

pub counted_push : (cells : List Cell) (c : Cell) → AreCounted cells → c.name.number ≡ length cells → AreCounted (cells ++ c ∷ [])
counted_push cells c h e i n g =
    pushed (λ i n. n.number ≡ i) (names_of cells) c.name h (e ∙ sym (length-map cells (λ c. c.name))) i n (ap (λ l. slice_get l i) (sym (map-append (λ (c : Cell). c.name) cells (c ∷ []))) ∙ g)

pub counted_fresh : (cells : List Cell) → AreCounted cells → (n : CellName) → n.number ≡ length cells → (i : ℕ) → slice_get (names_of cells) i ≡ Some n → ⊥
counted_fresh cells h n s i e = let w = slice_get_within (names_of cells) i n e in let q = h i n e in omega (arith, w, q, s, length-map cells (λ c. c.name))

pub counted_with : (cells : List Cell) (i : ℕ) (ps : Props) → AreCounted cells → AreCounted (with_props cells i ps)
counted_with cells i ps h j n e = h j n (ap (λ l. slice_get l j) (sym (names-with cells i ps)) ∙ e)

pub counted_made : (old new : List Cell) (c : Cell) → new ≡ old ++ c ∷ [] → AreCounted old → c.name.number ≡ length old → AreCounted new
counted_made old new c e h n = subst AreCounted (sym e) (counted_push old c h n)

pub counted_same : (old new : List Cell) (i : ℕ) (ps : Props) → new ≡ with_props old i ps → AreCounted old → AreCounted new
counted_same old new i ps e h = subst AreCounted (sym e) (counted_with old i ps h)

-- ---- an error and its prototype

with_mid : (os : List Cell) (a : Cell) (rest : List Cell) (ps : Props) → with_props (os ++ a ∷ rest) (length os) ps ≡ os ++ record a { props = ps } ∷ rest
with_mid [] a rest ps = refl
with_mid (c ∷ os) a rest ps = ap (λ l. c ∷ l) (with_mid os a rest ps)

at_mid : (os : List Cell) (a : Cell) (rest : List Cell) → props_at (os ++ a ∷ rest) (length os) ≡ a.props
at_mid [] a rest = refl
at_mid (c ∷ os) a rest = at_mid os a rest

with_next : (os : List Cell) (a b : Cell) (ps : Props) → with_props (os ++ a ∷ b ∷ []) (suc (length os)) ps ≡ os ++ a ∷ record b { props = ps } ∷ []
with_next [] a b ps = refl
with_next (c ∷ os) a b ps = ap (λ l. c ∷ l) (with_next os a b ps)

at_next : (os : List Cell) (a b : Cell) → props_at (os ++ a ∷ b ∷ []) (suc (length os)) ≡ b.props
at_next [] a b = refl
at_next (c ∷ os) a b = at_next os a b

append_two : (os : List Cell) (a b : Cell) → (os ++ a ∷ []) ++ b ∷ [] ≡ os ++ a ∷ b ∷ []
append_two [] a b = refl
append_two (c ∷ os) a b = ap (λ l. c ∷ l) (append_two os a b)

abbrev pub bare_cell : ℕ → CellKind → Cell
bare_cell n kind = record { name = at_root n; kind = kind; props = [] }

module _ (os c1 c2 : List Cell) (which : ℕ) (parent : Option ℕ) (f p : ℕ) (ef : f ≡ length os) (e1 : c1 ≡ os ++ bare_cell (length os) (BuiltIn which) ∷ []) (ep : p ≡ length c1)
    (e2 : c2 ≡ c1 ++ bare_cell (length c1) (Plain parent) ∷ []) where
  abbrev first : Cell
  first = bare_cell (length os) (BuiltIn which)

  abbrev second : Cell
  second = bare_cell (suc (length os)) (Plain parent)

  long : length c1 ≡ suc (length os)
  long = ap length e1 ∙ length-append os (first ∷ []) ∙ omega arith

  at_p : p ≡ suc (length os)
  at_p = ep ∙ long

  two : c2 ≡ os ++ first ∷ second ∷ []
  two = e2 ∙ (λ i. e1 i ++ bare_cell (long i) (Plain parent) ∷ []) ∙ append_two os first second

  pub first_fresh : (k : Key) → own c2 f k ≡ None
  first_fresh k = (λ i. own (two i) (ef i) k) ∙ ap (lookup (key_eq k)) (at_mid os first (second ∷ []))

  pub first_there : f < length c2
  first_there = let l = ap length e2 ∙ length-append c1 (bare_cell (length c1) (Plain parent) ∷ []) in omega (arith, l, long, ef)

  pub second_there : p < length c2
  second_there = let l = ap length e2 ∙ length-append c1 (bare_cell (length c1) (Plain parent) ∷ []) in omega (arith, l, ep)

  module _ (c3 : List Cell) (e3 : c3 ≡ with_props c2 f (props_at c2 f ++ (prototype_key, Object p) ∷ [])) where
    abbrev first_made : Cell
    first_made = record { name = at_root (length os); kind = BuiltIn which; props = (prototype_key, Object (suc (length os))) ∷ [] }

    three : c3 ≡ os ++ first_made ∷ second ∷ []
    three =
        e3 ∙ (λ i. with_props (two i) (ef i) (props_at (two i) (ef i) ++ (prototype_key, Object (at_p i)) ∷ []))
        ∙ ap (λ ps. with_props (os ++ first ∷ second ∷ []) (length os) (ps ++ (prototype_key, Object (suc (length os))) ∷ [])) (at_mid os first (second ∷ []))
        ∙ with_mid os first (second ∷ []) ((prototype_key, Object (suc (length os))) ∷ [])

    pub second_there_3 : p < length c3
    second_there_3 = let l = ap length e3 ∙ count-with c2 f (props_at c2 f ++ (prototype_key, Object p) ∷ []) in let h = second_there in omega (arith, l, h)

    pub second_fresh : (k : Key) → own c3 p k ≡ None
    second_fresh k = (λ i. own (three i) (at_p i) k) ∙ ap (lookup (key_eq k)) (at_next os first_made second)

    module _ (name : Key) (c4 : List Cell) (e4 : c4 ≡ with_props c3 p (props_at c3 p ++ (codes "name", Text name) ∷ [])) where
      abbrev named : Cell
      named = record { name = at_root (suc (length os)); kind = Plain parent; props = (codes "name", Text name) ∷ [] }

      four : c4 ≡ os ++ first_made ∷ named ∷ []
      four =
          e4 ∙ (λ i. with_props (three i) (at_p i) (props_at (three i) (at_p i) ++ (codes "name", Text name) ∷ []))
          ∙ ap (λ ps. with_props (os ++ first_made ∷ second ∷ []) (suc (length os)) (ps ++ (codes "name", Text name) ∷ [])) (at_next os first_made second)
          ∙ with_next os first_made second ((codes "name", Text name) ∷ [])

      pub second_there_4 : p < length c4
      second_there_4 = let l = ap length e4 ∙ count-with c3 p (props_at c3 p ++ (codes "name", Text name) ∷ []) in let h = second_there_3 in omega (arith, l, h)

      pub message_fresh : own c4 p (codes "message") ≡ None
      message_fresh = (λ i. own (four i) (at_p i) (codes "message")) ∙ ap (lookup (key_eq (codes "message"))) (at_next os first_made named)

      pub error_made : (c5 : List Cell) → c5 ≡ with_props c4 p (props_at c4 p ++ (codes "message", Text []) ∷ []) → c5 ≡ os ++ error_cells (length os) which parent name
      error_made c5 e5 =
          e5 ∙ (λ i. with_props (four i) (at_p i) (props_at (four i) (at_p i) ++ (codes "message", Text []) ∷ []))
          ∙ ap (λ ps. with_props (os ++ first_made ∷ named ∷ []) (suc (length os)) (ps ++ (codes "message", Text []) ∷ [])) (at_next os first_made named)
          ∙ with_next os first_made named ((codes "name", Text name) ∷ (codes "message", Text []) ∷ [])

-- ---- the state that they are

AllOf : (Name → Type 0) → List Name → Type 0
AllOf P [] = Unit {0}
AllOf P (n ∷ l) = P n × AllOf P l

at_all : (P : Name → Type 0) (l : List Name) → AllOf P l → (i : ℕ) (n : Name) → slice_get l i ≡ Some n → P n
unfolding AllOf
at_all P [] h i n e = cc
at_all P (m ∷ l) h zero n e = let q : m ≡ n = cc in subst P q h.0
at_all P (m ∷ l) h (suc i) n e = at_all P l h.1 i n e

small : (i : ℕ) (n : Name) → slice_get first_names i ≡ Some n → cell_number n < 7
unfolding AllOf
small = at_all (λ n. cell_number n < 7) first_names (omega arith, (omega arith, (omega arith, (omega arith, (omega arith, (omega arith, (omega arith, tt)))))))

at_home : (i : ℕ) (n : Name) → slice_get first_names i ≡ Some n → home n ≡ root
unfolding AllOf
at_home = at_all (λ n. home n ≡ root) first_names (refl, (refl, (refl, (refl, (refl, (refl, (refl, tt)))))))

number_in : Name → ℕ
number_in (cell s n) = n

table_far : {B : Type 0} (nu : Naming) (f : ℕ → B) (z : B) (m : Name) (k : ℕ) → ((i : ℕ) → i < k → m ≡ nu i → ⊥) → table nu f z k m ≡ z
table_far nu f z m zero h = refl
table_far nu f z m (suc k) h = pick_no (name_eq m (nu k)) (f k) (table nu f z k m) (h k (omega arith)) ∙ table_far nu f z m k (λ i l. h i (omega (arith, l)))

module _ (nu : Naming) (fits : Fits nu first_names) (whole : IsWhole first_cells) where
  is : (k : ℕ) → k < 7 → nu k ≡ cell root k
  is zero h = fits.agrees 0 (cell root 0) refl
  is (suc zero) h = fits.agrees 1 (cell root 1) refl
  is (suc (suc zero)) h = fits.agrees 2 (cell root 2) refl
  is (suc (suc (suc zero))) h = fits.agrees 3 (cell root 3) refl
  is (suc (suc (suc (suc zero)))) h = fits.agrees 4 (cell root 4) refl
  is (suc (suc (suc (suc (suc zero))))) h = fits.agrees 5 (cell root 5) refl
  is (suc (suc (suc (suc (suc (suc zero)))))) h = fits.agrees 6 (cell root 6) refl
  is (suc (suc (suc (suc (suc (suc (suc k))))))) h = absurd (omega arith)

  apart : TellsApart nu 7
  apart = tells nu first_cells whole fits

  via : (k : ℕ) → k < 7 → (kind : CellKind) → slice_get (kinds_of first_cells) k ≡ Some kind
      → known_of nu first_cells (cell root k) ≡ Some (record { kind = kind_in nu kind; chain = map nu (chain_of (kinds_of first_cells) k) })
  via k h kind e = subst (λ m. known_of nu first_cells m ≡ Some (record { kind = kind_in nu kind; chain = map nu (chain_of (kinds_of first_cells) k) })) (is k h) (known_here nu first_cells apart k h kind e)

  held_by : (k : ℕ) → k < 7 → props_of nu first_cells (cell root k) ≡ props_in nu (props_at first_cells k)
  held_by k h = subst (λ m. props_of nu first_cells m ≡ props_in nu (props_at first_cells k)) (is k h) (props_here nu first_cells apart k h)

  past_all : (n : ℕ) (i : ℕ) → i < 7 → cell root (suc (suc (suc (suc (suc (suc (suc n))))))) ≡ nu i → ⊥
  unfolding number_in
  past_all n i h e = let q = ap number_in (e ∙ is i h) in omega (arith, h, q)

  elsewhere : (j : ℕ) (p : Path) (n i : ℕ) → i < 7 → cell (sub j p) n ≡ nu i → ⊥
  elsewhere j p n i h e = let q : sub j p ≡ root = ap home (e ∙ is i h) in cc

  abbrev error_kind : Name → Option Known
  error_kind m = Some (record { kind = model.Plain (Some m); chain = m ∷ [] })

  known_at : (m : Name) → known_of nu first_cells m ≡ first_known m
  known_at (cell root zero) = via 0 (omega arith) (BuiltIn 13) refl
  known_at (cell root (suc zero)) = via 1 (omega arith) (Plain None) refl
  known_at (cell root (suc (suc zero))) = via 2 (omega arith) (BuiltIn 14) refl
  known_at (cell root (suc (suc (suc zero)))) = via 3 (omega arith) (Plain (Some 1)) refl ∙ ap error_kind (is 1 (omega arith))
  known_at (cell root (suc (suc (suc (suc zero))))) = via 4 (omega arith) (BuiltIn 15) refl
  known_at (cell root (suc (suc (suc (suc (suc zero)))))) = via 5 (omega arith) (Plain (Some 1)) refl ∙ ap error_kind (is 1 (omega arith))
  known_at (cell root (suc (suc (suc (suc (suc (suc zero))))))) = via 6 (omega arith) (BuiltIn 12) refl
  known_at (cell root (suc (suc (suc (suc (suc (suc (suc n)))))))) = table_far nu (λ i. known_one nu (kinds_of first_cells) i (slice_get (kinds_of first_cells) i)) None (cell root (suc (suc (suc (suc (suc (suc (suc n)))))))) 7 (past_all n)
  known_at (cell (sub j p) n) = table_far nu (λ i. known_one nu (kinds_of first_cells) i (slice_get (kinds_of first_cells) i)) None (cell (sub j p) n) 7 (elsewhere j p n)

  abbrev error_of : Name → List Property
  error_of m = property prototype_key (model.Object m) ∷ []

  props_at_name : (m : Name) → props_of nu first_cells m ≡ first_cell_props m
  props_at_name (cell root zero) = held_by 0 (omega arith) ∙ ap error_of (is 1 (omega arith))
  props_at_name (cell root (suc zero)) = held_by 1 (omega arith)
  props_at_name (cell root (suc (suc zero))) = held_by 2 (omega arith) ∙ ap error_of (is 3 (omega arith))
  props_at_name (cell root (suc (suc (suc zero)))) = held_by 3 (omega arith)
  props_at_name (cell root (suc (suc (suc (suc zero))))) = held_by 4 (omega arith) ∙ ap error_of (is 5 (omega arith))
  props_at_name (cell root (suc (suc (suc (suc (suc zero)))))) = held_by 5 (omega arith)
  props_at_name (cell root (suc (suc (suc (suc (suc (suc zero))))))) = held_by 6 (omega arith)
  props_at_name (cell root (suc (suc (suc (suc (suc (suc (suc n)))))))) = table_far nu (λ i. props_in nu (props_at first_cells i)) [] (cell root (suc (suc (suc (suc (suc (suc (suc n)))))))) 7 (past_all n)
  props_at_name (cell (sub j p) n) = table_far nu (λ i. props_in nu (props_at first_cells i)) [] (cell (sub j p) n) 7 (elsewhere j p n)

-- the heap with these cells
module _ (cells : Held) (slots : Slots) (now : cells.now ≡ first_cells) (cell_marks : cells.marks ≡ []) (opened : slots.current.opened ≡ []) (verdict : verdict_of slots.current.found ≡ independent) (slot_marks : slots.marks ≡ []) (left : ℕ) where
  abbrev pub script : Place
  script = record { path = []; branch = []; made = 7; calls = 0 }

  abbrev pub begun : Core
  begun = record { cells = cells; slots = slots; place = script; outer = []; left = left }

  pub begins_core : IsCore begun
  begins_core = record {
    own = record {
      own = λ i n e s. small i n (ap (λ l. slice_get (names_in l) i) (sym now) ∙ e);
      below = λ i m n e u. absurd (not_root (subst (λ p. Under (sub m root) p) (at_home i n (ap (λ l. slice_get (names_in l) i) (sym now) ∙ e)) u));
    };
    others = λ i o e. cc;
    nested = record { shorter = λ i o e. cc; apart = λ i j o p l e f. cc; inside = λ i m o e u. cc; between = λ i j m o p l e f u. cc; branches = λ i o e. cc; here = self };
    marked = record {
      first = λ i a e. let q : slice_get [] i ≡ Some a = ap (λ l. slice_get l i) (sym cell_marks) ∙ e in cc;
      before = λ i j a b l e f. let q : slice_get [] i ≡ Some a = ap (λ l. slice_get l i) (sym cell_marks) ∙ e in cc;
      within = λ i a k e f. let q : slice_get [] i ≡ Some a = ap (λ l. slice_get l i) (sym cell_marks) ∙ e in cc;
    };
    within = record {
      opened = subst (λ l. Each (λ x. number_of_cell x < length cells.now) (openings_of l)) (sym opened) tt;
      verdict = subst (λ v. InVerdict (λ x. number_of_cell x < length cells.now) v) (sym verdict) tt;
    };
    as_many_cells = ap length cell_marks;
    as_many_slots = ap length slot_marks;
  }

  pub begins : IsWhole cells.now → Begins left begun
  begins whole = record {
    names = ap names_in now;
    first = λ nu fits.
        let w = subst IsWhole now whole in
        let known : known_of nu cells.now ≡ first_known = ap (known_of nu) now ∙ (λ x m. known_at nu fits w m x) in
        let props : props_of nu cells.now ≡ first_cell_props = ap (props_of nu) now ∙ (λ x m. props_at_name nu fits w m x) in
        let r = by_names nu slots.keys in
        let o = ap (λ l. renamed_all r (openings_of l)) opened in
        let v = ap (renamed_verdict r) verdict in
        λ x. record { calls = 0; cells = 7; vals = []; known = known x; props = props x; text = []; opened = o x; verdict = v x; gone = [] };
    path = refl;
    branch = refl;
    calls = refl;
    outer = refl;
    left = refl;
  }
