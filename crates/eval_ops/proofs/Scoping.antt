-- Scopes of a machine: entered, left and taken back, left and kept.
use Rattle.std.proofs.Common.{◌≡◌, refl, ap, sym, ◌∙◌, subst, ℕ, zero, suc, ◌<◌, ◌≤◌, Bool, true, false, not, List, [], ◌∷◌, ◌++◌, length, take, Some, None, slice_get, map, if◌then◌else◌, arith, length-append}
use Rattle.std.specs.Prelude.{reverse}
use Rattle.std.proofs.lemmas.Option.{slice_get_within}
use Rattle.turk_base.specs.Names.{path_in}
use Rattle.turk_base.specs.State.{enter, leave}
use Rattle.branch_check.specs.Watch.{Kept}
use Rattle.value_cells.specs.Needs.{all_needs}
use Rattle.value_cells.specs.Held.{Cell}
use Rattle.value_cells.specs.Seen.{Naming, Grows, val_in}
use Rattle.value_cells.proofs.Lists.{get_front, get_last, pushed}
use Rattle.slot_watch.specs.Named.{named}
use Rattle.run_heap.specs.Core.{Core, names_in}
use Rattle.run_heap.specs.Whole.{IsCore}
use Rattle.run_heap.specs.Placed.{known_of, props_of}
use Rattle.run_heap.specs.Scopes as heap
use Rattle.run_heap.proofs.Tables.{there, count_names}
use Rattle.eval_ops.specs.declared.Outer.{Outer}
use Rattle.eval_ops.specs.Run.{Run, first_at, marked, back_of, scope_of, scopes, seen_of}
use Rattle.value_cells.proofs.Turns.{grows_length}
use Rattle.eval_ops.specs.Stored.{IsRun, HasRoom}
use Rattle.eval_ops.specs.Calls.{branch_in, Enters, LeavesBack, LeavesKeep}
use Rattle.eval_ops.proofs.Marks.{Fronts, Alike, back_same, scopes_same}

pub take_all : {A : Type 0} (l : List A) → take (length l) l ≡ l
take_all [] = refl
take_all (x ∷ l) = ap (λ z. x ∷ z) (take_all l)

take_twice : {A : Type 0} (n k : ℕ) (l : List A) → n ≤ k → take n (take k l) ≡ take n l
take_twice zero k l h = refl
take_twice (suc n) zero l h = absurd (omega arith)
take_twice (suc n) (suc k) [] h = refl
take_twice (suc n) (suc k) (x ∷ l) h = ap (λ z. x ∷ z) (take_twice n k l (omega arith))

take_long : {A : Type 0} (n : ℕ) (l : List A) → n ≤ length l → length (take n l) ≡ n
take_long zero l h = refl
take_long (suc n) [] h = absurd (omega arith)
take_long (suc n) (x ∷ l) h = ap suc (take_long n l (omega arith))

-- a list with one more, seen from its front
at_front : {A : Type 0} (all front : List A) (last : A) → all ≡ front ++ last ∷ [] → (i : ℕ) → i < length front → slice_get front i ≡ slice_get all i
at_front all front last is i h =
    let t = there front i h in
    t.1 ∙ sym (ap (λ l. slice_get l i) is ∙ get_front front (last ∷ []) i t.0 t.1)

at_last : {A : Type 0} (all front : List A) (last : A) → all ≡ front ++ last ∷ [] → slice_get all (length front) ≡ Some last
at_last all front last is = ap (λ l. slice_get l (length front)) is ∙ get_last front last

one_more : {A : Type 0} (all front : List A) (last : A) → all ≡ front ++ last ∷ [] → length all ≡ suc (length front)
one_more all front last is = ap length is ∙ length-append front (last ∷ []) ∙ omega arith

no_some : {A : Type 0} {x : A} → None ≡ Some x → ⊥
no_some e = cc

-- ---- entered

module _ (m : Run) (k : IsRun m) (core : IsCore m.heap) (h : Core) (p : List ℕ) (branch : Bool) (e : heap.Enters p branch m.heap h) where
  module _ (m' : Run) (o : Outer) (o_is : (o.body ≡ m.body) × ((o.values.items ≡ m.values) × ((o.printed ≡ length m.text) × (o.absent ≡ length m.gone))))
      (heap_is : m'.heap ≡ h) (body : m'.body ≡ not branch) (values : m'.values ≡ []) (text : m'.text ≡ m.text) (gone : m'.gone ≡ m.gone) (outer : m'.outer ≡ m.outer ++ o ∷ []) where
    n : ℕ
    n = length m.outer

    cells_many : length m.heap.cells.marks ≡ n
    unfolding n
    cells_many = core.as_many_cells ∙ sym k.as_many

    slots_many : length m.heap.slots.marks ≡ n
    unfolding n
    slots_many = core.as_many_slots ∙ sym k.as_many

    heap_many : length m.heap.outer ≡ n
    unfolding n
    heap_many = sym k.as_many

    cells_are : m'.heap.cells.marks ≡ m.heap.cells.marks ++ m.heap.cells.now ∷ []
    cells_are = ap (λ (s : Core). s.cells.marks) heap_is ∙ e.marks

    slots_are : m'.heap.slots.marks ≡ m.heap.slots.marks ++ m.heap.slots.current ∷ []
    slots_are = ap (λ (s : Core). s.slots.marks) heap_is ∙ e.kept

    places_are : m'.heap.outer ≡ m.heap.outer ++ m.heap.place ∷ []
    places_are = ap (λ (s : Core). s.outer) heap_is ∙ e.outer

    keys_are : m'.heap.slots.keys ≡ m.heap.slots.keys
    keys_are = ap (λ (s : Core). s.slots.keys) heap_is ∙ e.keys

    -- the scopes that were around
    alike : Alike n m m'
    unfolding n cells_many slots_many heap_many
    alike = record {
      same = λ i l. record {
        cells = sym (at_front m'.heap.cells.marks m.heap.cells.marks m.heap.cells.now cells_are i (omega (arith, l, cells_many)));
        slots = sym (at_front m'.heap.slots.marks m.heap.slots.marks m.heap.slots.current slots_are i (omega (arith, l, slots_many)));
        place = sym (at_front m'.heap.outer m.heap.outer m.heap.place places_are i (omega (arith, l, heap_many)));
        outer = sym (at_front m'.outer m.outer o outer i l);
        meaning = λ nu q f. ap (λ ks. named nu ks q) keys_are;
        fronts = λ o f. record { printed = ap (take o.printed) text; absent = ap (take o.absent) gone };
      };
    }

    many : length m'.outer ≡ suc n
    unfolding n
    many = one_more m'.outer m.outer o outer

    -- what taking back gives is what there was
    back_is : (nu : Naming) → marked m' n nu ≡ (seen_of m).first nu
    unfolding n cells_many slots_many heap_many
    back_is nu =
        let c : slice_get m'.heap.cells.marks n ≡ Some m.heap.cells.now = ap (slice_get m'.heap.cells.marks) (sym cells_many) ∙ at_last m'.heap.cells.marks m.heap.cells.marks m.heap.cells.now cells_are in
        let s : slice_get m'.heap.slots.marks n ≡ Some m.heap.slots.current = ap (slice_get m'.heap.slots.marks) (sym slots_many) ∙ at_last m'.heap.slots.marks m.heap.slots.marks m.heap.slots.current slots_are in
        let p : slice_get m'.heap.outer n ≡ Some m.heap.place = ap (slice_get m'.heap.outer) (sym heap_many) ∙ at_last m'.heap.outer m.heap.outer m.heap.place places_are in
        let q : slice_get m'.outer n ≡ Some o = at_last m'.outer m.outer o outer in
        let t : take o.printed m'.text ≡ m.text = (λ x. take (o_is.1.1.0 x) (text x)) ∙ take_all m.text in
        let g : take o.absent m'.gone ≡ m.gone = (λ x. take (o_is.1.1.1 x) (gone x)) ∙ take_all m.gone in
        (λ x. first_at (c x) (s x) (p x) (q x) m'.heap.slots.keys m'.text m'.gone nu)
        ∙ (λ x. record {
          calls = m.heap.place.calls;
          cells = m.heap.place.made;
          vals = map (val_in nu) (o_is.1.0 x);
          known = known_of nu m.heap.cells.now;
          props = props_of nu m.heap.cells.now;
          text = t x;
          opened = (named nu (keys_are x) m.heap.slots.current).opened;
          verdict = (named nu (keys_are x) m.heap.slots.current).verdict;
          gone = map path_in (reverse (g x));
        })

    first_is : (nu : Naming) → (seen_of m').first nu ≡ enter ((seen_of m).first nu)
    first_is nu =
        let hs = heap_is in
        let calls : m'.heap.place.calls ≡ 0 = ap (λ (s : Core). s.place.calls) hs ∙ e.calls in
        let made : m'.heap.place.made ≡ 0 = ap (λ (s : Core). s.place.made) hs ∙ e.made in
        let cells : m'.heap.cells.now ≡ m.heap.cells.now = ap (λ (s : Core). s.cells.now) hs ∙ e.now in
        let current : m'.heap.slots.current ≡ m.heap.slots.current = ap (λ (s : Core). s.slots.current) hs ∙ e.current in
        λ x. record {
          calls = calls x;
          cells = made x;
          vals = map (val_in nu) (values x);
          known = known_of nu (cells x);
          props = props_of nu (cells x);
          text = text x;
          opened = (named nu (keys_are x) (current x)).opened;
          verdict = (named nu (keys_are x) (current x)).verdict;
          gone = map path_in (reverse (gone x));
        }

    branch_is : (b : Bool) → m'.heap.place.branch ≡ (if b then p else m.heap.place.branch) → path_in m'.heap.place.branch ≡ branch_in b (path_in p) (path_in m.heap.place.branch)
    branch_is true e = ap path_in e
    branch_is false e = ap path_in e

    pub enters : Enters (path_in p) branch (seen_of m) (seen_of m')
    unfolding n
    enters =
        let hs = heap_is in
        let place : slice_get m'.heap.outer n ≡ Some m.heap.place = ap (slice_get m'.heap.outer) (sym heap_many) ∙ at_last m'.heap.outer m.heap.outer m.heap.place places_are in
        let last : slice_get m'.outer n ≡ Some o = at_last m'.outer m.outer o outer in
        let scope : scope_of (back_of m' n) (slice_get m'.heap.outer n) (slice_get m'.outer n) ≡ (seen_of m).scope =
        (λ x. scope_of (back_same n m m' alike n (omega arith) x) (place x) (last x))
        ∙ (λ x. record { path = path_in m.heap.place.path; branch = path_in m.heap.place.branch; body = o_is.0 x; back = back_of m n }) in
        record {
          names = ap (λ (s : Core). names_in s.cells.now) hs ∙ ap names_in e.now;
          first = first_is;
          path = ap (λ (s : Core). path_in s.place.path) hs ∙ ap path_in e.path;
          branch_is = branch_is branch (ap (λ (s : Core). s.place.branch) hs ∙ e.held);
          body = body;
          back = λ nu. ap (λ j. back_of m' j nu) many ∙ back_is nu;
          outer = ap (λ j. scopes m' j) many ∙ (λ x. scope x ∷ scopes_same n m m' alike n (omega arith) x);
          left = ap (λ (s : Core). s.left) hs ∙ e.left;
        }

    pub enters_run : IsRun m'
    unfolding n
    enters_run = record {
      values = subst (λ l. all_needs l ≤ length m'.heap.cells.now) (sym values) (omega arith);
      kept_values = λ i q cells a f.
          pushed (λ i q. slice_get (m.heap.cells.marks ++ m.heap.cells.now ∷ []) i ≡ Some cells → all_needs q.values.items ≤ length cells) m.outer o
          (λ i q a f. k.kept_values i q cells a (at_front (m.heap.cells.marks ++ m.heap.cells.now ∷ []) m.heap.cells.marks m.heap.cells.now refl i (let w = slice_get_within m.outer i q a in omega (arith, w, cells_many)) ∙ f))
          (λ f.
          let z : Some m.heap.cells.now ≡ Some cells = sym (ap (slice_get (m.heap.cells.marks ++ m.heap.cells.now ∷ [])) (sym cells_many) ∙ get_last m.heap.cells.marks m.heap.cells.now) ∙ f in
          let y : m.heap.cells.now ≡ cells = cc in
          omega (arith, ap all_needs o_is.1.0, k.values, ap length y)) i q (ap (λ l. slice_get l i) (sym outer) ∙ a) (ap (λ l. slice_get l i) (sym cells_are) ∙ f);
      as_many = many ∙ ap suc k.as_many ∙ sym (one_more m'.heap.outer m.heap.outer m.heap.place places_are);
      printed = λ i q a. subst (λ l. q.printed ≤ length l) (sym text)
          (pushed (λ i q. q.printed ≤ length m.text) m.outer o k.printed (omega (arith, o_is.1.1.0)) i q (ap (λ l. slice_get l i) (sym outer) ∙ a));
      absent = λ i q a. subst (λ l. q.absent ≤ length l) (sym gone)
          (pushed (λ i q. q.absent ≤ length m.gone) m.outer o k.absent (omega (arith, o_is.1.1.1)) i q (ap (λ l. slice_get l i) (sym outer) ∙ a));
      ordered = λ i j q r l a b.
          let a2 = ap (λ l. slice_get l i) (sym outer) ∙ a in
          pushed (λ j r. i < j → (q.printed ≤ r.printed) × (q.absent ≤ r.absent)) m.outer o
          (λ j r b l. let w = slice_get_within m.outer j r b in k.ordered i j q r l (at_front (m.outer ++ o ∷ []) m.outer o refl i (omega (arith, w, l)) ∙ a2) b)
          (λ l. let a3 = at_front (m.outer ++ o ∷ []) m.outer o refl i l ∙ a2 in (omega (arith, k.printed i q a3, o_is.1.1.0), omega (arith, k.absent i q a3, o_is.1.1.1)))
          j r (ap (λ l. slice_get l j) (sym outer) ∙ b) l;
    }

    pub enters_room : (cap cap2 : ℕ) → HasRoom m cap → cap ≤ cap2 → o.absent < cap2 → m'.left_back ≡ None → HasRoom m' cap2
    enters_room cap cap2 r l last none = record {
      kept = λ i q a. pushed (λ i q. q.absent < cap2) m.outer o (λ i q a. let h = r.kept i q a in omega (arith, h, l)) last i q (ap (λ l. slice_get l i) (sym outer) ∙ a);
      now = λ p e. let z : None ≡ Some p = sym none ∙ e in absurd (no_some z);
    }

-- ---- left

-- The newest scope is left: the scopes around are those before it.
pub record Left (m m' : Run) (o : Outer) : Type 0 where
  pub outer : m.outer ≡ m'.outer ++ o ∷ []
  pub places : m.heap.outer ≡ m'.heap.outer ++ m'.heap.place ∷ []
  pub keys : m'.heap.slots.keys ≡ m.heap.slots.keys
  pub cells : (saved : List Cell) × (m.heap.cells.marks ≡ m'.heap.cells.marks ++ saved ∷ [])
  pub slots : (saved : Kept) × (m.heap.slots.marks ≡ m'.heap.slots.marks ++ saved ∷ [])
  pub body : m'.body ≡ o.body
  pub values : m'.values ≡ o.values.items
  -- what the scopes further out had still stands
  pub fronts : (q : Outer) → q.printed ≤ o.printed → q.absent ≤ o.absent → Fronts m m' q

module _ (m : Run) (k : IsRun m) (core : IsCore m.heap) (m' : Run) (o : Outer) (h : Left m m' o) where
  abbrev pub n' : ℕ
  n' = length m'.outer

  many_left : length m.outer ≡ suc n'
  many_left = one_more m.outer m'.outer o h.outer

  places_left : length m'.heap.outer ≡ n'
  unfolding many_left
  places_left = omega (arith, one_more m.heap.outer m'.heap.outer m'.heap.place h.places, many_left, k.as_many)

  cells_left : length m'.heap.cells.marks ≡ n'
  unfolding many_left
  cells_left = omega (arith, one_more m.heap.cells.marks m'.heap.cells.marks h.cells.0 h.cells.1, many_left, k.as_many, core.as_many_cells)

  slots_left : length m'.heap.slots.marks ≡ n'
  unfolding many_left
  slots_left = omega (arith, one_more m.heap.slots.marks m'.heap.slots.marks h.slots.0 h.slots.1, many_left, k.as_many, core.as_many_slots)

  last_outer : slice_get m.outer n' ≡ Some o
  last_outer = at_last m.outer m'.outer o h.outer

  last_place : slice_get m.heap.outer n' ≡ Some m'.heap.place
  unfolding places_left
  last_place = ap (slice_get m.heap.outer) (sym places_left) ∙ at_last m.heap.outer m'.heap.outer m'.heap.place h.places

  slot_mark_at : slice_get m.heap.slots.marks n' ≡ Some h.slots.0
  unfolding slots_left
  slot_mark_at = ap (slice_get m.heap.slots.marks) (sym slots_left) ∙ at_last m.heap.slots.marks m'.heap.slots.marks h.slots.0 h.slots.1

  less : (i : ℕ) (q : Outer) → i < n' → slice_get m.outer i ≡ Some q → (q.printed ≤ o.printed) × (q.absent ≤ o.absent)
  unfolding last_outer
  less i q l e = k.ordered i n' q o l e last_outer

  alike_left : Alike n' m m'
  unfolding cells_left slots_left places_left less
  alike_left = record {
    same = λ i l. record {
      cells = at_front m.heap.cells.marks m'.heap.cells.marks h.cells.0 h.cells.1 i (omega (arith, l, cells_left));
      slots = at_front m.heap.slots.marks m'.heap.slots.marks h.slots.0 h.slots.1 i (omega (arith, l, slots_left));
      place = at_front m.heap.outer m'.heap.outer m'.heap.place h.places i (omega (arith, l, places_left));
      outer = at_front m.outer m'.outer o h.outer i l;
      meaning = λ nu q f. ap (λ ks. named nu ks q) h.keys;
      fronts = λ q e. let z = less i q l e in h.fronts q z.0 z.1;
    };
  }

  around_left : (seen_of m).outer ≡ (seen_of m').scope ∷ (seen_of m').outer
  unfolding many_left last_outer last_place alike_left
  around_left =
      let scope : scope_of (back_of m n') (slice_get m.heap.outer n') (slice_get m.outer n') ≡ (seen_of m').scope =
      (λ x. scope_of (sym (back_same n' m m' alike_left n' (omega arith)) x) (last_place x) (last_outer x))
      ∙ (λ x. record { path = path_in m'.heap.place.path; branch = path_in m'.heap.place.branch; body = sym h.body x; back = back_of m' n' }) in
      ap (λ j. scopes m j) many_left ∙ (λ x. scope x ∷ sym (scopes_same n' m m' alike_left n' (omega arith)) x)

  -- what taking back gives
  back_left : (nu : Naming) → (seen_of m).scope.back nu ≡ marked m n' nu
  unfolding many_left
  back_left nu = ap (λ j. back_of m j nu) many_left

  module _ (c : slice_get m.heap.cells.marks n' ≡ Some m'.heap.cells.now) (s : slice_get m.heap.slots.marks n' ≡ Some m'.heap.slots.current) (text : m'.text ≡ take o.printed m.text) (gone : m'.gone ≡ take o.absent m.gone)
      (left : m'.heap.left ≡ m.heap.left) where
    first_back : (nu : Naming) → (seen_of m').first nu ≡ marked m n' nu
    unfolding last_outer last_place
    first_back nu =
        (λ x. record {
          calls = m'.heap.place.calls;
          cells = m'.heap.place.made;
          vals = map (val_in nu) (h.values x);
          known = known_of nu m'.heap.cells.now;
          props = props_of nu m'.heap.cells.now;
          text = text x;
          opened = (named nu (h.keys x) m'.heap.slots.current).opened;
          verdict = (named nu (h.keys x) m'.heap.slots.current).verdict;
          gone = map path_in (reverse (gone x));
        })
        ∙ sym (λ x. first_at (c x) (s x) (last_place x) (last_outer x) m.heap.slots.keys m.text m.gone nu)

    pub leaves_back : Grows (names_in m'.heap.cells.now) (names_in m.heap.cells.now) → LeavesBack (seen_of m) (seen_of m')
    unfolding around_left back_left first_back
    leaves_back names = record { around = around_left; first = λ nu. first_back nu ∙ sym (back_left nu); names = names; left = left }

  module _ (c : (saved : List Cell) × (slice_get m.heap.cells.marks n' ≡ Some saved)) (now : m'.heap.cells.now ≡ m.heap.cells.now) (current : m'.heap.slots.current ≡ m.heap.slots.current) (text : m'.text ≡ m.text) (gone : m'.gone ≡ m.gone)
      (left : m'.heap.left ≡ m.heap.left) where
    -- of the scope that was left stays what stands apart from its count of calls and cells and its values
    first_keep : (nu : Naming) → (seen_of m').first nu ≡ leave (marked m n' nu) ((seen_of m).first nu)
    unfolding last_outer last_place slot_mark_at
    first_keep nu =
        (λ x. record {
          calls = m'.heap.place.calls;
          cells = m'.heap.place.made;
          vals = map (val_in nu) (h.values x);
          known = known_of nu (now x);
          props = props_of nu (now x);
          text = text x;
          opened = (named nu (h.keys x) (current x)).opened;
          verdict = (named nu (h.keys x) (current x)).verdict;
          gone = map path_in (reverse (gone x));
        })
        ∙ sym (λ x. leave (first_at (c.1 x) (slot_mark_at x) (last_place x) (last_outer x) m.heap.slots.keys m.text m.gone nu) ((seen_of m).first nu))

    pub leaves_keep : LeavesKeep (seen_of m) (seen_of m')
    unfolding around_left back_left first_keep
    leaves_keep = record {
      around = around_left;
      first = λ nu. first_keep nu ∙ sym (ap (λ σ. leave σ ((seen_of m).first nu)) (back_left nu));
      names = ap names_in now;
      left = left;
    }

  in_outer : (i : ℕ) (q : Outer) → slice_get m'.outer i ≡ Some q → slice_get m.outer i ≡ Some q
  in_outer i q e = ap (λ l. slice_get l i) h.outer ∙ get_front m'.outer (o ∷ []) i q e

  kept_left : (i : ℕ) (q : Outer) → slice_get m'.outer i ≡ Some q → (q.printed ≤ o.printed) × (q.absent ≤ o.absent)
  unfolding less in_outer
  kept_left i q e = less i q (slice_get_within m'.outer i q e) (in_outer i q e)

  left_run : all_needs m'.values ≤ length m'.heap.cells.now → (text : o.printed ≤ length m'.text) → (gone : o.absent ≤ length m'.gone) → IsRun m'
  unfolding places_left in_outer kept_left
  left_run values text gone = record {
    values = values;
    kept_values = λ i q cells e f. k.kept_values i q cells (in_outer i q e) (ap (λ l. slice_get l i) h.cells.1 ∙ get_front m'.heap.cells.marks (h.cells.0 ∷ []) i cells f);
    as_many = sym places_left;
    printed = λ i q e. let z = kept_left i q e in omega (arith, z.0, text);
    absent = λ i q e. let z = kept_left i q e in omega (arith, z.1, gone);
    ordered = λ i j q r l a b. k.ordered i j q r l (in_outer i q a) (in_outer j r b);
  }

  -- values that there were when the scope was entered
  values_left : (saved : List Cell) → slice_get m.heap.cells.marks n' ≡ Some saved → all_needs m'.values ≤ length saved
  unfolding last_outer
  values_left saved c = let z = k.kept_values n' o saved last_outer c in omega (arith, z, ap all_needs h.values)

  cell_mark : slice_get m.heap.cells.marks n' ≡ Some h.cells.0
  unfolding cells_left
  cell_mark = ap (slice_get m.heap.cells.marks) (sym cells_left) ∙ at_last m.heap.cells.marks m'.heap.cells.marks h.cells.0 h.cells.1

  pub back_run : h.cells.0 ≡ m'.heap.cells.now → m'.text ≡ take o.printed m.text → m'.gone ≡ take o.absent m.gone → IsRun m'
  unfolding last_outer left_run values_left cell_mark
  back_run c text gone =
      let v = values_left h.cells.0 cell_mark in
      left_run (omega (arith, v, ap length c)) (omega (arith, ap length text, take_long o.printed m.text (k.printed n' o last_outer))) (omega (arith, ap length gone, take_long o.absent m.gone (k.absent n' o last_outer)))

  pub keep_run : m'.heap.cells.now ≡ m.heap.cells.now → m'.text ≡ m.text → m'.gone ≡ m.gone → IsRun m'
  unfolding last_outer left_run values_left cell_mark
  keep_run now text gone =
      let v = values_left h.cells.0 cell_mark in
      let g = grows_length (names_in h.cells.0) (names_in m.heap.cells.now) (core.marked.first n' h.cells.0 cell_mark) in
      left_run (omega (arith, v, g, count_names h.cells.0, count_names m.heap.cells.now, ap length now))
      (omega (arith, ap length text, k.printed n' o last_outer)) (omega (arith, ap length gone, k.absent n' o last_outer))

  pub room_left : (cap : ℕ) → HasRoom m cap → ((p : List ℕ) → m'.left_back ≡ Some p → length m'.gone ≤ o.absent) → HasRoom m' cap
  unfolding last_outer in_outer
  room_left cap r gone = record {
    kept = λ i q e. r.kept i q (in_outer i q e);
    now = λ p e. let z = r.kept n' o last_outer in let y = gone p e in omega (arith, z, y);
  }

  pub gone_short : m'.gone ≡ take o.absent m.gone → length m'.gone ≤ o.absent
  unfolding last_outer
  gone_short e = let z = take_long o.absent m.gone (k.absent n' o last_outer) in omega (arith, ap length e, z)

-- ---- from what the heap did

-- left and taken back
module _ (m m' : Run) (k : IsRun m) (core : IsCore m.heap) (o : Outer) (b : heap.LeavesBack m.heap m'.heap) (outer : m.outer ≡ m'.outer ++ o ∷ []) (body : m'.body ≡ o.body) (values : m'.values ≡ o.values.items)
    (text : m'.text ≡ take o.printed m.text) (gone : m'.gone ≡ take o.absent m.gone) where
  back_is_left : Left m m' o
  back_is_left = record {
    outer = outer;
    places = b.outer;
    keys = b.keys;
    cells = (m'.heap.cells.now, b.cells);
    slots = (m'.heap.slots.current, b.slots);
    body = body;
    values = values;
    fronts = λ q x y. record {
      printed = ap (take q.printed) text ∙ take_twice q.printed o.printed m.text x;
      absent = ap (take q.absent) gone ∙ take_twice q.absent o.absent m.gone y;
    };
  }

  last_mark : slice_get m.heap.cells.marks (length m'.outer) ≡ Some m'.heap.cells.now
  unfolding back_is_left cell_mark
  last_mark = cell_mark m k core m' o back_is_left

  last_kept : slice_get m.heap.slots.marks (length m'.outer) ≡ Some m'.heap.slots.current
  unfolding back_is_left slot_mark_at
  last_kept = slot_mark_at m k core m' o back_is_left

  pub goes_back : LeavesBack (seen_of m) (seen_of m')
  unfolding back_is_left last_mark last_kept
  goes_back = leaves_back m k core m' o back_is_left last_mark last_kept text gone b.left (core.marked.first (length m'.outer) m'.heap.cells.now last_mark)

  pub back_whole : IsRun m'
  unfolding back_is_left
  back_whole = back_run m k core m' o back_is_left refl text gone

  pub back_room : (cap : ℕ) → HasRoom m cap → HasRoom m' cap
  unfolding back_is_left
  back_room cap r = room_left m k core m' o back_is_left cap r (λ p e. gone_short m k core m' o back_is_left gone)

-- left and kept
module _ (m m' : Run) (k : IsRun m) (core : IsCore m.heap) (o : Outer) (b : heap.LeavesKeep m.heap m'.heap) (outer : m.outer ≡ m'.outer ++ o ∷ []) (body : m'.body ≡ o.body) (values : m'.values ≡ o.values.items)
    (text : m'.text ≡ m.text) (gone : m'.gone ≡ m.gone) (none : m'.left_back ≡ None) where
  keep_is_left : Left m m' o
  keep_is_left = record {
    outer = outer;
    places = b.outer;
    keys = b.keys;
    cells = b.cells;
    slots = b.slots;
    body = body;
    values = values;
    fronts = λ q x y. record { printed = ap (take q.printed) text; absent = ap (take q.absent) gone };
  }

  pub goes_keep : LeavesKeep (seen_of m) (seen_of m')
  unfolding keep_is_left cell_mark
  goes_keep = leaves_keep m k core m' o keep_is_left (b.cells.0, cell_mark m k core m' o keep_is_left) b.now b.current text gone b.left

  pub keep_whole : IsRun m'
  unfolding keep_is_left
  keep_whole = keep_run m k core m' o keep_is_left b.now text gone

  pub keep_room : (cap : ℕ) → HasRoom m cap → HasRoom m' cap
  unfolding keep_is_left
  keep_room cap r = room_left m k core m' o keep_is_left cap r (λ p e. let z : None ≡ Some p = sym none ∙ e in absurd (no_some z))
