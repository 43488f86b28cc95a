-- What is true of each heap is true after a scope is entered and left.
use Rattle.std.proofs.Common.{◌≡◌, refl, ap, sym, ◌∙◌, subst, ℕ, zero, suc, ◌+◌, ◌<◌, ◌≤◌, nat_lt, Bool, true, false, List, [], ◌∷◌, ◌++◌, length, Some, slice_get, if◌then◌else◌, arith, length-append}
use Rattle.std.proofs.lemmas.Bool.Decides.{nat_tests}
use Rattle.std.proofs.lemmas.Option.{slice_get_within}
use Rattle.turk_base.specs.Names.{Path, root, sub, path_on, path_in, Name, Under, self, down, home}
use Rattle.branch_check.specs.Watch.{Kept}
use Rattle.value_cells.specs.Held.{Cell, Held}
use Rattle.value_cells.specs.Seen.{Grows}
use Rattle.value_cells.proofs.Lists.{get_front, get_last, pushed}
use Rattle.slot_watch.specs.Slots.{Slots}
use Rattle.slot_watch.specs.Within.{CellsWithin}
use Rattle.run_heap.specs.declared.Place.{Place}
use Rattle.run_heap.specs.Core.{Core, names_in}
use Rattle.run_heap.specs.Scopes.{IsReady}
use Rattle.run_heap.specs.Whole.{Older, IsIn, Nested, Marked, IsCore}
use Rattle.run_heap.proofs.Tables.{there, path_apart}

older_less : (p : Place) (a b : List Name) → Grows a b → Older p b → Older p a
older_less p a b g h = record { own = λ i n e s. h.own i n (g i n e) s; below = λ i k n e u. h.below i k n (g i n e) u }

-- a list with one more, seen from what it was
module _ {A : Type 0} (all front : List A) (last : A) (is : all ≡ front ++ last ∷ []) where
  in_front : (i : ℕ) (x : A) → slice_get front i ≡ Some x → slice_get all i ≡ Some x
  in_front i x e = ap (λ l. slice_get l i) is ∙ get_front front (last ∷ []) i x e

  at_last : slice_get all (length front) ≡ Some last
  at_last = ap (λ l. slice_get l (length front)) is ∙ get_last front last

  longer : length all ≡ suc (length front)
  longer = ap length is ∙ length-append front (last ∷ []) ∙ omega arith

-- what stands before the last
front_of : {A : Type 0} (front : List A) (last : A) (i : ℕ) (x : A) → slice_get (front ++ last ∷ []) i ≡ Some x → i < length front → slice_get front i ≡ Some x
front_of front last i x e h =
    let t = there front i h in
    let q : Some t.0 ≡ Some x = sym (get_front front (last ∷ []) i t.0 t.1) ∙ e in
    t.1 ∙ q

-- lists with one more that are equal
pub front_same : {A : Type 0} (a b : List A) (x y : A) → a ++ x ∷ [] ≡ b ++ y ∷ [] → a ≡ b
front_same [] [] x y e = refl
front_same [] (z ∷ b) x y e = let h : 1 ≡ suc (length b + 1) = ap length e ∙ ap suc (length-append b (y ∷ [])) in absurd (omega (arith, h))
front_same (z ∷ a) [] x y e = let h : suc (length a + 1) ≡ 1 = sym (ap suc (length-append a (x ∷ []))) ∙ ap length e in absurd (omega (arith, h))
front_same (z ∷ a) (w ∷ b) x y e =
    let h : z ≡ w = cc in
    let t : a ++ x ∷ [] ≡ b ++ y ∷ [] = cc in
    let r = front_same a b x y t in
    λ i. h i ∷ r i

-- a mark that is closed again
pub held_back : (old mid new : Held) (saved : List Cell) → mid.now ≡ old.now → mid.marks ≡ old.marks ++ old.now ∷ [] → new.now ≡ mid.now → mid.marks ≡ new.marks ++ saved ∷ [] → new ≡ old
held_back old mid new saved n m k c =
    let now = k ∙ n in
    let marks = front_same new.marks old.marks saved old.now (sym c ∙ m) in
    λ i. record { now = now i; marks = marks i }

pub held_same : (old new : Held) → new.now ≡ old.now → new.marks ≡ old.marks → new ≡ old
held_same old new n m = λ i. record { now = n i; marks = m i }

-- ---- left, with what there was

module _ (old : Core) (k : IsCore old) (cells : Held) (slots : Slots) (place : Place) (outer : List Place) (left : ℕ) (oo : old.outer ≡ outer ++ place ∷ []) where
  abbrev pub after : Core
  after = record { cells = cells; slots = slots; place = place; outer = outer; left = left }

  nested_left : Nested place outer
  nested_left = record {
    shorter = λ i o e. let w = slice_get_within outer i o e in k.nested.apart i (length outer) o place w (in_front old.outer outer place oo i o e) (at_last old.outer outer place oo);
    apart = λ i j o p l e f. k.nested.apart i j o p l (in_front old.outer outer place oo i o e) (in_front old.outer outer place oo j p f);
    inside = λ i m o e. let w = slice_get_within outer i o e in k.nested.between i (length outer) m o place w (in_front old.outer outer place oo i o e) (at_last old.outer outer place oo);
    between = λ i j m o p l e f. k.nested.between i j m o p l (in_front old.outer outer place oo i o e) (in_front old.outer outer place oo j p f);
    branches = λ i o e. k.nested.branches i o (in_front old.outer outer place oo i o e);
    here = k.nested.branches (length outer) place (at_last old.outer outer place oo);
  }

  pub core_back : (oc : old.cells.marks ≡ cells.marks ++ cells.now ∷ []) (os : old.slots.marks ≡ slots.marks ++ slots.current ∷ []) → IsCore after
  core_back oc os =
      let long = longer old.outer outer place oo in
      let long_c = longer old.cells.marks cells.marks cells.now oc in
      let long_s = longer old.slots.marks slots.marks slots.current os in
      let n = length cells.marks in
      let m_last = at_last old.cells.marks cells.marks cells.now oc in
      let same : length slots.marks ≡ n = omega (arith, long_c, long_s, k.as_many_cells, k.as_many_slots) in
      let s_last : slice_get old.slots.marks n ≡ Some slots.current = ap (slice_get old.slots.marks) (sym same) ∙ at_last old.slots.marks slots.marks slots.current os in
      let grows = k.marked.first n cells.now m_last in
      record {
        own = older_less place (names_in cells.now) (names_in old.cells.now) grows (k.others (length outer) place (at_last old.outer outer place oo));
        others = λ i o e. older_less o (names_in cells.now) (names_in old.cells.now) grows (k.others i o (in_front old.outer outer place oo i o e));
        nested = nested_left;
        marked = record {
          first = λ i a e. let w = slice_get_within cells.marks i a e in k.marked.before i n a cells.now w (in_front old.cells.marks cells.marks cells.now oc i a e) m_last;
          before = λ i j a b l e f. k.marked.before i j a b l (in_front old.cells.marks cells.marks cells.now oc i a e) (in_front old.cells.marks cells.marks cells.now oc j b f);
          within = λ i a q e f. k.marked.within i a q (in_front old.cells.marks cells.marks cells.now oc i a e) (in_front old.slots.marks slots.marks slots.current os i q f);
        };
        within = k.marked.within n cells.now slots.current m_last s_last;
        as_many_cells = omega (arith, long, long_c, k.as_many_cells);
        as_many_slots = omega (arith, long, long_s, k.as_many_slots);
      }

  pub core_keep : cells.now ≡ old.cells.now → slots.current ≡ old.slots.current → (a : List Cell) → old.cells.marks ≡ cells.marks ++ a ∷ [] → (q : Kept) → old.slots.marks ≡ slots.marks ++ q ∷ [] → IsCore after
  core_keep now current a oc q os =
      let long = longer old.outer outer place oo in
      let long_c = longer old.cells.marks cells.marks a oc in
      let long_s = longer old.slots.marks slots.marks q os in
      let names = ap names_in now in
      record {
        own = subst (Older place) (sym names) (k.others (length outer) place (at_last old.outer outer place oo));
        others = λ i o e. subst (Older o) (sym names) (k.others i o (in_front old.outer outer place oo i o e));
        nested = nested_left;
        marked = record {
          first = λ i b e. subst (Grows (names_in b)) (sym names) (k.marked.first i b (in_front old.cells.marks cells.marks a oc i b e));
          before = λ i j b d l e f. k.marked.before i j b d l (in_front old.cells.marks cells.marks a oc i b e) (in_front old.cells.marks cells.marks a oc j d f);
          within = λ i b r e f. k.marked.within i b r (in_front old.cells.marks cells.marks a oc i b e) (in_front old.slots.marks slots.marks q os i r f);
        };
        within = subst (λ (n : ℕ). CellsWithin n slots.current) (sym (ap length now)) (subst (CellsWithin (length old.cells.now)) (sym current) k.within);
        as_many_cells = omega (arith, long, long_c, k.as_many_cells);
        as_many_slots = omega (arith, long, long_s, k.as_many_slots);
      }

-- ---- entered

-- how many indexes a path has
depth : Path → ℕ
depth root = zero
depth (sub i p) = suc (depth p)

deeper : {p q : Path} → Under p q → depth p ≤ depth q
unfolding depth
deeper self = omega arith
deeper (down u) = let h = deeper u in omega (arith, h)

pub no_loop : {i : ℕ} {p : Path} → Under (sub i p) p → ⊥
unfolding depth
no_loop u = let h = deeper u in omega (arith, h)

pub above_of : {i : ℕ} {p q : Path} → Under (sub i p) q → Under p q
above_of self = down self
above_of (down u) = down (above_of u)

last_of : ℕ → Path → ℕ
last_of d root = d
last_of d (sub i p) = i

before_last : Path → Path
before_last root = root
before_last (sub i p) = p

by_step : (m index : ℕ) (p q : Path) (calls : ℕ) → (p ≡ q → m ≡ index → m < calls) → (Under (sub m p) q → m < calls) → Under (sub m p) (sub index q) → m < calls
unfolding last_of before_last
by_step m index p q calls here up u = inner u refl
  where
    inner : {r : Path} → Under (sub m p) r → r ≡ sub index q → m < calls
    inner self e = here (ap before_last e) (ap (last_of 0) e)
    inner (down v) e = up (subst (λ z. Under (sub m p) z) (ap before_last e) v)

path_push : (p : Path) (l : List ℕ) (i : ℕ) → path_on p (l ++ i ∷ []) ≡ sub i (path_on p l)
path_push p [] i = refl
path_push p (j ∷ l) i = path_push (sub j p) l i

module _ (old : Core) (k : IsCore old) (cells : Held) (slots : Slots) (place : Place) (outer : List Place) (branch : Bool) (index : ℕ)
    (now : cells.now ≡ old.cells.now) (marks : cells.marks ≡ old.cells.marks ++ old.cells.now ∷ []) (current : slots.current ≡ old.slots.current) (kept : slots.marks ≡ old.slots.marks ++ old.slots.current ∷ [])
    (path : place.path ≡ old.place.path ++ index ∷ []) (held : place.branch ≡ (if branch then place.path else old.place.branch)) (outer_is : outer ≡ old.outer ++ old.place ∷ [])
    (counted : index < old.place.calls) (unused : (i : ℕ) (n : Name) → slice_get (names_in old.cells.now) i ≡ Some n → Under (path_in place.path) (home n) → ⊥) where
  abbrev pub entered : Core
  entered = record { cells = cells; slots = slots; place = place; outer = outer; left = old.left }

  names : names_in cells.now ≡ names_in old.cells.now
  names = ap names_in now

  on_outer : (P : ℕ → Place → Type 0) → ((i : ℕ) (o : Place) → slice_get old.outer i ≡ Some o → P i o) → P (length old.outer) old.place → (i : ℕ) (o : Place) → slice_get outer i ≡ Some o → P i o
  on_outer P before last i o e = pushed P old.outer old.place before last i o (ap (λ l. slice_get l i) (sym outer_is) ∙ e)

  on_marks : (P : ℕ → List Cell → Type 0) → ((i : ℕ) (a : List Cell) → slice_get old.cells.marks i ≡ Some a → P i a) → P (length old.cells.marks) old.cells.now → (i : ℕ) (a : List Cell) → slice_get cells.marks i ≡ Some a → P i a
  on_marks P before last i a e = pushed P old.cells.marks old.cells.now before last i a (ap (λ l. slice_get l i) (sym marks) ∙ e)

  longer_path : length place.path ≡ suc (length old.place.path)
  longer_path = ap length path ∙ length-append old.place.path (index ∷ []) ∙ omega arith

  path_is : path_in place.path ≡ sub index (path_in old.place.path)
  path_is = ap path_in path ∙ path_push root old.place.path index

  holds : (b : Bool) → Under (path_in (if b then place.path else old.place.branch)) (path_in place.path)
  holds true = self
  holds false = subst (λ p. Under (path_in old.place.branch) p) (sym (ap path_in path ∙ path_push root old.place.path index)) (down k.nested.here)

  pub core_enter : (place.made ≡ 0) → IsCore entered
  core_enter made = record {
    own = record {
      own = λ i n e s. absurd (unused i n (ap (λ l. slice_get l i) (sym names) ∙ e) (subst (λ p. Under (path_in place.path) p) (sym s) self));
      below = λ i m n e u. absurd (unused i n (ap (λ l. slice_get l i) (sym names) ∙ e) (above_of u));
    };
    others = on_outer (λ i o. Older o (names_in cells.now)) (λ i o e. subst (Older o) (sym names) (k.others i o e)) (subst (Older old.place) (sym names) k.own);
    nested = record {
      shorter = on_outer (λ i o. length o.path < length place.path) (λ i o e. let h = k.nested.shorter i o e in omega (arith, h, longer_path)) (omega (arith, longer_path));
      apart = λ i j o p l e f.
          let e2 = ap (λ l. slice_get l i) (sym outer_is) ∙ e in
          on_outer (λ j p. i < j → length o.path < length p.path)
          (λ j p f l. let w = slice_get_within old.outer j p f in k.nested.apart i j o p l (front_of old.outer old.place i o e2 (omega (arith, w, l))) f)
          (λ l. k.nested.shorter i o (front_of old.outer old.place i o e2 l)) j p f l;
      inside = λ i m o e u. on_outer (λ i o. Under (sub m (path_in o.path)) (path_in place.path) → m < o.calls)
          (λ i o e u. let h = k.nested.shorter i o e in by_step m index (path_in o.path) (path_in old.place.path) o.calls (λ q. absurd (let z = ap length (path_apart o.path old.place.path q) in omega (arith, h, z))) (λ v. k.nested.inside i m o e v) (subst (λ p. Under (sub m (path_in o.path)) p) path_is u))
          (λ u. by_step m index (path_in old.place.path) (path_in old.place.path) old.place.calls (λ q e. subst (λ (j : ℕ). j < old.place.calls) (sym e) counted) (λ v. absurd (no_loop v)) (subst (λ p. Under (sub m (path_in old.place.path)) p) path_is u)) i o e u;
      between = λ i j m o p l e f.
          let e2 = ap (λ l. slice_get l i) (sym outer_is) ∙ e in
          on_outer (λ j p. i < j → Under (sub m (path_in o.path)) (path_in p.path) → m < o.calls)
          (λ j p f l. let w = slice_get_within old.outer j p f in k.nested.between i j m o p l (front_of old.outer old.place i o e2 (omega (arith, w, l))) f)
          (λ l. k.nested.inside i m o (front_of old.outer old.place i o e2 l)) j p f l;
      branches = on_outer (λ i o. IsIn o) (λ i o e. k.nested.branches i o e) k.nested.here;
      here = subst (λ b. Under (path_in b) (path_in place.path)) (sym held) (holds branch);
    };
    marked = record {
      first = on_marks (λ i a. Grows (names_in a) (names_in cells.now)) (λ i a e. subst (Grows (names_in a)) (sym names) (k.marked.first i a e)) (subst (Grows (names_in old.cells.now)) (sym names) (λ i n e. e));
      before = λ i j a b l e f.
          let e2 = ap (λ l. slice_get l i) (sym marks) ∙ e in
          on_marks (λ j b. i < j → Grows (names_in a) (names_in b))
          (λ j b f l. let w = slice_get_within old.cells.marks j b f in k.marked.before i j a b l (front_of old.cells.marks old.cells.now i a e2 (omega (arith, w, l))) f)
          (λ l. k.marked.first i a (front_of old.cells.marks old.cells.now i a e2 l)) j b f l;
      within = λ i a q e f.
          let f2 = ap (λ l. slice_get l i) (sym kept) ∙ f in
          let same : length old.slots.marks ≡ length old.cells.marks = k.as_many_slots ∙ sym k.as_many_cells in
          on_marks (λ i a. slice_get (old.slots.marks ++ old.slots.current ∷ []) i ≡ Some q → CellsWithin (length a) q)
          (λ i a e f. let w = slice_get_within old.cells.marks i a e in k.marked.within i a q e (front_of old.slots.marks old.slots.current i q f (omega (arith, w, same))))
          (λ f.
          let g : Some old.slots.current ≡ Some q = sym (get_last old.slots.marks old.slots.current) ∙ ap (slice_get (old.slots.marks ++ old.slots.current ∷ [])) same ∙ f in
          let h : old.slots.current ≡ q = cc in
          subst (CellsWithin (length old.cells.now)) h k.within) i a e f2;
    };
    within = subst (λ (n : ℕ). CellsWithin n slots.current) (sym (ap length now)) (subst (CellsWithin (length old.cells.now)) (sym current) k.within);
    as_many_cells = ap length marks ∙ length-append old.cells.marks (old.cells.now ∷ []) ∙ omega (arith, k.as_many_cells, ap length outer_is, length-append old.outer (old.place ∷ []));
    as_many_slots = ap length kept ∙ length-append old.slots.marks (old.slots.current ∷ []) ∙ omega (arith, k.as_many_slots, ap length outer_is, length-append old.outer (old.place ∷ []));
  }

-- ---- a call takes an index

abbrev pub called : Core → Core
called c = record c { place = record c.place { calls = c.place.calls + 1 } }

pub core_called : (c : Core) → IsCore c → IsCore (called c)
core_called c k = record {
  own = record { own = k.own.own; below = λ i m n e u. let h = k.own.below i m n e u in omega (arith, h) };
  others = k.others;
  nested = record { shorter = k.nested.shorter; apart = k.nested.apart; inside = k.nested.inside; between = k.nested.between; branches = k.nested.branches; here = k.nested.here };
  marked = k.marked;
  within = k.within;
  as_many_cells = k.as_many_cells;
  as_many_slots = k.as_many_slots;
}

-- no cell stands below an index that was not taken
pub ready_next : (c : Core) → IsCore c → (p : List ℕ) → p ≡ c.place.path ++ c.place.calls ∷ [] → IsReady p c.place.path (c.place.calls + 1) (names_in c.cells.now)
ready_next c k p e = record {
  index = c.place.calls;
  path = e;
  counted = omega arith;
  free = record {
    unused = λ i n f u.
        let is : path_in p ≡ sub c.place.calls (path_in c.place.path) = ap path_in e ∙ path_push root c.place.path c.place.calls in
        let h = k.own.below i c.place.calls n f (subst (λ q. Under q (home n)) is u) in
        absurd (omega (arith, h));
  };
}
