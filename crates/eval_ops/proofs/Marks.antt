-- What taking back gives stays what it was, where the scopes around do.
use Rattle.std.proofs.Common.{◌≡◌, refl, ap, ◌∙◌, ℕ, zero, suc, ◌<◌, ◌≤◌, List, ◌∷◌, length, take, map, Option, Some, None, slice_get, arith}
use Rattle.std.specs.Prelude.{reverse}
use Rattle.turk_base.specs.Names.{path_in}
use Rattle.branch_check.specs.Watch.{Kept}
use Rattle.value_cells.specs.Held.{Cell}
use Rattle.value_cells.specs.Seen.{Naming, val_in}
use Rattle.slot_watch.specs.Named.{named}
use Rattle.run_heap.specs.declared.Place.{Place}
use Rattle.run_heap.specs.Placed.{known_of, props_of}
use Rattle.eval_ops.specs.declared.Outer.{Outer}
use Rattle.eval_ops.specs.Run.{Run, first_at, marked, back_of, scope_of, scopes}

-- what a scope around had still stands at the front
pub record Fronts (m m' : Run) (o : Outer) : Type 0 where
  pub printed : take o.printed m'.text ≡ take o.printed m.text
  pub absent : take o.absent m'.gone ≡ take o.absent m.gone

-- the scope i around is the same
pub record SameAt (m m' : Run) (i : ℕ) : Type 0 where
  pub cells : slice_get m'.heap.cells.marks i ≡ slice_get m.heap.cells.marks i
  pub slots : slice_get m'.heap.slots.marks i ≡ slice_get m.heap.slots.marks i
  pub place : slice_get m'.heap.outer i ≡ slice_get m.heap.outer i
  pub outer : slice_get m'.outer i ≡ slice_get m.outer i
  pub meaning : (nu : Naming) (k : Kept) → slice_get m.heap.slots.marks i ≡ Some k → named nu m'.heap.slots.keys k ≡ named nu m.heap.slots.keys k
  pub fronts : (o : Outer) → slice_get m.outer i ≡ Some o → Fronts m m' o

pub marked_same : (m m' : Run) (i : ℕ) → SameAt m m' i → marked m' i ≡ marked m i
marked_same m m' i s =
    (λ x. first_at (s.cells x) (s.slots x) (s.place x) (s.outer x) m'.heap.slots.keys m'.text m'.gone)
    ∙ (λ x nu. by nu (slice_get m.heap.cells.marks i) (slice_get m.heap.slots.marks i) refl (slice_get m.heap.outer i) (slice_get m.outer i) refl x)
  where
    by : (nu : Naming) (cells : Option (List Cell)) (kept : Option Kept) → slice_get m.heap.slots.marks i ≡ kept → (place : Option Place) (o : Option Outer) → slice_get m.outer i ≡ o
        → first_at cells kept place o m'.heap.slots.keys m'.text m'.gone nu ≡ first_at cells kept place o m.heap.slots.keys m.text m.gone nu
    by nu (Some cells) (Some kept) k (Some place) (Some o) e =
        let w = s.meaning nu kept k in
        let f = s.fronts o e in
        λ x. record {
          calls = place.calls;
          cells = place.made;
          vals = map (val_in nu) o.values.items;
          known = known_of nu cells;
          props = props_of nu cells;
          text = f.printed x;
          opened = (w x).opened;
          verdict = (w x).verdict;
          gone = map path_in (reverse (f.absent x));
        }
    by nu (Some cells) (Some kept) k (Some place) None e = refl
    by nu (Some cells) (Some kept) k None o e = refl
    by nu (Some cells) None k p o e = refl
    by nu None kept k p o e = refl

-- the first n scopes around are the same
pub record Alike (n : ℕ) (m m' : Run) : Type 0 where
  pub same : (i : ℕ) → i < n → SameAt m m' i

module _ (n : ℕ) (m m' : Run) (a : Alike n m m') where
  pub back_same : (i : ℕ) → i ≤ n → back_of m' i ≡ back_of m i
  back_same zero h = refl
  back_same (suc i) h = marked_same m m' i (a.same i (omega arith))

  pub scopes_same : (k : ℕ) → k ≤ n → scopes m' k ≡ scopes m k
  scopes_same zero h = refl
  scopes_same (suc i) h =
      let s = a.same i (omega arith) in
      let b = back_same i (omega arith) in
      let r = scopes_same i (omega arith) in
      λ x. scope_of (b x) (s.place x) (s.outer x) ∷ r x

-- as many scopes are seen as there are around
pub scopes_many : (m : Run) (n : ℕ) → length (scopes m n) ≡ n
scopes_many m zero = refl
scopes_many m (suc i) = ap suc (scopes_many m i)
