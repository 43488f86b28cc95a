-- What is true of each heap is true after each step.
use Rattle.std.proofs.Common.{◌≡◌, refl, ap, sym, ◌∙◌, subst, ℕ, ◌<◌, List, length, Some, slice_get, arith}
use Rattle.turk_base.specs.Names.{Name}
use Rattle.branch_check.specs.Watch.{Kept}
use Rattle.value_cells.specs.Held.{Cell, Held}
use Rattle.value_cells.specs.Seen.{Grows}
use Rattle.slot_watch.specs.Slots.{Slots}
use Rattle.slot_watch.specs.Within.{CellsWithin}
use Rattle.run_heap.specs.declared.Place.{Place}
use Rattle.run_heap.specs.Core.{Core, names_in, Rests}
use Rattle.run_heap.specs.Whole.{Older, Nested, Marked, IsCore}

-- the cells keep their names, and the marks are the same
pub core_kept : (old : Core) → IsCore old → (cells : Held) (slots : Slots) (left : ℕ) → cells.marks ≡ old.cells.marks → slots.marks ≡ old.slots.marks → names_in cells.now ≡ names_in old.cells.now
    → CellsWithin (length cells.now) slots.current → IsCore (record { cells = cells; slots = slots; place = old.place; outer = old.outer; left = left })
core_kept old h cells slots left cm sm names within = record {
  own = subst (Older old.place) (sym names) h.own;
  others = λ i o e. subst (Older o) (sym names) (h.others i o e);
  nested = h.nested;
  marked = record {
    first = λ i a e. subst (Grows (names_in a)) (sym names) (h.marked.first i a (ap (λ l. slice_get l i) (sym cm) ∙ e));
    before = λ i j a b l e f. h.marked.before i j a b l (ap (λ l. slice_get l i) (sym cm) ∙ e) (ap (λ l. slice_get l j) (sym cm) ∙ f);
    within = λ i a k e f. h.marked.within i a k (ap (λ l. slice_get l i) (sym cm) ∙ e) (ap (λ l. slice_get l i) (sym sm) ∙ f);
  };
  within = within;
  as_many_cells = ap length cm ∙ h.as_many_cells;
  as_many_slots = ap length sm ∙ h.as_many_slots;
}

pub rests_then : (s t u : Core) → Rests s t → Rests t u → Rests s u
rests_then s t u x y = record {
  cells = y.cells ∙ x.cells;
  slots = record {
    marks = y.slots.marks ∙ x.slots.marks;
    meaning = λ nu i k e. y.slots.meaning nu i k (ap (λ l. slice_get l i) x.slots.marks ∙ e) ∙ x.slots.meaning nu i k e;
  };
  path = y.path ∙ x.path;
  branch = y.branch ∙ x.branch;
  calls = y.calls ∙ x.calls;
  outer = y.outer ∙ x.outer;
}

pub rests_same : (c : Core) → Rests c c
rests_same c = record { cells = refl; slots = record { marks = refl; meaning = λ nu i k e. refl }; path = refl; branch = refl; calls = refl; outer = refl }
