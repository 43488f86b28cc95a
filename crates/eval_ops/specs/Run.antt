-- What a contract sees of a machine, and how that is the state of a run.
use Rattle.std.specs.Prelude.{ℕ, zero, suc, Bool, false, List, [], ◌∷◌, length, map, take, reverse, Option, Some, None, slice_get}
use Rattle.turk_base.specs.Names.{root, path_in}
use Rattle.turk_base.specs.State.{St}
use Rattle.turk_base.specs.Start.{start}
use Rattle.branch_check.specs.Watch.{Kept}
use Rattle.value_cells.specs.declared.Value.{Value}
use Rattle.value_cells.specs.Held.{Cell}
use Rattle.value_cells.specs.Seen.{Naming, Scope, Seen, val_in}
use Rattle.run_heap.specs.declared.Place.{Place}
use Rattle.run_heap.specs.Core.{Core}
use Rattle.run_heap.specs.Placed.{placed, Around, seen_in}
use Rattle.eval_ops.specs.declared.Outer.{Outer}

-- The heap; of the scope that runs whether it is in a once body, and the values of its branches; the output; the absent branches,
-- the first noted first; of each scope around what it had when it was left; the path of the branch that was taken back last.
pub record Run : Type 0 where
  pub heap : Core
  pub body : Bool
  pub values : List Value
  pub text : List ℕ
  pub gone : List (List ℕ)
  pub outer : List Outer
  pub left_back : Option (List ℕ)

-- the rest of the state, but for what the heap has: the calls that took an index, values of branches, output, absent branches
abbrev pub stands : ℕ → List Value → List ℕ → List (List ℕ) → Naming → St
stands calls values text gone nu = record start { calls = calls; vals = map (val_in nu) values; text = text; gone = map path_in (reverse gone) }

-- ---- what taking back gives

-- a heap with these cells, what the watch kept, and the scope that runs
abbrev pub heap_at : List Cell → Kept → List (List ℕ) → Place → Core
heap_at cells kept keys place = record {
  cells = record { now = cells; marks = [] };
  slots = record { keys = keys; current = kept; marks = [] };
  place = place;
  outer = [];
  left = 0;
}

abbrev pub first_at : Option (List Cell) → Option Kept → Option Place → Option Outer → List (List ℕ) → List ℕ → List (List ℕ) → Naming → St
first_at (Some cells) (Some kept) (Some place) (Some o) keys text gone nu =
    placed nu (heap_at cells kept keys place) (stands place.calls o.values.items (take o.printed text) (take o.absent gone) nu)
first_at (Some cells) (Some kept) (Some place) None keys text gone nu = start
first_at (Some cells) (Some kept) None o keys text gone nu = start
first_at (Some cells) None p o keys text gone nu = start
first_at None k p o keys text gone nu = start

-- the first part of the state when the scope i around was left
abbrev pub marked : Run → ℕ → Naming → St
marked m i = first_at (slice_get m.heap.cells.marks i) (slice_get m.heap.slots.marks i) (slice_get m.heap.outer i) (slice_get m.outer i) m.heap.slots.keys m.text m.gone

-- what taking back the scope i gives: the script's is never taken back
abbrev pub back_of : Run → ℕ → Naming → St
back_of m zero = λ nu. start
back_of m (suc i) = marked m i

abbrev pub scope_of : (Naming → St) → Option Place → Option Outer → Scope
scope_of back (Some place) (Some o) = record { path = path_in place.path; branch = path_in place.branch; body = o.body; back = back }
scope_of back (Some place) None = record { path = path_in place.path; branch = path_in place.branch; body = false; back = back }
scope_of back None o = record { path = root; branch = root; body = false; back = back }

-- the first k scopes, the innermost first
abbrev pub scopes : Run → ℕ → List Scope
scopes m zero = []
scopes m (suc i) = scope_of (back_of m i) (slice_get m.heap.outer i) (slice_get m.outer i) ∷ scopes m i

abbrev pub around : Run → Around
around m = record {
  base = stands m.heap.place.calls m.values m.text m.gone;
  body = m.body;
  back = back_of m (length m.outer);
  outer = scopes m (length m.outer);
}

abbrev pub seen_of : Run → Seen
seen_of m = seen_in (around m) m.heap

abbrev pub count : Run → ℕ
count m = length m.heap.cells.now
