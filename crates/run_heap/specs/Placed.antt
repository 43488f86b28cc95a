-- The cells of the code as the state of a run has them, under a naming of the cells.
use Rattle.std.specs.Prelude.{◌≡◌, ℕ, zero, suc, Bool, List, [], ◌∷◌, length, map, Option, Some, None, slice_get}
use Rattle.turk_base.specs.Names.{Name, path_in, pick, name_eq}
use Rattle.turk_base.specs.Values as model
use Rattle.turk_base.specs.Values.{Val, Known, Property, property}
use Rattle.turk_base.specs.State.{St}
use Rattle.branch_check.specs.Watch.{Watch}
use Rattle.value_cells.specs.declared.Value.{Value}
use Rattle.value_cells.specs.declared.CellKind.{CellKind}
use Rattle.value_cells.specs.declared.CellKind.TheVariants.{Frame, Plain, Array, Function, BuiltIn}
use Rattle.value_cells.specs.Held.{Cell, Props, kinds_of, props_at}
use Rattle.value_cells.specs.Seen.{Naming, Scope, Seen, val_in, kind_in}
use Rattle.slot_watch.specs.Named.{named}
use Rattle.run_heap.specs.Core.{Core, names_in}

-- the prototypes of a cell, its own first; d is more than their count
abbrev pub above : Option CellKind → (ℕ → List ℕ) → List ℕ
above None go = []
above (Some (Frame parent)) go = []
above (Some (Plain None)) go = []
above (Some (Plain (Some p))) go = p ∷ go p
above (Some Array) go = []
above (Some (Function number frame)) go = []
above (Some (BuiltIn which)) go = []

abbrev pub chain_from : List CellKind → ℕ → ℕ → List ℕ
chain_from kinds zero i = []
chain_from kinds (suc d) i = above (slice_get kinds i) (chain_from kinds d)

-- each prototype was made before its cell
abbrev pub chain_of : List CellKind → ℕ → List ℕ
chain_of kinds i = chain_from kinds (suc i) i

abbrev pub props_in : Naming → Props → List Property
props_in nu ps = map (λ e. property e.0 (val_in nu e.1)) ps

-- what f gives of the first k cells, by their names, and z of each other name
abbrev pub table : {B : Type 0} → Naming → (ℕ → B) → B → ℕ → Name → B
table nu f z zero m = z
table nu f z (suc i) m = pick (name_eq m (nu i)) (f i) (table nu f z i m)

-- what is known of one cell
abbrev pub known_one : Naming → List CellKind → ℕ → Option CellKind → Option Known
known_one nu kinds i None = None
known_one nu kinds i (Some kind) = Some (record { kind = kind_in nu kind; chain = map nu (chain_of kinds i) })

abbrev pub known_of : Naming → List Cell → Name → Option Known
known_of nu cells = table nu (λ i. known_one nu (kinds_of cells) i (slice_get (kinds_of cells) i)) None (length cells)

abbrev pub props_of : Naming → List Cell → Name → List Property
props_of nu cells = table nu (λ i. props_in nu (props_at cells i)) [] (length cells)

-- the state, with cells, open slots and verdict of the heap
abbrev pub placed : Naming → Core → St → St
placed nu c σ =
    let w : Watch = named nu c.slots.keys c.slots.current in
    record σ { cells = c.place.made; known = known_of nu c.cells.now; props = props_of nu c.cells.now; opened = w.opened; verdict = w.verdict }

-- What a heap stands in: the rest of the state, whether it is in a once body, what taking back gives, and the scopes around.
pub record Around : Type 0 where
  pub base : Naming → St
  pub body : Bool
  pub back : Naming → St
  pub outer : List Scope

abbrev pub seen_in : Around → Core → Seen
seen_in r c = record {
  names = names_in c.cells.now;
  first = λ nu. placed nu c (r.base nu);
  scope = record { path = path_in c.place.path; branch = path_in c.place.branch; body = r.body; back = r.back };
  outer = r.outer;
  left = c.left;
}
