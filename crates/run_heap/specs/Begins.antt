-- The heap that a run begins with: the built-in cells (the errors after ECMA-262 3rd ed. 15.11), and nothing else.
use Rattle.std.specs.Prelude.{◌≡◌, ℕ, suc, List, [], ◌∷◌, ◌++◌, length, Option, Some, None, slice_get, codes}
use Rattle.turk_base.specs.Names.{Name, root, cell}
use Rattle.turk_base.specs.Steps.{prototype_key}
use Rattle.turk_base.specs.Start.{start}
use Rattle.value_cells.specs.declared.Value.TheVariants.{Text, Object}
use Rattle.value_cells.specs.declared.CellName.{CellName}
use Rattle.value_cells.specs.declared.CellKind.TheVariants.{Plain, BuiltIn}
use Rattle.value_cells.specs.Held.{Cell, Key, names_of}
use Rattle.value_cells.specs.Seen.{Naming, Fits}
use Rattle.run_heap.specs.Core.{Core, names_in}
use Rattle.run_heap.specs.Placed.{placed}

-- the name of a cell of the script's scope
abbrev pub at_root : ℕ → CellName
at_root n = record { scope = []; number = n }

-- an error function with the number n, and its prototype with the next number
abbrev pub error_cells : ℕ → ℕ → Option ℕ → Key → List Cell
error_cells n which parent name =
    record { name = at_root n; kind = BuiltIn which; props = (prototype_key, Object (suc n)) ∷ [] }
    ∷ record { name = at_root (suc n); kind = Plain parent; props = (codes "name", Text name) ∷ (codes "message", Text []) ∷ [] } ∷ []

-- 0 Error, 2 TypeError, 4 ReferenceError, each with its prototype after it, and 6 String
abbrev pub first_cells : List Cell
first_cells =
    error_cells 0 13 None (codes "Error") ++ error_cells 2 14 (Some 1) (codes "TypeError") ++ error_cells 4 15 (Some 1) (codes "ReferenceError")
    ++ record { name = at_root 6; kind = BuiltIn 12; props = [] } ∷ []

-- each cell has its place as its number
abbrev pub AreCounted : List Cell → Type 0
AreCounted cells = (i : ℕ) (n : CellName) → slice_get (names_of cells) i ≡ Some n → n.number ≡ i

abbrev pub first_names : List Name
first_names = cell root 0 ∷ cell root 1 ∷ cell root 2 ∷ cell root 3 ∷ cell root 4 ∷ cell root 5 ∷ cell root 6 ∷ []

-- The script's scope runs alone, and the state is the one that a run begins with.
pub record Begins (fuel : ℕ) (h : Core) : Type 0 where
  pub names : names_in h.cells.now ≡ first_names
  pub first : (nu : Naming) → Fits nu first_names → placed nu h start ≡ start
  pub path : h.place.path ≡ []
  pub branch : h.place.branch ≡ []
  pub calls : h.place.calls ≡ 0
  pub outer : h.outer ≡ []
  pub left : h.left ≡ fuel
