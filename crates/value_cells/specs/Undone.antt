-- What undoes changes of cells, and the cells at an open mark (own rules).
use Rattle.std.specs.Prelude.{◌≡◌, ◌≤◌, ℕ, zero, suc, nat_eq, List, [], ◌∷◌, map, take, drop, Some, slice_get}
use Rattle.std.specs.Map.{set_value, remove_entry}
use Rattle.value_cells.specs.declared.CellData.{CellData}
use Rattle.value_cells.specs.declared.history.Undo.{Undo}
use Rattle.value_cells.specs.declared.history.Undo.TheVariants.{SetBack, TakeOut, PutBack}
use Rattle.value_cells.specs.declared.history.Step.{Step}
use Rattle.value_cells.specs.declared.history.Point.{Point}
use Rattle.value_cells.specs.Named.{Entries}

-- the properties of the cell with that number are changed, where there is one
abbrev pub changed : (Entries → Entries) → ℕ → List CellData → List CellData
changed f i [] = []
changed f zero (d ∷ ds) = record d { props = f d.props } ∷ ds
changed f (suc i) (d ∷ ds) = d ∷ changed f i ds

-- the cell with that number has these properties
abbrev pub put : ℕ → Entries → List CellData → List CellData
put i es ds = changed (λ _. es) i ds

abbrev pub undoing : Undo → Entries → Entries
undoing (SetBack k v) es = set_value (nat_eq k) es v
undoing (TakeOut k) es = remove_entry (nat_eq k) es
undoing (PutBack saved) es = saved

-- the last step is undone first
abbrev pub undone : List Step → List CellData → List CellData
undone [] ds = ds
undone (s ∷ ss) ds = changed (undoing s.undo) s.cell (undone ss ds)

-- the cells when a mark was set: those that there were, with the steps since undone
abbrev pub before : List Step → List CellData → Point → List CellData
before ss ds p = undone (drop p.steps ss) (take p.cells ds)

abbrev pub befores : List Step → List Point → List CellData → List (List CellData)
befores ss ps ds = map (before ss ds) ps

-- marks that were set one after another, with at most so many steps
pub record AreNested (steps : ℕ) (ps : List Point) : Type 0 where
  pub fewer : (i : ℕ) (p : Point) → slice_get ps i ≡ Some p → p.steps ≤ steps
  pub later : (i j : ℕ) (p q : Point) → i ≤ j → slice_get ps i ≡ Some p → slice_get ps j ≡ Some q → (p.cells ≤ q.cells) × (p.steps ≤ q.steps)

-- a change of that cell's properties changes nothing of what there was at the marks
abbrev pub IsFree : List Step → List Point → ℕ → Type 0
IsFree ss ps i = (ds : List CellData) (es : Entries) → befores ss ps (put i es ds) ≡ befores ss ps ds

-- that step puts all properties of the cell back
abbrev pub PutsBack : List Step → ℕ → ℕ → Type 0
PutsBack ss n i = (es : Entries) × (slice_get ss n ≡ Some (record { cell = i; undo = PutBack es }))
