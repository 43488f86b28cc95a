-- The rules on open slots as they are kept: numbers of cells and keys, and paths as lists (own rules).
use Rattle.std.specs.Prelude.{ℕ, zero, suc, Bool, false, ◌&&◌, ◌||◌, ◌==◌, not, List, [], ◌∷◌, ◌++◌, Option, Some, None, if◌then◌else◌}
use Rattle.turk_base.specs.Trace.{begins}
use Rattle.branch_check.specs.declared.Slot.{Slot}
use Rattle.branch_check.specs.declared.OpenSlot.{OpenSlot}

-- slots in order of first writing, each with the path that it is open by
abbrev pub Pairs : Type 0
Pairs = List (Slot × List ℕ)

abbrev pub same_slot : Slot → Slot → Bool
same_slot x y = (x.cell == y.cell) && (x.key == y.key)

abbrev pub open_slot : Slot → List ℕ → OpenSlot
open_slot x b = record { slot = x; by = b }

-- the pairs as a contract of the monitor sees them
abbrev pub shown : Pairs → List OpenSlot
shown [] = []
shown (e ∷ es) = open_slot e.0 e.1 ∷ shown es

-- the slot is open by a path that is no prefix of b
abbrev pub met : List ℕ → Slot → Pairs → Bool
met b x [] = false
met b x (e ∷ es) = (same_slot x e.0 && not (begins e.1 b)) || met b x es

-- the first slot that is open by a path that is no prefix of b
abbrev pub first_met : List ℕ → Pairs → Option Slot
first_met b [] = None
first_met b (e ∷ es) = if begins e.1 b then first_met b es else Some e.0

-- the slot is open by b, in its place or last
abbrev pub opened : Slot → List ℕ → Pairs → Pairs
opened x b [] = (x, b) ∷ []
opened x b (e ∷ es) = if same_slot x e.0 then (e.0, b) ∷ es else e ∷ opened x b es

-- a slot that is open by the empty path is closed
abbrev pub kept_by : List ℕ → Slot → Pairs
kept_by [] x = []
kept_by (i ∷ s) x = (x, i ∷ s) ∷ []

-- what one open slot becomes where branches join in s
abbrev pub joined_one : List ℕ → Slot × List ℕ → Pairs
joined_one s e = if begins s e.1 then kept_by s e.0 else e ∷ []

-- only the one at that place
abbrev pub joined_at : List ℕ → ℕ → Pairs → Pairs
joined_at s i [] = []
joined_at s zero (e ∷ es) = joined_one s e ++ es
joined_at s (suc i) (e ∷ es) = e ∷ joined_at s i es
