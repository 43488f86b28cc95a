-- What holds of each slot that a monitor speaks of.
use Rattle.std.specs.Prelude.{◌<◌, ◌≤◌, ℕ, List, [], ◌∷◌}
use Rattle.turk_base.specs.Names.{Slot}
use Rattle.turk_base.specs.State.{Opening, opening, Verdict, independent, touched_open, once_while_open, branch_threw}
use Rattle.branch_check.specs.Watch.{Watch, Kept, watch_of}
use Rattle.slot_watch.specs.Named.{number_of_cell, number_of_key}

abbrev pub Each : (Slot → Type 0) → List Opening → Type 0
Each P [] = Unit {0}
Each P (opening x p ∷ l) = P x × Each P l

abbrev pub InVerdict : (Slot → Type 0) → Verdict → Type 0
InVerdict P independent = Unit {0}
InVerdict P (touched_open x) = P x
InVerdict P (once_while_open x) = P x
InVerdict P (branch_threw p) = Unit {0}

pub record Holds (P : Slot → Type 0) (w : Watch) : Type 0 where
  pub opened : Each P w.opened
  pub verdict : InVerdict P w.verdict

-- each slot is of one of the first n cells
abbrev pub CellsWithin : ℕ → Kept → Type 0
CellsWithin n k = Holds (λ x. number_of_cell x < n) (watch_of k)

-- each slot's key is one of the first n
abbrev pub KeysWithin : ℕ → Kept → Type 0
KeysWithin n k = Holds (λ x. number_of_key x ≤ n) (watch_of k)
