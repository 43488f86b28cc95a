-- Slots under other names, and what a monitor of branches holds of them (own rules).
use Rattle.std.specs.Prelude.{◌≡◌, ◌<◌, ℕ, zero, List, [], ◌∷◌}
use Rattle.turk_base.specs.Names.{Name, cell, Part, shape, at, Slot, slot}
use Rattle.turk_base.specs.State.{Opening, opening, Verdict, independent, touched_open, once_while_open, branch_threw}
use Rattle.branch_check.specs.Watch.{Watch, Kept, watch_of}
use Rattle.key_table.specs.Keys.{Key}
use Rattle.slot_watch.specs.Keys.{part_in}

-- the numbers that a slot of the monitor stands for
abbrev pub key_number : Part → ℕ
key_number shape = zero
key_number (at []) = zero
key_number (at (k ∷ l)) = k

abbrev pub cell_number : Name → ℕ
cell_number (cell s n) = n

abbrev pub number_of_cell : Slot → ℕ
number_of_cell (slot c y) = cell_number c

abbrev pub number_of_key : Slot → ℕ
number_of_key (slot c y) = key_number y

-- the slot with the names of its cell and its key
abbrev pub by_names : (ℕ → Name) → List Key → Slot → Slot
by_names nu keys x = slot (nu (number_of_cell x)) (part_in keys (number_of_key x))

abbrev pub renamed_all : (Slot → Slot) → List Opening → List Opening
renamed_all r [] = []
renamed_all r (opening x p ∷ l) = opening (r x) p ∷ renamed_all r l

abbrev pub renamed_verdict : (Slot → Slot) → Verdict → Verdict
renamed_verdict r independent = independent
renamed_verdict r (touched_open x) = touched_open (r x)
renamed_verdict r (once_while_open x) = once_while_open (r x)
renamed_verdict r (branch_threw p) = branch_threw p

abbrev pub renamed : (Slot → Slot) → Watch → Watch
renamed r w = record { opened = renamed_all r w.opened; verdict = renamed_verdict r w.verdict }

-- what is kept, with the names of cells and keys
abbrev pub named : (ℕ → Name) → List Key → Kept → Watch
named nu keys k = renamed (by_names nu keys) (watch_of k)

-- the names of the first so many cells differ
pub record TellsApart (nu : ℕ → Name) (n : ℕ) : Type 0 where
  pub apart : (i j : ℕ) → i < n → j < n → nu i ≡ nu j → i ≡ j
