-- What a contract sees of a monitor, and what each call does to it (own rules). Cells and keys stand as the numbers that the code gives them.
use Rattle.std.specs.Prelude.{ℕ, zero, suc, List, [], ◌∷◌, length, map, drop}
use Rattle.turk_base.specs.Names.{Path, root, path_in, cell, Part, shape, at, Slot, slot, pick, under}
use Rattle.turk_base.specs.State.{Opening, opening, Verdict, independent, touched_open, once_while_open, branch_threw, touched, first_open, open_at, cut, first_reason, touch_reason, once_reason}
use Rattle.branch_check.specs.declared.Slot.{Slot as CodeSlot}
use Rattle.branch_check.specs.declared.Found.{Found}
use Rattle.branch_check.specs.declared.Found.TheVariants as found
use Rattle.branch_check.specs.declared.OpenSlot.{OpenSlot}
use Rattle.branch_check.specs.declared.OpenSlots.{OpenSlots}
use Rattle.branch_check.specs.declared.Saved.{Saved}
use Rattle.branch_check.specs.declared.Monitor.TheInside.{Inside}
use Rattle.branch_check.specs.Numbers.{shown}
use Rattle.branch_check.specs.Steps.{undone, Rising}

-- key 0 is the shape; each other number stands for a key of its own
abbrev pub part_numbered : ℕ → Part
part_numbered zero = shape
part_numbered (suc k) = at (suc k ∷ [])

-- the slot that the numbers stand for: the cell of that number in the script's scope
abbrev pub numbered : CodeSlot → Slot
numbered s = slot (cell root s.cell) (part_numbered s.key)

abbrev pub verdict_of : Found → Verdict
verdict_of found.Independent = independent
verdict_of (found.TouchedOpen s) = touched_open (numbered s)
verdict_of (found.OnceWhileOpen s) = once_while_open (numbered s)
verdict_of (found.BranchThrew p) = branch_threw (path_in p)

-- the open slots in order of first writing, and the verdict
pub record Watch : Type 0 where
  pub opened : List Opening
  pub verdict : Verdict

-- the same as it is kept, with numbers and lists
pub record Kept : Type 0 where
  pub opened : List OpenSlot
  pub found : Found

-- a monitor now, and at each open mark, the newest last
pub record Seen : Type 0 where
  pub current : Kept
  pub marks : List Kept

-- what there was at a mark: the steps since are undone
abbrev pub kept_at : OpenSlots → Saved → Kept
kept_at o m = record { opened = shown (undone (drop m.steps o.steps.items) o.slots); found = m.found }

abbrev pub seen_of : Inside → Seen
seen_of m = record { current = record { opened = shown m.opens.slots; found = m.found }; marks = map (kept_at m.opens) m.marks.items }

-- the steps that are noted reach back to each open mark
abbrev pub IsMarked : Inside → Type 0
IsMarked m = Rising 0 m.marks.items (length m.opens.steps.items)

abbrev pub opening_of : OpenSlot → Opening
opening_of o = opening (numbered o.slot) (path_in o.by)

abbrev pub openings_of : List OpenSlot → List Opening
openings_of l = map opening_of l

abbrev pub watch_of : Kept → Watch
watch_of w = record { opened = openings_of w.opened; verdict = verdict_of w.found }

-- branch b touches the slot x
abbrev pub after_touch : Path → Slot → Watch → Watch
after_touch b x w = record w { verdict = first_reason w.verdict (touch_reason x (touched b x w.opened)) }

-- a once call in branch b
abbrev pub after_once : Path → Watch → Watch
after_once b w = record w { verdict = first_reason w.verdict (once_reason (first_open b w.opened)) }

-- branch b writes the slot x of a cell that was made in the scope s: a touch, and the slot is open if s doesn't begin with b
abbrev pub after_write : Path → Path → Slot → Watch → Watch
after_write b s x w = record (after_touch b x w) { opened = pick (under b s) w.opened (open_at x b w.opened) }

-- branches join in the scope s
abbrev pub after_join : Path → Watch → Watch
after_join s w = record w { opened = cut s w.opened }

-- branch p ends by a throw
abbrev pub after_throw : Path → Watch → Watch
after_throw p w = record w { verdict = first_reason w.verdict (branch_threw p) }
