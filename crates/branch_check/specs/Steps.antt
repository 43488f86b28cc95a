-- Steps that change the open slots, and how they are undone (own rules).
use Rattle.std.specs.Prelude.{◌≡◌, ◌≤◌, ℕ, List, [], ◌∷◌, ◌++◌}
use Rattle.std.specs.Map.{set_value, remove_entry}
use Rattle.branch_check.specs.declared.Step.{Step}
use Rattle.branch_check.specs.declared.Step.TheVariants.{Added, Replaced, Closed}
use Rattle.branch_check.specs.declared.OpenSlots.{OpenSlots}
use Rattle.branch_check.specs.declared.Saved.{Saved}
use Rattle.branch_check.specs.Numbers.{Pairs, same_slot}

-- the open slots before the step
abbrev pub undo : Step → Pairs → Pairs
undo (Added x) es = remove_entry (same_slot x) es
undo (Replaced o) es = set_value (same_slot o.slot) es o.by
undo (Closed before) es = before

-- the open slots before the steps, of which the last is undone first
abbrev pub undone : List Step → Pairs → Pairs
undone [] es = es
undone (s ∷ ss) es = undo s (undone ss es)

-- the new has more steps than the old, and with these undone it is the old
pub record Leads (old new : OpenSlots) : Type 0 where
  pub more : List Step
  pub steps : new.steps.items ≡ old.steps.items ++ more
  pub back : undone more new.slots ≡ old.slots

-- the marks' counts of steps don't fall on the way from a to b
abbrev pub Rising : ℕ → List Saved → ℕ → Type 0
Rising a [] b = a ≤ b
Rising a (m ∷ l) b = (a ≤ m.steps) × Rising m.steps l b
