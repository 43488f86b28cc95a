-- Scopes that are left, and what ending the branch of a fork did.
use Rattle.std.specs.Prelude.{◌≡◌, ◌≤◌, ◌∷◌, ℕ, Some, slice_get}
use Rattle.turk_base.specs.Names.{Name, Under, home}
use Rattle.turk_base.specs.Prog.{Prog, Fork}
use Rattle.turk_base.specs.State.{St, leave, cut_all}
use Rattle.value_cells.specs.Seen.{Naming, Seen, Fits, Grows}
use Rattle.eval_ops.specs.Calls.{LeavesBack, Changes}
use Rattle.eval_ops.specs.Looks.{IsTold}
use Rattle.run_host.specs.Moment.{alone, Moment, cells}
use Rattle.run_host.specs.Told.{Told}
use Rattle.run_host.specs.Did.{Runs}
use Rattle.run_host.specs.Scopes.{Local, OpensFork}

-- The scope was left, what it did stays, and all but the heap is as before.
pub record LeftKeep (ended new : Moment alone) : Type 0 where
  pub around : ended.heap.outer ≡ new.heap.scope ∷ new.heap.outer
  pub grows : Grows ended.heap.names new.heap.names
  pub below : (i : ℕ) (n : Name) → slice_get new.heap.names i ≡ Some n → cells ended ≤ i → Under ended.heap.scope.path (home n)
  pub left : new.heap.left ≡ ended.heap.left
  pub rest : new ≡ record ended { heap = new.heap }

-- The scope was left, and all that it did is taken back but for the fuel; then the first part of the state was changed.
pub record LeftBack (f : St → St) (ended new : Moment alone) : Type 0 where
  pub mid : Seen
  pub leaves : LeavesBack ended.heap mid
  pub changes : Changes (λ nu σ. f σ) mid new.heap
  pub was : IsTold ended.heap
  pub is : IsTold mid
  pub rest : new ≡ record ended { heap = new.heap }

-- The first part of the state is so, and what was done in the scope that was left stays.
pub record LeftWith (first : Naming → St) (ended new : Moment alone) : Type 0 where
  pub keeps : LeftKeep ended new
  pub first_is : (nu : Naming) → Fits nu new.heap.names → new.heap.first nu ≡ first nu

-- the first part of the state where a scope was joined and left
abbrev pub joined_in : Moment alone → Naming → St
joined_in m nu = leave (m.heap.scope.back nu) (cut_all m.heap.scope.path (m.heap.first nu))

-- Of each fork whose branch came to what was told, it did what the fork does.
abbrev pub EndsFork : (Naming → Told) → Moment alone → (Naming → Told) → Moment alone → Type 0
EndsFork told old said new = (g : Naming → Prog) (before opened : Moment alone) → Local (cells before) g → OpensFork before opened → Runs g told opened old → Runs (λ nu. Fork (g nu)) said before new
