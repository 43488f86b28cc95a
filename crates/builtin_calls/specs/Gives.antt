-- What a function over a heap did of a program: one step of it, whatever comes after the step.
use Rattle.std.specs.Prelude.{◌≡◌, Option, Some, None, Result, Ok, Err}
use Rattle.turk_base.specs.Values as model
use Rattle.turk_base.specs.Values.{Val, Refusal}
use Rattle.turk_base.specs.Names.{Name}
use Rattle.turk_base.specs.Prog.{Prog}
use Rattle.convert_rules.specs.declared.kinds.Prim.{Prim}
use Rattle.convert_rules.specs.Prims.{val_of}
use Rattle.value_cells.specs.declared.OpStop.{OpStop}
use Rattle.value_cells.specs.declared.OpStop.TheVariants.{NotWhole, NoPrimitive, TooLong, Spent, Memory}
use Rattle.value_cells.specs.Seen.{Naming, Seen}
use Rattle.value_cells.specs.Does.{Onward, Runs, told_stop}

-- a step of a program: it is given what comes after it
abbrev pub Step : Type 0 → Type 0
Step A = (A → Prog) → Prog

-- What the one step does from the one heap is what the other does from the other, whatever comes after.
pub record Leads {A : Type 0} (f g : Naming → Step A) (old new : Seen) : Type 0 where
  pub goes : (go : Naming → A → Prog) → Onward (λ nu. f nu (go nu)) (λ nu. g nu (go nu)) old new

-- the step ended the run, whatever comes after
pub record Leaves {A : Type 0} (f : Naming → Step A) (e : OpStop) (old new : Seen) : Type 0 where
  pub ends : (go : Naming → A → Prog) → Runs (λ nu. f nu (go nu)) (λ nu. told_stop e) old new

-- the step answered, and what comes after goes on with the answer
abbrev pub Gives : {A : Type 0} → (Naming → Step A) → (Naming → A) → Seen → Seen → Type 0
Gives f a old new = Leads f (λ nu go. go (a nu)) old new

abbrev pub Takes : {A B : Type 0} → (Naming → Step A) → (Naming → B → A) → Result B OpStop → Seen → Seen → Type 0
Takes f told (Ok b) old new = Gives f (λ nu. told nu b) old new
Takes f told (Err e) old new = Leaves f e old new

-- an answer that is computed of values alone; after want of memory nothing is said
abbrev pub Answers : {A B : Type 0} → (B → A) → Result B OpStop → Result A Refusal → Type 0
Answers told (Ok b) x = x ≡ Ok (told b)
Answers told (Err NotWhole) x = x ≡ Err model.NotWhole
Answers told (Err NoPrimitive) x = x ≡ Err model.NoPrimitive
Answers told (Err TooLong) x = x ≡ Err model.TooLong
Answers told (Err Spent) x = ⊥
Answers told (Err Memory) x = Unit {0}

-- the primitive that a value is, none for an object
abbrev pub IsPrimitive : Option Prim → Val → Type 0
IsPrimitive (Some p) v = val_of p ≡ v
IsPrimitive None v = (c : Name) × (v ≡ model.Object c)
