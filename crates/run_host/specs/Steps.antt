-- What a function of an evaluator did of one step of a program, whatever comes after the step.
use Rattle.std.specs.Prelude.{Result, Ok, Err}
use Rattle.turk_base.specs.Prog.{Prog}
use Rattle.value_cells.specs.Seen.{Naming}
use Rattle.run_host.specs.declared.Exit.{Exit}
use Rattle.run_host.specs.Moment.{Chain, Moment}
use Rattle.run_host.specs.Told.{Told, told_exit}
use Rattle.run_host.specs.Did.{Runs}

-- What the one program does from the one moment is what the other does from the other.
pub record Onward {κ : Chain} (f g : Naming → Prog) (old new : Moment κ) : Type 0 where
  pub goes : (told : Naming → Told) (last : Moment κ) → Runs g told new last → Runs f told old last

-- a step of a program: it is given what comes after it
abbrev pub Step : Type 0 → Type 0
Step A = (A → Prog) → Prog

-- The one step leads to the other, whatever comes after.
pub record Leads {κ : Chain} {A : Type 0} (f g : Naming → Step A) (old new : Moment κ) : Type 0 where
  pub goes : (go : Naming → A → Prog) → Onward (λ nu. f nu (go nu)) (λ nu. g nu (go nu)) old new

-- the step ends the program, whatever comes after
pub record Leaves {κ : Chain} {A : Type 0} (f : Naming → Step A) (x : Exit) (old new : Moment κ) : Type 0 where
  pub ends : (go : Naming → A → Prog) → Runs (λ nu. f nu (go nu)) (λ nu. told_exit nu x) old new

-- the step answered, and what comes after goes on with the answer
abbrev pub Gives : {κ : Chain} {A : Type 0} → (Naming → Step A) → (Naming → A) → Moment κ → Moment κ → Type 0
Gives f a old new = Leads f (λ nu go. go (a nu)) old new

-- by the answer of a function
abbrev pub Takes : {κ : Chain} {A B : Type 0} → (Naming → Step A) → (Naming → B → A) → Result B Exit → Moment κ → Moment κ → Type 0
Takes f told (Ok b) old new = Gives f (λ nu. told nu b) old new
Takes f told (Err x) old new = Leaves f x old new
