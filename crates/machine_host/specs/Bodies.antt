-- Once bodies that end: the data of a value is taken and recorded, and put anew; or the scope is left as the body ended.
use Rattle.std.specs.Prelude.{◌≡◌, ◌⊎◌, [], ◌∷◌, ◌++◌, Bool, true, false, Option, Some, None, Result, Ok, Err, MatchBool}
use Rattle.turk_base.specs.Names.{Path}
use Rattle.turk_base.specs.Asks.{rec}
use Rattle.turk_base.specs.declared.Record.TheVariants.{Once as Kept}
use Rattle.turk_base.specs.Prog.{Prog, Once}
use Rattle.turk_base.specs.State.{leave}
use Rattle.turk_base.specs.Steps.{taking, put_data}
use Rattle.turk_base.specs.Values.{Data}
use Rattle.ask_model.specs.declared.AskStop.{AskStop}
use Rattle.value_cells.specs.declared.OpStop.{OpStop}
use Rattle.value_cells.specs.declared.Value.{Value}
use Rattle.value_cells.specs.Does.{told}
use Rattle.value_cells.specs.Seen.{Naming, Seen, val_in}
use Rattle.run_heap.specs.Works.{Performs}
use Rattle.run_data.specs.Taken.{told_taken}
use Rattle.eval_ops.specs.Calls.{LeavesBack}
use Rattle.eval_ops.specs.Looks.{IsTold}
use Rattle.run_host.specs.declared.Refusal.TheVariants.{NotData}
use Rattle.run_host.specs.declared.Halt.TheVariants.{Refused, Waits, Spent, Diverges}
use Rattle.run_host.specs.declared.Exit.{Exit}
use Rattle.run_host.specs.declared.Exit.TheVariants.{Throw, Halted, Stopped}
use Rattle.run_host.specs.Moment.{alone, Moment, keeping, cells}
use Rattle.run_host.specs.Told.{Told}
use Rattle.run_host.specs.Did.{Runs}
use Rattle.run_host.specs.Scopes.{Local, OpensOnce}
use Rattle.machine_host.specs.Asking.{Loses, Refuses}
use Rattle.machine_host.specs.Exits.{exit_at, answer_at}
use Rattle.machine_host.specs.Leaving.{LeftWith}

-- what taking data answered, as an evaluator's answer: a value without data is refused
abbrev pub gift_at : Result (Option Data) OpStop → Result Data Exit
gift_at (Ok (Some d)) = Ok d
gift_at (Ok None) = Err (Halted (Refused NotData))
gift_at (Err stop) = Err (exit_at stop)

-- The data of this value was taken in the scope that runs, and nothing but the heap changed.
pub record TakesData (v : Value) (x : Result Data Exit) (old new : Moment alone) : Type 0 where
  pub answer : Result (Option Data) OpStop
  pub is : x ≡ gift_at answer
  pub did : Performs (λ nu. taking (val_in nu v)) (λ nu. told_taken (λ d. d) answer) old.heap new.heap
  pub gone : (nu : Naming) → (new.heap.first nu).gone ≡ (old.heap.first nu).gone
  pub rest : new ≡ record old { heap = new.heap }

-- whether the scope around goes on after this exit of a once body, or can
abbrev pub goes_on : Exit → Bool
goes_on (Throw v) = true
goes_on (Halted (Refused y)) = true
goes_on (Halted Waits) = true
goes_on (Halted Spent) = false
goes_on (Halted (Diverges d)) = false
goes_on (Stopped why) = false

-- This exit of a once body is passed on. Where the scope around goes on or can, the scope was left, and what it did stays, or
-- memory ran out; else nothing changed.
abbrev pub LeavesBy : Exit → Exit → Moment alone → Moment alone → Type 0
LeavesBy x y old new = MatchBool (goes_on x) (((y ≡ x) × LeftWith (λ nu. leave (old.heap.scope.back nu) (old.heap.first nu)) old new) ⊎ Loses y old new) ((y ≡ x) × (new ≡ old))

-- the record of a once call was made
abbrev pub recorded : Path → Data → Moment alone → Moment alone
recorded p d m = record m { made = m.made ++ rec p (Kept d) ∷ [] }

-- The record of a once call was refused, and that is told; or memory ran out.
abbrev pub RefusesOnce : Path → Data → Exit → Moment alone → Moment alone → Type 0
RefusesOnce p d x old new = (why : AskStop) × Refuses (keeping p d) why x old new

-- The scope was left, and all that it did is taken back but for the fuel; then the data was put.
pub record PutsBack (d : Data) (x : Result Value Exit) (old new : Moment alone) : Type 0 where
  pub mid : Seen
  pub leaves : LeavesBack old.heap mid
  pub was : IsTold old.heap
  pub is_told : IsTold mid
  pub answer : Result Value OpStop
  pub is : x ≡ answer_at answer
  pub did : Performs (λ nu. put_data d) (λ nu. told (val_in nu) answer) mid new.heap
  pub gone : (nu : Naming) → (new.heap.first nu).gone ≡ (mid.first nu).gone
  pub rest : new ≡ record old { heap = new.heap }

-- the answer is an exit, and memory ran out
abbrev pub LosesValue : Result Value Exit → Moment alone → Moment alone → Type 0
LosesValue x old new = (y : Exit) × (x ≡ Err y) × Loses y old new

-- The data was put anew, or memory ran out.
abbrev pub PutsAnew : Data → Result Value Exit → Moment alone → Moment alone → Type 0
PutsAnew d x old new = PutsBack d x old new ⊎ LosesValue x old new

-- The data of a once body was recorded and put anew, or its record was refused.
abbrev pub KeepsData : Data → Result Value Exit → Moment alone → Moment alone → Type 0
KeepsData d x old new =
    PutsAnew d x (recorded old.heap.scope.path d old) new ⊎ ((y : Exit) × (x ≡ Err y) × RefusesOnce old.heap.scope.path d y old new)

-- Of each once call whose body came to what was told, it did what the call does.
abbrev pub EndsOnce : (Naming → Told) → Moment alone → (Naming → Told) → Moment alone → Type 0
EndsOnce told old said new = (g : Naming → Prog) (before opened : Moment alone) → Local (cells before) g → OpensOnce before opened → Runs g told opened old → Runs (λ nu. Once (g nu)) said before new
