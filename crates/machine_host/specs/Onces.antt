-- What a call of once did before its body: it was counted, and its record gave a value or diverged.
use Rattle.std.specs.Prelude.{◌≡◌, ◌⊎◌, List, ℕ, false, Result, Err}
use Rattle.turk_base.specs.Names.{Path, sub, path_in}
use Rattle.turk_base.specs.Values.{Data}
use Rattle.turk_base.specs.Steps.{put_data}
use Rattle.turk_base.specs.declared.Record.{Record}
use Rattle.turk_base.specs.declared.Record.TheVariants.{Once}
use Rattle.js_tree.specs.World.{diverges, found_kept, called_once}
use Rattle.ask_model.specs.declared.AskStop.TheVariants.{Memory}
use Rattle.value_cells.specs.declared.OpStop.{OpStop}
use Rattle.value_cells.specs.declared.Value.{Value}
use Rattle.value_cells.specs.Seen.{Naming, Seen, Fits, val_in}
use Rattle.value_cells.specs.Does.{told}
use Rattle.run_heap.specs.Works.{Performs}
use Rattle.run_host.specs.declared.Exit.{Exit}
use Rattle.run_host.specs.declared.Exit.TheVariants.{Stopped}
use Rattle.run_host.specs.Moment.{alone, Moment}
use Rattle.run_host.specs.Scopes.{called}
use Rattle.machine_host.specs.Asking.{Tells}
use Rattle.machine_host.specs.Exits.{answer_at}

-- The once call with the path p took its index, the verdict rule was applied, and nothing else changed.
pub record CountsOnce (p : List ℕ) (old new : Moment alone) : Type 0 where
  pub names : new.heap.names ≡ old.heap.names
  pub scope : new.heap.scope ≡ old.heap.scope
  pub outer : new.heap.outer ≡ old.heap.outer
  pub left : new.heap.left ≡ old.heap.left
  pub first : (nu : Naming) → Fits nu new.heap.names → new.heap.first nu ≡ called false old.heap.scope.branch (old.heap.first nu)
  pub path : (nu : Naming) → path_in p ≡ sub (old.heap.first nu).calls old.heap.scope.path
  pub rest : new ≡ record old { heap = new.heap }

-- the record is that of a once call, and its data was put
pub record Puts (r : Record) (old new : Seen) (y : Result Value Exit) : Type 0 where
  pub data_is : Data
  pub once : r ≡ Once data_is
  pub answer : Result Value OpStop
  pub is : y ≡ answer_at answer
  pub did : Performs (λ nu. put_data data_is) (λ nu. told (val_in nu) answer) old new
  pub gone : (nu : Naming) → (new.first nu).gone ≡ (old.first nu).gone

-- the record is another, and that is told, or memory ran out
pub record Differs (p : Path) (r : Record) (old new : Seen) (y : Result Value Exit) : Type 0 where
  pub other : (d : Data) → r ≡ Once d → ⊥
  pub same : new ≡ old
  pub exit : Exit
  pub is : y ≡ Err exit
  pub why : (exit ≡ Stopped Memory) ⊎ Tells exit (diverges p (found_kept r) called_once)

-- what a record at the path of a once call gives
abbrev pub OnceGives : Path → Record → Seen → Seen → Result Value Exit → Type 0
OnceGives p r old new y = Puts r old new y ⊎ Differs p r old new y
