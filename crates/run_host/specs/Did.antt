-- What a function of an evaluator did of a program, from one moment to another.
use Rattle.std.specs.Prelude.{◌≡◌, ◌<◌, ℕ, List, ◌++◌}
use Rattle.turk_base.specs.Asks.{Rec}
use Rattle.turk_base.specs.Prog.{Prog}
use Rattle.js_tree.specs.World.{words, World}
use Rattle.value_cells.specs.Seen.{Naming, Fits}
use Rattle.run_host.specs.Moment.{Chain, Moment, rest_of, draws_in, AllDealt, Suits, Clear, place, Same, Within, Moves}
use Rattle.run_host.specs.Told.{Told, GoesOn, next_of, IsShown}
use Rattle.run_host.specs.Ends.{Comes}

-- It did what the program does, under each naming of the cells that there are at its end, in each world that suits what was made,
-- whatever comes after the program.
pub record Runs {κ : Chain} (g : Naming → Prog) (told : Naming → Told) (old new : Moment κ) : Type 0 where
  pub same : Same old new
  pub within : (nu : Naming) → GoesOn (told nu) → Within old new
  -- the records that it made
  pub added : List Rec
  pub made : new.made ≡ old.made ++ added
  -- its draws have the words that were to be drawn, in order
  pub dealt : AllDealt (words old.words) 0 added
  pub moved : (nu : Naming) → GoesOn (told nu) → Moves old new added
  pub shown : (nu : Naming) → IsShown (told nu) old.stopped new.stopped
  pub ran : (nu : Naming) → Fits nu new.heap.names → (E : World) → Suits E new → (bound : ℕ) → old.heap.left < bound → Clear nu old →
      Comes (place E bound old) (g nu) (old.heap.first nu) (rest_of old) added (next_of E (draws_in new.made) new.unmade) (told nu) (new.heap.first nu) (rest_of new)
