-- What the run of a whole script comes to, by what an evaluator told of it.
use Rattle.std.specs.Prelude.{◌≡◌, ℕ, List}
use Rattle.turk_base.specs.State.{St}
use Rattle.turk_base.specs.Asks.{Rec}
use Rattle.js_tree.specs.World.{World, Rest}
use Rattle.js_tree.specs.Run.{Out, Res, res, add, branch_end}
use Rattle.js_tree.specs.Eval.{close}
use Rattle.run_laws.proofs.Cuts.{Follows}
use Rattle.value_cells.specs.Seen.{Naming}
use Rattle.run_host.specs.declared.Halt.{Halt}
use Rattle.run_host.specs.Ends.{Like}
use Rattle.run_host.specs.Moment.{alone, Moment, Unmade, rest_of, draws_in}
use Rattle.run_host.specs.Told.{Told, Says, Halts, Fails, IsOut, next_of}

-- The run halted, with what is told of the state that it left, or of one that is like it.
pub record HaltedAt (h : Halt) (τ : St) (w : Rest) (made : List Rec) (e : Res) : Type 0 where
  pub out : Out
  pub is : IsOut h out
  pub at : St
  pub left : ℕ
  pub like : Like at τ
  pub closed : e ≡ close (add made (res out at (record w { left = left })))

-- What the run e of the whole script came to, as told of it at the state σ, where these records were made and this one was not.
abbrev pub ClosesAt : World → Unmade → List Rec → Told → St → Rest → Res → Type 0
ClosesAt E u made (Says o) σ w e = e ≡ close (add made (branch_end o σ w))
ClosesAt E u made (Halts h) σ w e = HaltedAt h σ w made e
ClosesAt E u made (Fails why) σ w e = Follows made (next_of E (draws_in made) u why) e

-- the same at a moment
abbrev pub Closes : World → Told → Naming → Moment alone → Res → Type 0
Closes E told nu m e = ClosesAt E m.unmade m.made told (m.heap.first nu) (rest_of m) e
