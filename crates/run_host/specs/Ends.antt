-- What a program comes to from a state: it ends with an outcome, halts the scope, or a call was refused in it.
use Rattle.std.specs.Prelude.{◌≡◌, ℕ, List}
use Rattle.turk_base.specs.State.{St}
use Rattle.turk_base.specs.Asks.{Rec}
use Rattle.turk_base.specs.Values.{Outcome}
use Rattle.turk_base.specs.Prog.{Prog}
use Rattle.js_tree.specs.Run.{Out, res, add}
use Rattle.js_tree.specs.World.{Rest}
use Rattle.run_laws.proofs.Sequel.{Place, Ends, Stops}
use Rattle.run_laws.proofs.Cuts.{Next, Cuts}
use Rattle.ask_model.specs.declared.AskStop.{AskStop}
use Rattle.run_host.specs.declared.Halt.{Halt}
use Rattle.run_host.specs.Told.{Told, Says, Halts, Fails, GoesOn, IsOut}

-- What is told of a run that halted: of its state the output, the verdict and the absent branches.
pub record Like (at now : St) : Type 0 where
  pub text : at.text ≡ now.text
  pub verdict : at.verdict ≡ now.verdict
  pub gone : at.gone ≡ now.gone

-- It halts there, and made l. The fuel that is left is told where a scope around can go on.
pub record Halted (c : Place) (g : Prog) (σ : St) (w : Rest) (l : List Rec) (h : Halt) (τ : St) (w' : Rest) : Type 0 where
  pub out : Out
  pub is : IsOut h out
  pub at : St
  pub left : ℕ
  pub like : Like at τ
  pub fuel : GoesOn (Halts h) → left ≡ w'.left
  pub stops : Stops c g σ w (add l (res out at (record w' { left = left })))

-- `next` says what the run does at a call that was refused.
pub data Comes (c : Place) (g : Prog) (σ : St) (w : Rest) (l : List Rec) (next : AskStop → Next) : Told → St → Rest → Type 0 where
  says : {o : Outcome} {τ : St} {w' : Rest} → Ends c g o σ w τ w' l → Comes c g σ w l next (Says o) τ w'
  halts : {h : Halt} {τ : St} {w' : Rest} → Halted c g σ w l h τ w' → Comes c g σ w l next (Halts h) τ w'
  fails : {why : AskStop} {τ : St} {w' : Rest} → Cuts c g σ w l (next why) → Comes c g σ w l next (Fails why) τ w'
