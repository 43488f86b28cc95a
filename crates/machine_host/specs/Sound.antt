-- What holds of a run over a machine and an asker in each state that its calls leave.
use Rattle.std.specs.Prelude.{◌≡◌, ◌<◌, ℕ, suc, List, [], ◌∷◌, length, Bool, false, Option, Some, None, slice_get, IsSome, ◌≤◌, ⊤}
use Rattle.std.specs.Option.{IfSome}
use Rattle.turk_base.specs.Errors.{built_in}
use Rattle.turk_base.specs.State.{St}
use Rattle.ask_model.specs.declared.AskStop.{AskStop}
use Rattle.ask_model.specs.declared.AskStop.TheVariants.{TraceFull}
use Rattle.ask_model.specs.Asker.{Seen as Asked, known_to}
use Rattle.run_host.specs.Moment.{Unmade, asking, keeping, nothing_known}
use Rattle.value_cells.specs.Seen.{Naming, Scope, Seen}
use Rattle.eval_ops.specs.Looks.{IsTold}

-- a state that knows the built-in cells
abbrev pub KnowsBuiltIns : (Naming → St) → Type 0
KnowsBuiltIns back = (nu : Naming) → ((i : ℕ) → i < 7 → nu i ≡ built_in i) → (i : ℕ) → i < 7 → IsSome ((back nu).known (built_in i))

-- Each scope is taken back to a state that knows them, but for the outermost, which is never taken back.
abbrev pub BacksKnow : Scope → List Scope → Type 0
BacksKnow s [] = Unit {0}
BacksKnow s (o ∷ os) = KnowsBuiltIns s.back × BacksKnow o os

pub record IsGood (s : Seen) : Type 0 where
  pub told : IsTold s
  pub named : (i : ℕ) → i < 7 → slice_get s.names i ≡ Some (built_in i)
  pub backs : BacksKnow s.scope s.outer

-- each open scope by the count of those around it
pub record AreOpen (entered : List ℕ) (outer : List Scope) : Type 0 where
  pub many : length entered ≡ length outer
  pub counted : (i n : ℕ) → slice_get entered i ≡ Some n → n ≡ suc i

-- a record that was not made, and is known
abbrev pub IsNamed : Unmade → Type 0
IsNamed (asking p q) = ⊤
IsNamed (keeping p d) = ⊤
IsNamed nothing_known = ⊥

-- Why a call of the asker was refused: it may answer so, it is known which record was not made, and for want of room in the trace
-- only where 65,536 records are known.
pub record Refused (refuses : AskStop → Type 0) (s : Asked) (u : Unmade) (why : AskStop) : Type 0 where
  pub may : refuses why
  pub named : IsNamed u
  pub full : why ≡ TraceFull → 65536 ≤ length (known_to s)

-- An asker in order, which is asked no more once it is closed; and a refusal that is told has its cause.
pub record IsAsked {A : Type 0} (is_sound : A → Type 0) (refuses : AskStop → Type 0) (seen : A → Asked) (closed : Bool) (stopped : Option AskStop) (u : Unmade) (asker : A) : Type 0 where
  pub sound : is_sound asker
  pub going : closed ≡ false → (seen asker).closed ≡ false
  pub quiet : closed ≡ false → stopped ≡ None
  pub cause : IfSome stopped (λ why. Refused refuses (seen asker) u why)
