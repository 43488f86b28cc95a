-- A scope that was opened for a call, and programs that know no cells but those that there were.
use Rattle.std.specs.Prelude.{◌≡◌, ◌<◌, ℕ, suc, Bool, true, false, ◌∷◌, None, Result, Ok, Err, IsSome}
use Rattle.turk_base.specs.Names.{Path, sub, Name}
use Rattle.turk_base.specs.Values as model
use Rattle.turk_base.specs.State.{St, once_call, next_call, enter}
use Rattle.turk_base.specs.Asks.{find}
use Rattle.turk_base.specs.Prog.{Prog}
use Rattle.value_cells.specs.Seen.{Naming, Seen, Fits, count}
use Rattle.run_host.specs.declared.Exit.{Exit}
use Rattle.run_host.specs.Moment.{Chain, Moment}
use Rattle.run_host.specs.Told.{Told, Says, told_exit}

-- a program that knows no cells but the first so many
abbrev pub Local : ℕ → (Naming → Prog) → Type 0
Local n g = (nu mu : Naming) → ((i : ℕ) → i < n → nu i ≡ mu i) → g nu ≡ g mu

-- the state at a call of once, and at one of fork, after it was counted: to it what the scope does is taken back
abbrev pub called : Bool → Path → St → St
called true branch σ = next_call σ
called false branch σ = once_call branch (next_call σ)

-- The state hangs on the names of the cells that there are alone, and it knows just those cells.
pub record KnowsItsCells (s : Seen) : Type 0 where
  pub own : (nu mu : Naming) → ((i : ℕ) → i < count s → nu i ≡ mu i) → s.first nu ≡ s.first mu
  pub there : (nu : Naming) (i : ℕ) → i < count s → IsSome ((s.first nu).known (nu i))
  pub only : (nu : Naming) (n : Name) → IsSome ((s.first nu).known n) → (i : ℕ) × (i < count s) × (nu i ≡ n)

-- The scope of a call that has no record was opened: a branch, or a once body.
pub record Opens {κ : Chain} (is_branch : Bool) (old new : Moment κ) : Type 0 where
  pub later : κ.To old.asker new.asker
  pub cells : KnowsItsCells old.heap
  pub names : new.heap.names ≡ old.heap.names
  pub left : new.heap.left ≡ old.heap.left
  pub session : new.session ≡ old.session
  pub trace : new.trace ≡ old.trace
  pub pairs : new.pairs ≡ old.pairs
  pub made : new.made ≡ old.made
  pub words : new.words ≡ old.words
  pub waits : new.waits ≡ old.waits
  pub stopped : new.stopped ≡ old.stopped
  pub outer : new.heap.outer ≡ old.heap.scope ∷ old.heap.outer
  pub first : (nu : Naming) → Fits nu old.heap.names → new.heap.first nu ≡ enter (called is_branch old.heap.scope.branch (old.heap.first nu))
  pub back : (nu : Naming) → Fits nu old.heap.names → new.heap.scope.back nu ≡ called is_branch old.heap.scope.branch (old.heap.first nu)
  pub path : (nu : Naming) → new.heap.scope.path ≡ sub (old.heap.first nu).calls old.heap.scope.path
  pub unfound : find new.heap.scope.path old.trace ≡ None

pub record OpensOnce {κ : Chain} (old new : Moment κ) : Type 0 where
  pub opens : Opens false old new
  pub branch : new.heap.scope.branch ≡ old.heap.scope.branch
  pub body : new.heap.scope.body ≡ true
  pub forks : new.forks ≡ old.forks

pub record OpensFork {κ : Chain} (old new : Moment κ) : Type 0 where
  pub opens : Opens true old new
  pub here : old.heap.scope.body ≡ false
  pub branch : new.heap.scope.branch ≡ new.heap.scope.path
  pub body : new.heap.scope.body ≡ false
  pub forks : new.forks ≡ suc old.forks

-- what is told of a fork whose branch was run, or whose call was refused
abbrev pub told_fork : {A : Type 0} → Naming → Result A Exit → Told
told_fork nu (Ok v) = Says (model.Normal model.Undefined)
told_fork nu (Err x) = told_exit nu x
