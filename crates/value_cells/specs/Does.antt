-- What a call on a heap did, as the definitions of a run's meaning say it.
use Rattle.std.specs.Prelude.{◌≡◌, ◌≤◌, ℕ, Some, slice_get, Result, Ok, Err}
use Rattle.turk_base.specs.Names.{Name, Under, home}
use Rattle.turk_base.specs.Values as model
use Rattle.turk_base.specs.Values.{Refusal, Outcome}
use Rattle.turk_base.specs.State.{St}
use Rattle.turk_base.specs.Steps.{Small, steps_of}
use Rattle.turk_base.specs.Prog.{Prim, AnswerOf, Prog}
use Rattle.value_cells.specs.declared.OpStop.{OpStop}
use Rattle.value_cells.specs.declared.OpStop.TheVariants.{NotWhole, NoPrimitive, TooLong, Spent, Memory}
use Rattle.value_cells.specs.Seen.{Naming, Seen, Fits, Grows, count}
use Rattle.value_cells.specs.Comes.{Comes, goes, stops, spends, comes, ends}

-- what a call says: a value, a refusal, that the fuel is spent, or want of memory
pub data Told (A : Type 0) : Type 0 where
  Says : (a : A) → Told A
  Refuses : (why : Refusal) → Told A
  Spends : Told A
  Fails : Told A

abbrev pub told_stop : {A : Type 0} → OpStop → Told A
told_stop NotWhole = Refuses model.NotWhole
told_stop NoPrimitive = Refuses model.NoPrimitive
told_stop TooLong = Refuses model.TooLong
told_stop Spent = Spends
told_stop Memory = Fails

abbrev pub told : {A B : Type 0} → (B → A) → Result B OpStop → Told A
told f (Ok b) = Says (f b)
told f (Err e) = told_stop e

-- what stays at a charge that is not met: the output, the open slots, the verdict
pub record Kept (old new : St) : Type 0 where
  pub text : new.text ≡ old.text
  pub opened : new.opened ≡ old.opened
  pub verdict : new.verdict ≡ old.verdict

-- What steps came to is as told, with the state and the fuel that the call left. After a charge past the fuel the state is known
-- by what stays, and after want of memory nothing is known.
abbrev pub Did : {A : Type 0} → Comes A → Told A → St → ℕ → Type 0
Did r (Says a) τ n = r ≡ goes a τ n
Did r (Refuses why) τ n = r ≡ stops why τ n
Did r Spends τ n = (σ : St) × (m : ℕ) × (r ≡ spends σ m) × Kept σ τ
Did r Fails τ n = Unit {0}

-- The scopes are as before, the cells are still there, and those made since stand in the scope that runs or below it.
pub record Stays (old new : Seen) : Type 0 where
  pub scope : new.scope ≡ old.scope
  pub outer : new.outer ≡ old.outer
  pub grows : Grows old.names new.names
  pub below : (i : ℕ) (n : Name) → slice_get new.names i ≡ Some n → count old ≤ i → Under old.scope.path (home n)

-- what steps come to from a heap, under a naming of its cells
abbrev pub comes_from : {A : Type 0} → Small A → Naming → Seen → Comes A
comes_from g nu s = comes g s.scope.path s.scope.branch s.scope.body (s.first nu) s.left

abbrev pub ends_from : Prog → Naming → Seen → Comes Outcome
ends_from g nu s = ends g s.scope.path s.scope.branch s.scope.body (s.first nu) s.left

-- A call did what a request does, under each naming of the cells that there are at its end.
pub record Does (p : Naming → Prim) (said : (nu : Naming) → Told (AnswerOf (p nu))) (old new : Seen) : Type 0 where
  pub stays : Stays old new
  pub did : (nu : Naming) → Fits nu new.names → Did (comes_from (steps_of (p nu)) nu old) (said nu) (new.first nu) new.left

-- the same of a program
pub record Runs (g : Naming → Prog) (said : Naming → Told Outcome) (old new : Seen) : Type 0 where
  pub stays : Stays old new
  pub ran : (nu : Naming) → Fits nu new.names → Did (ends_from (g nu) nu old) (said nu) (new.first nu) new.left

-- What f does from the one is what g does from the other.
pub record Onward (f g : Naming → Prog) (old new : Seen) : Type 0 where
  pub goes : (said : Naming → Told Outcome) (last : Seen) → Runs g said new last → Runs f said old last
