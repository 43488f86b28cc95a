-- What the calls of a machine did, in the words of the meaning of scripts.
use Rattle.std.specs.Prelude.{◌≡◌, ℕ, Bool, true, false, not, List, [], ◌∷◌, Option, Some, None, Result, Ok, Err}
use Rattle.turk_base.specs.Names.{Path, root, path_in}
use Rattle.turk_base.specs.Values.{Val}
use Rattle.turk_base.specs.State.{St, enter, leave, absent, any_gone, too_many}
use Rattle.turk_base.specs.Start.{start}
use Rattle.turk_base.specs.Steps.{steps_of}
use Rattle.turk_base.specs.Prog.{Join}
use Rattle.value_cells.specs.declared.Value.{Value}
use Rattle.value_cells.specs.declared.OpStop.{OpStop}
use Rattle.value_cells.specs.declared.OpStop.TheVariants.{NotWhole, NoPrimitive, TooLong, Spent, Memory}
use Rattle.value_cells.specs.Comes.{Comes, goes, comes}
use Rattle.value_cells.specs.Seen.{Naming, Seen, Fits, Grows, val_in}
use Rattle.value_cells.specs.Does.{Spends, Did, Stays}
use Rattle.run_heap.specs.Begins.{first_names}

-- what a run begins with: the built-in cells alone, the script's scope, and so much fuel
abbrev pub at_start : ℕ → Seen
at_start fuel = record {
  names = first_names;
  first = λ nu. start;
  scope = record { path = root; branch = root; body = false; back = λ nu. start };
  outer = [];
  left = fuel;
}

-- A run begins: the built-in cells alone, the script's scope, and so much fuel.
pub record IsBare (fuel : ℕ) (s : Seen) : Type 0 where
  pub names : s.names ≡ first_names
  pub first : (nu : Naming) → Fits nu s.names → s.first nu ≡ start
  pub path : s.scope.path ≡ root
  pub branch : s.scope.branch ≡ root
  pub body : s.scope.body ≡ false
  pub outer : s.outer ≡ []
  pub left : s.left ≡ fuel

-- The first part of the state is f of what it was, and all else is as before.
pub record Changes (f : Naming → St → St) (old new : Seen) : Type 0 where
  pub names : new.names ≡ old.names
  pub scope : new.scope ≡ old.scope
  pub outer : new.outer ≡ old.outer
  pub left : new.left ≡ old.left
  pub first : (nu : Naming) → Fits nu new.names → new.first nu ≡ f nu (old.first nu)

-- the branch of a scope that is entered: itself, or that of the scope around
abbrev pub branch_in : Bool → Path → Path → Path
branch_in true p around = p
branch_in false p around = around

-- The scope at p is entered: a branch, or a once body.
pub record Enters (p : Path) (branch : Bool) (old new : Seen) : Type 0 where
  pub names : new.names ≡ old.names
  pub first : (nu : Naming) → new.first nu ≡ enter (old.first nu)
  pub path : new.scope.path ≡ p
  pub branch_is : new.scope.branch ≡ branch_in branch p old.scope.branch
  pub body : new.scope.body ≡ not branch
  pub back : (nu : Naming) → new.scope.back nu ≡ old.first nu
  pub outer : new.outer ≡ old.scope ∷ old.outer
  pub left : new.left ≡ old.left

-- The scope that ran is left, and all that it did is taken back but for the fuel.
pub record LeavesBack (old new : Seen) : Type 0 where
  pub around : old.outer ≡ new.scope ∷ new.outer
  pub first : (nu : Naming) → new.first nu ≡ old.scope.back nu
  pub names : Grows new.names old.names
  pub left : new.left ≡ old.left

-- The scope that ran is left, and what it did stays.
pub record LeavesKeep (old new : Seen) : Type 0 where
  pub around : old.outer ≡ new.scope ∷ new.outer
  pub first : (nu : Naming) → new.first nu ≡ leave (old.scope.back nu) (old.first nu)
  pub names : new.names ≡ old.names
  pub left : new.left ≡ old.left

-- the branch that was taken back last is noted as absent
abbrev pub notes : Option (List ℕ) → St → St
notes (Some p) σ = absent (path_in p) σ
notes None σ = σ

-- ---- joining

abbrev pub IsSame : Naming → Seen → Seen → Type 0
IsSame nu old new = (new.first nu ≡ old.first nu) × (new.left ≡ old.left)

abbrev pub join_from : Bool → Naming → Seen → Comes Val
join_from wanted nu s = comes (steps_of (Join wanted)) s.scope.path s.scope.branch false (s.first nu) s.left

-- What joining the branches of the scope that runs did, as answered: none where one is absent.
abbrev pub Joined : Bool → Result (Option Value) OpStop → Naming → Seen → Seen → Type 0
Joined wanted (Ok None) nu old new = (any_gone old.scope.path (old.first nu).gone ≡ true) × IsSame nu old new
Joined wanted (Ok (Some v)) nu old new = join_from wanted nu old ≡ goes (val_in nu v) (new.first nu) new.left
Joined wanted (Err NotWhole) nu old new = ⊥
Joined wanted (Err NoPrimitive) nu old new = ⊥
Joined wanted (Err TooLong) nu old new = (any_gone old.scope.path (old.first nu).gone ≡ false) × (too_many wanted (old.first nu).vals ≡ true) × IsSame nu old new
Joined wanted (Err Spent) nu old new = Did (join_from wanted nu old) Spends (new.first nu) new.left
Joined wanted (Err Memory) nu old new = Unit {0}

pub record Joins (wanted : Bool) (result : Result (Option Value) OpStop) (old new : Seen) : Type 0 where
  pub stays : Stays old new
  pub did : (nu : Naming) → Fits nu new.names → Joined wanted result nu old new
