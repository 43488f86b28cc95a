-- What steps and programs that ask nothing of the outside come to, from a state and the fuel left.
use Rattle.std.specs.Prelude.{◌-◌, ℕ, nat_lt, Bool, true, false}
use Rattle.turk_base.specs.Names.{Path}
use Rattle.turk_base.specs.Values.{Refusal, Outcome}
use Rattle.turk_base.specs.State.{St, Act, gives, refused, waiting, stuck, act, op_cost}
use Rattle.turk_base.specs.Steps.{Small, give, refuse, lost, step, ask, steps_of}
use Rattle.turk_base.specs.Prog.{Prog, Done, Ask, Then, Always, Once, Fork, Loop}

-- It answers and goes on, is refused, meets a charge past the fuel, or does none of these: then it waits, asks the outside, or
-- uses a name that is no cell. With it the state at that moment, and the fuel left.
pub data Comes (A : Type 0) : Type 0 where
  goes : (a : A) → (σ : St) → (left : ℕ) → Comes A
  stops : (why : Refusal) → (σ : St) → (left : ℕ) → Comes A
  spends : (σ : St) → (left : ℕ) → Comes A
  other : Comes A

abbrev pub then_goes : {A B : Type 0} → Comes A → (A → St → ℕ → Comes B) → Comes B
then_goes (goes a σ n) k = k a σ n
then_goes (stops why σ n) k = stops why σ n
then_goes (spends σ n) k = spends σ n
then_goes other k = other

abbrev pub acted : {A : Type 0} → Act A → ℕ → Comes A
acted (gives a τ) n = goes a τ n
acted (refused why) n = other
acted (waiting x) n = other
acted stuck n = other

-- a charge is paid first; past the fuel nothing else happens
abbrev pub charged : {A : Type 0} → Bool → ℕ → St → ℕ → Comes A → Comes A
charged true cost σ n next = spends σ n
charged false cost σ n next = next

-- what steps do in the scope s of the branch b; `body` says that it is in a once body
unfoldable pub comes : {A : Type 0} → Small A → Path → Path → Bool → St → ℕ → Comes A
comes (give a) s b body σ n = goes a σ n
comes (refuse why) s b body σ n = stops why σ n
comes lost s b body σ n = other
comes (step o go) s b body σ n =
    charged (nat_lt n (op_cost o σ)) (op_cost o σ) σ n (then_goes (acted (act o s b body σ) (n - op_cost o σ)) (λ a τ m. comes (go a) s b body τ m))
comes (ask q go) s b body σ n = other

-- the same of a program
unfoldable pub ends : Prog → Path → Path → Bool → St → ℕ → Comes Outcome
ends (Done o) s b body σ n = goes o σ n
ends (Ask p go) s b body σ n = then_goes (comes (steps_of p) s b body σ n) (λ a τ m. ends (go a) s b body τ m)
ends (Then g go) s b body σ n = other
ends (Always g go) s b body σ n = other
ends (Once g) s b body σ n = other
ends (Fork g) s b body σ n = other
ends (Loop g) s b body σ n = other
