-- What a table is seen as, and what its calls do (own rules).
use Rattle.std.specs.Prelude.{◌≡◌, ◌+◌, ◌≤◌, ◌<◌, ℕ, ℤ, pos, int_rem, Bool, true, false, List, [], ◌∷◌, ◌++◌, length, Option, Some, None, Result, IfOk, IfErr, OnOk, OnErr, ⊤}
use Rattle.std.specs.Borrow.{MutBor}
use Rattle.turk_base.specs.declared.Entry.{Entry}
use Rattle.ask_model.specs.declared.AskStop.{AskStop}
use Rattle.ask_model.specs.declared.AskStop.TheVariants.{Fault, Diverged, TraceFull, LogFull, Memory}
use Rattle.ask_model.specs.declared.Refused.{Refused}
use Rattle.turk_base.specs.declared.Record.TheVariants.{Draw}
use Rattle.record_bytes.specs.Limits.{IsDraw}
use Rattle.ask_model.specs.Asker.{Seen, Pairs, entry}
use Rattle.ask_model.specs.Draws.{draws_in, HaveWords}

-- a table of this trace, replies, records made, path asked last and refusals
abbrev pub table : List Entry → Pairs → List Entry → Option (List ℕ) → Refused → Seen
table trace replies made asked refused = record {
  trace = trace;
  replies = replies;
  made = made;
  asked = asked;
  refused = refused;
  closed = false;
  disk_faults = 0;
  board_faults = 0;
  tasks = [];
}

-- One record is added where the trace has so many, or the call is refused: TraceFull at 65,536 records, or want of memory.
abbrev pub Added : ℕ → Entry → List Entry → List Entry → Option AskStop → Type 0
Added traced e old new None = (new ≡ old ++ e ∷ []) × (traced + length old < 65536)
Added traced e old new (Some (Fault which)) = ⊥
Added traced e old new (Some (Diverged d)) = ⊥
Added traced e old new (Some TraceFull) = (new ≡ old) × (65536 ≤ traced + length old)
Added traced e old new (Some LogFull) = ⊥
Added traced e old new (Some Memory) = new ≡ old

-- why there is no room for one record more
abbrev pub IsFull : ℕ → List Entry → AskStop → Type 0
IsFull traced made (Fault which) = ⊥
IsFull traced made (Diverged d) = ⊥
IsFull traced made TraceFull = 65536 ≤ traced + length made
IsFull traced made LogFull = ⊥
IsFull traced made Memory = ⊤

-- a refusal for want of room in the trace, or of memory
abbrev pub IsFullOrLost : AskStop → Type 0
IsFullOrLost (Fault which) = ⊥
IsFullOrLost (Diverged d) = ⊥
IsFullOrLost TraceFull = ⊤
IsFullOrLost LogFull = ⊥
IsFullOrLost Memory = ⊤

-- What a call that draws did, by its answer.
pub record Drew {W : Type 0} (rest : W → ℕ → ℕ) (traced : ℕ) (path : List ℕ) (bound : ℤ) (old_draws new_draws : W) (made new : List Entry) (result : Result ℤ AskStop) : Type 0 where
  pub value : IfOk result (λ v. v ≡ int_rem (pos (rest old_draws 0)) bound)
  pub small : IfOk result (λ v. IsDraw bound v)
  pub moves : OnOk result ((k : ℕ) → rest new_draws k ≡ rest old_draws (1 + k))
  pub added : IfOk result (λ v. Added traced (entry path (Draw bound v)) made new None)
  pub stays : OnErr result (new_draws ≡ old_draws)
  pub refused : IfErr result (λ stop. (e : Entry) → Added traced e made new (Some stop))

-- the path asked last, where one was
abbrev pub asked_of : Bool → List ℕ → Option (List ℕ)
asked_of true path = Some path
asked_of false path = None

-- between two states the draws are one object, the records made are more, and the draws among the new ones are its words
pub record Keeps {W : Type 0} (rest : W → ℕ → ℕ) (old_draws new_draws : MutBor W) (old new : List Entry) : Type 0 where
  pub draws : new_draws.ghost_name ≡ old_draws.ghost_name
  pub more : List Entry
  pub gained : new ≡ old ++ more
  pub words : HaveWords (rest old_draws.now) 0 more
  pub moved : (k : ℕ) → rest new_draws.now k ≡ rest old_draws.now (draws_in more + k)
