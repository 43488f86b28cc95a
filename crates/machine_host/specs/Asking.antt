-- What an ask of the outside did: its index, what a record answered, and what was made.
use Rattle.std.specs.Prelude.{◌≡◌, ◌⊎◌, List, [], ◌∷◌, ◌++◌, ◌+◌, ℕ, Some, None, Result, Ok, Err}
use Rattle.turk_base.specs.Names.{Path, sub, path_in, Units}
use Rattle.turk_base.specs.declared.Record.{Record}
use Rattle.turk_base.specs.State.{next_call}
use Rattle.turk_base.specs.Values.{task}
use Rattle.turk_base.specs.Asks.{Question, AnsOf, rec}
use Rattle.js_tree.specs.World as meaning
use Rattle.js_tree.specs.World.{World, Fresh, fresh, Rest, noted, kept_answer, diverges, found_kept, found_below, called_by}
use Rattle.js_tree.specs.Run.{waits, halted, undrawn, unanswered}
use Rattle.ask_model.specs.declared.AskStop.{AskStop}
use Rattle.ask_model.specs.declared.AskStop.TheVariants.{Memory}
use Rattle.ask_model.specs.declared.Divergence.{Divergence}
use Rattle.value_cells.specs.Seen.{Naming, Fits}
use Rattle.run_host.specs.declared.Exit.{Exit}
use Rattle.run_host.specs.declared.Exit.TheVariants.{Halted, Stopped}
use Rattle.run_host.specs.declared.Halt.TheVariants.{Waits, Diverges}
use Rattle.run_host.specs.Moment.{alone, Moment, Unmade, asking, drawn_by, Deals, draws_in, rest_of, Suits, Same}
use Rattle.run_host.specs.Told.{TellsOf}

-- The call with the path p took its index, and nothing else changed.
pub record Indexed (p : List ℕ) (old new : Moment alone) : Type 0 where
  pub names : new.heap.names ≡ old.heap.names
  pub scope : new.heap.scope ≡ old.heap.scope
  pub outer : new.heap.outer ≡ old.heap.outer
  pub left : new.heap.left ≡ old.heap.left
  pub first : (nu : Naming) → Fits nu new.heap.names → new.heap.first nu ≡ next_call (old.heap.first nu)
  pub path : (nu : Naming) → path_in p ≡ sub (old.heap.first nu).calls old.heap.scope.path
  pub rest : new ≡ record old { heap = new.heap }

-- Memory ran out, and no record was made.
pub record Loses (x : Exit) (old new : Moment alone) : Type 0 where
  pub is : x ≡ Stopped Memory
  pub same : Same old new
  pub made : new.made ≡ old.made
  pub stopped : new.stopped ≡ old.stopped

-- A call of the asker was refused, and that is told with the record that was not made; or memory ran out.
abbrev pub Refuses : Unmade → AskStop → Exit → Moment alone → Moment alone → Type 0
Refuses unmade why x old new = ((x ≡ Stopped why) × (new ≡ record old { stopped = Some why; unmade = unmade })) ⊎ Loses x old new

-- The run waits for the reply to a task, or memory ran out.
abbrev pub AwaitsTask : Units → Exit → Moment alone → Moment alone → Type 0
AwaitsTask key x old new = ((x ≡ Halted Waits) × (new ≡ record old { waits = old.waits ++ task key ∷ [] })) ⊎ Loses x old new

-- the exit tells of this divergence
abbrev pub Tells : Exit → meaning.Divergence → Type 0
Tells x m = (d : Divergence) × (x ≡ Halted (Diverges d)) × TellsOf d m

-- what a record at the path of a call answers
abbrev pub KeptGives : (q : Question) → Units → Path → Record → Result (AnsOf q) Exit → Type 0
KeptGives q session p r (Ok a) = kept_answer q session p r ≡ Some a
KeptGives q session p r (Err x) = (x ≡ Stopped Memory) ⊎ ((kept_answer q session p r ≡ None) × Tells x (diverges p (found_kept r) (called_by q)))

-- Where the record of a call is a draw, it has the first of the words that were to be drawn, and the others are still to be.
pub record Draws (before after : ℕ → ℕ) (p : Path) (what : Record) : Type 0 where
  pub dealt : Deals (meaning.words before) 0 p what
  pub moved : (k : ℕ) → after k ≡ before (drawn_by what 0 + k)

-- What an ask did that has no record at its path p.
pub data Asks (q : Question) (p : Path) (old new : Moment alone) : Result (AnsOf q) Exit → Type 0 where
  answered : (f : Fresh q) → (v : ℕ → ℕ) → new ≡ record old { made = old.made ++ rec p f.what ∷ []; words = v } → Draws old.words v p f.what → ((E : World) → Suits E new → fresh q E (draws_in old.made) p ≡ Some f) → Asks q p old new (Ok f.answer)
  missing : new ≡ record old { waits = (noted q (rest_of old)).waits } → unanswered q ≡ waits → ((E : World) → Suits E new → fresh q E (draws_in old.made) p ≡ None) → Asks q p old new (Err (Halted Waits))
  refused : (why : AskStop) → (v : ℕ → ℕ) → new ≡ record old { stopped = Some why; unmade = asking p q; words = v } → ((E : World) → Suits E new → fresh q E (draws_in old.made) p ≡ None → unanswered q ≡ halted undrawn) → Asks q p old new (Err (Stopped why))
  lost : (x : Exit) → Loses x old new → Asks q p old new (Err x)
