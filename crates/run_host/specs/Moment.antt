-- What a run stands at, between two steps of an evaluator: the heap with its open scopes, what is never taken back, and what the
-- run knows of the outside.
use Rattle.std.specs.Prelude.{◌≡◌, ◌+◌, ℕ, suc, List, [], ◌∷◌, Option, Some, slice_get, ◌≤◌, ◌<◌}
use Rattle.turk_base.specs.Names.{Path, Name, Units, In, Under, home}
use Rattle.turk_base.specs.Values.{Wait, Data}
use Rattle.turk_base.specs.declared.Record.{Record}
use Rattle.turk_base.specs.declared.Record.TheVariants as kept
use Rattle.turk_base.specs.Errors.{built_in}
use Rattle.turk_base.specs.Asks.{Question, Rec, rec, path_of}
use Rattle.js_tree.specs.World.{Draws, World, Rest, draw_of}
use Rattle.run_laws.proofs.Sequel.{Place}
use Rattle.run_laws.proofs.Within.{After}
use Rattle.ask_model.specs.declared.AskStop.{AskStop}
use Rattle.value_cells.specs.Seen.{Naming, Seen, Grows, count}

-- The record that was not made, where a call was refused.
pub data Unmade : Type 0 where
  -- of an ask that had no record
  asking : (p : Path) → (q : Question) → Unmade
  -- of a once body that gave this data
  keeping : (p : Path) → (d : Data) → Unmade
  nothing_known : Unmade

-- The states of what answers a run, and what holds between an earlier one and a later one.
pub record Chain : Type 1 where
  pub State : Type 0
  pub To : State → State → Type 0
  pub stays : (a : State) → To a a
  pub goes_on : (a b c : State) → To a b → To b c → To a c

-- where nothing answers
abbrev pub alone : Chain
alone = record { State = Unit {0}; To = λ a b. Unit {0}; stays = λ a. tt; goes_on = λ a b c x y. tt }

pub record Moment (κ : Chain) : Type 0 where
  pub heap : Seen
  -- what answers the run
  pub asker : κ.State
  -- how many forks took an index, and what was waited for
  pub forks : ℕ
  pub waits : List Wait
  -- the session, the trace at the start, the replies, and the records made
  pub session : Units
  pub trace : List Rec
  pub pairs : List (Units × Units)
  pub made : List Rec
  -- the words that are still to be drawn
  pub words : ℕ → ℕ
  -- why a call was refused, and the record that was not made
  pub stopped : Option AskStop
  pub unmade : Unmade

-- the same moment of a run that nothing answers
abbrev pub apart : {κ : Chain} → Moment κ → Moment alone
apart m = record { heap = m.heap; asker = tt; forks = m.forks; waits = m.waits; session = m.session; trace = m.trace; pairs = m.pairs; made = m.made; words = m.words; stopped = m.stopped; unmade = m.unmade }

-- how many cells there are
abbrev pub cells : {κ : Chain} → Moment κ → ℕ
cells m = count m.heap

-- the first seven cells are the built-in ones
pub record HasBuiltIns {κ : Chain} (m : Moment κ) : Type 0 where
  pub named : (i : ℕ) → i < 7 → slice_get m.heap.names i ≡ Some (built_in i)

-- no two cells have one name
pub record AreApart {κ : Chain} (m : Moment κ) : Type 0 where
  pub named : (i j : ℕ) (n : Name) → slice_get m.heap.names i ≡ Some n → slice_get m.heap.names j ≡ Some n → i ≡ j

abbrev pub drawn_by : Record → ℕ → ℕ
drawn_by (kept.Post t) n = n
drawn_by (kept.Reply t x) n = n
drawn_by (kept.Draw b v) n = suc n
drawn_by (kept.Once d) n = n

-- how many records are draws
abbrev pub draws_in : List Rec → ℕ
draws_in [] = 0
draws_in (rec p x ∷ l) = drawn_by x (draws_in l)

abbrev pub rest_of : {κ : Chain} → Moment κ → Rest
rest_of m = record { left = m.heap.left; drawn = draws_in m.made; forks = m.forks; waits = m.waits }

-- The draws give what this record tells of, where k draws were made before it.
abbrev pub Deals : Draws → ℕ → Path → Record → Type 0
Deals d k p (kept.Post t) = Unit {0}
Deals d k p (kept.Reply t x) = Unit {0}
Deals d k p (kept.Draw b v) = draw_of d k p b ≡ Some v
Deals d k p (kept.Once x) = Unit {0}

abbrev pub AllDealt : Draws → ℕ → List Rec → Type 0
AllDealt d k [] = Unit {0}
AllDealt d k (rec p x ∷ l) = Deals d k p x × AllDealt d (drawn_by x k) l

-- a world of the session and the replies, whose draws give those that were made
pub record Suits {κ : Chain} (E : World) (m : Moment κ) : Type 0 where
  pub session : E.session ≡ m.session
  pub pairs : E.pairs ≡ m.pairs
  pub dealt : AllDealt E.dice 0 m.made

-- No record that was made stands at or below a call that is still to come.
abbrev pub Clear : {κ : Chain} → Naming → Moment κ → Type 0
Clear nu m = (r : Rec) → In Rec r m.made → After m.heap.scope.path (m.heap.first nu).calls (path_of r) → ⊥

-- the place of a run at a moment; loops turn less often than `bound`
abbrev pub place : {κ : Chain} → World → ℕ → Moment κ → Place
place E bound m = record { world = E; trace = m.trace; bound = bound; scope = m.heap.scope.path; branch = m.heap.scope.branch; body = m.heap.scope.body }

-- What no step changes; and what answers the run goes on along its chain.
pub record Same {κ : Chain} (old new : Moment κ) : Type 0 where
  pub later : κ.To old.asker new.asker
  pub session : new.session ≡ old.session
  pub trace : new.trace ≡ old.trace
  pub pairs : new.pairs ≡ old.pairs
  pub grows : Grows old.heap.names new.heap.names

-- The scope is as before, what was made stands in it or below it, and no fuel was won.
pub record Within {κ : Chain} (old new : Moment κ) : Type 0 where
  pub scope : new.heap.scope ≡ old.heap.scope
  pub outer : new.heap.outer ≡ old.heap.outer
  pub below : (i : ℕ) (n : Name) → slice_get new.heap.names i ≡ Some n → cells old ≤ i → Under old.heap.scope.path (home n)
  pub falls : new.heap.left ≤ old.heap.left

-- The words of the draws among these records were drawn.
pub record Moves {κ : Chain} (old new : Moment κ) (added : List Rec) : Type 0 where
  pub on : (k : ℕ) → new.words k ≡ old.words (draws_in added + k)
