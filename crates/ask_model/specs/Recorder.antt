-- What the tests' recorder is seen as: an asker whose records go to a list that may fail, and whose tasks go to a board (own rules).
use Rattle.std.specs.Prelude.{◌≡◌, ◌⊎◌, ◌+◌, ◌≤◌, ◌<◌, ℕ, ℤ, pos, int_rem, Result, IfOk, Bool, true, false, List, [], ◌∷◌, ◌++◌, length, take, drop, Option, Some, None, is_some, nat_lt, ⊤}
use Rattle.std.specs.Borrow.{MutBor}
use Rattle.outside.specs.Faults.{Rose}
use Rattle.turk_base.specs.declared.Entry.{Entry}
use Rattle.turk_base.specs.declared.Record.TheVariants.{Draw}
use Rattle.turk_base.specs.Trace.{answer}
use Rattle.record_bytes.specs.Limits.{IsDraw}
use Rattle.ask_model.specs.declared.AskStop.{AskStop}
use Rattle.ask_model.specs.declared.AskStop.TheVariants.{Fault, Diverged, TraceFull, LogFull, Memory}
use Rattle.ask_model.specs.declared.Which.TheVariants.{Disk, Board}
use Rattle.ask_model.specs.declared.Refused.{Refused}
use Rattle.ask_model.specs.declared.Refused.TheVariants.{Never, Last, Earlier}
use Rattle.ask_model.specs.Asker.{Seen, Pairs, KnowsWithin, IsHeldBy, entry, stop_of}
use Rattle.ask_model.specs.Draws.{draws_in, HaveWords}

-- A list of entries that lasts: how many it takes, how often it failed, and the entry that was being added when it failed,
-- which may stand on it.
pub record Shelf : Type 0 where
  pub entries : List Entry
  pub torn : Option Entry
  pub most : ℕ
  pub faults : ℕ

-- a recorder over a list that had so many entries at its start
abbrev pub recorded : Shelf → ℕ → Pairs → ℕ → Pairs → Option (List ℕ) → Refused → Seen
recorded shelf start tasks board_faults replies asked refused = record {
  trace = take start shelf.entries;
  replies = replies;
  made = drop start shelf.entries;
  asked = asked;
  refused = refused;
  closed = is_some shelf.torn;
  disk_faults = shelf.faults;
  board_faults = board_faults;
  tasks = tasks;
}

abbrev pub fits_on : Shelf → Entry → Bool
fits_on shelf e = nat_lt (length shelf.entries) shelf.most

pub record IsInOrder (shelf : Shelf) (start : ℕ) (seen : Seen) : Type 0 where
  pub starts : start ≤ length shelf.entries
  pub within : KnowsWithin seen

-- what was there after the first n entries and since, and the torn entry
abbrev pub LeftBy : Shelf → ℕ → List Entry → Type 0
LeftBy shelf n t = ((k : ℕ) × (n ≤ k) × (k ≤ length shelf.entries) × (t ≡ take k shelf.entries)) ⊎ ((e : Entry) × (shelf.torn ≡ Some e) × (t ≡ shelf.entries ++ e ∷ []))

-- there was room for one entry more
pub record HadRoom (shelf : Shelf) : Type 0 where
  pub few : length shelf.entries < 65536
  pub fitting : nat_lt (length shelf.entries) shelf.most ≡ true

-- What a call that adds an entry did to the list.
abbrev pub Shelved : Entry → Shelf → Shelf → Option AskStop → Type 0
Shelved e old new None = (new ≡ record old { entries = old.entries ++ e ∷ [] }) × HadRoom old
Shelved e old new (Some (Fault Disk)) = (new ≡ record old { torn = Some e; faults = new.faults }) × Rose old.faults new.faults × (old.faults ≤ new.faults) × HadRoom old
Shelved e old new (Some (Fault Board)) = (new ≡ old) × HadRoom old
Shelved e old new (Some (Diverged d)) = (new ≡ old) × HadRoom old
Shelved e old new (Some TraceFull) = (new ≡ old) × (65536 ≤ length old.entries)
Shelved e old new (Some LogFull) = (new ≡ old) × (length old.entries < 65536) × (nat_lt (length old.entries) old.most ≡ false)
Shelved e old new (Some Memory) = new ≡ old

-- the same of a draw, which took the next word
pub record ShelvedDraw {W : Type 0} (rest : W → ℕ → ℕ) (path : List ℕ) (bound : ℤ) (old_draws new_draws : W) (old new : Shelf) (result : Result ℤ AskStop) : Type 0 where
  pub value : ℤ
  pub word : value ≡ int_rem (pos (rest old_draws 0)) bound
  pub small : IsDraw bound value
  pub moves : (k : ℕ) → rest new_draws k ≡ rest old_draws (1 + k)
  pub is : IfOk result (λ r. r ≡ value)
  pub shelved : Shelved (entry path (Draw bound value)) old new (stop_of result)

-- the same before an entry is added: there is room for it, or why there is none
abbrev pub Prepared : Shelf → Option AskStop → Type 0
Prepared shelf None = HadRoom shelf
Prepared shelf (Some (Fault which)) = ⊥
Prepared shelf (Some (Diverged d)) = ⊥
Prepared shelf (Some TraceFull) = 65536 ≤ length shelf.entries
Prepared shelf (Some LogFull) = (length shelf.entries < 65536) × (nat_lt (length shelf.entries) shelf.most ≡ false)
Prepared shelf (Some Memory) = ⊤

-- an answer that may come after the board took the task
abbrev pub ComesLate : Option AskStop → Type 0
ComesLate None = ⊤
ComesLate (Some (Fault which)) = ⊤
ComesLate (Some (Diverged d)) = ⊥
ComesLate (Some TraceFull) = ⊥
ComesLate (Some LogFull) = ⊥
ComesLate (Some Memory) = ⊥

-- what the board did with a task
abbrev pub Placed : (token text : List ℕ) → (old new : Pairs) → (before after : ℕ) → Option AskStop → Type 0
Placed token text old new before after None = (answer new token ≡ Some text) × (before ≤ after) × ((new ≡ old) ⊎ ((answer old token ≡ None) × (new ≡ old ++ (token, text) ∷ [])))
Placed token text old new before after (Some (Fault Board)) = (new ≡ old) × Rose before after × (before ≤ after)
Placed token text old new before after (Some (Fault Disk)) = ⊥
Placed token text old new before after (Some (Diverged d)) = (new ≡ old) × (before ≤ after) × IsHeldBy (answer old token) d.kept
Placed token text old new before after (Some TraceFull) = ⊥
Placed token text old new before after (Some LogFull) = ⊥
Placed token text old new before after (Some Memory) = (new ≡ old) × (before ≤ after)

-- which of these calls were refused may come after those
abbrev pub Follows : Refused → Refused → Type 0
Follows Never later = ⊤
Follows Last Never = ⊥
Follows Last Last = ⊤
Follows Last Earlier = ⊤
Follows Earlier Never = ⊥
Follows Earlier Last = ⊥
Follows Earlier Earlier = ⊤

-- Between two states the three objects are the same, and the list gained entries. As long as no call but the last was refused, the draws
-- among these are the next words; and while none was refused, no other word was taken. After a refusal nothing more is made.
pub record Holds {S D W : Type 0} (rest : W → ℕ → ℕ) (old_shelf new_shelf : MutBor S) (old_desk new_desk : MutBor D) (old_draws new_draws : MutBor W) (old new : List Entry) (before after : Refused) : Type 0 where
  pub shelf : new_shelf.ghost_name ≡ old_shelf.ghost_name
  pub desk : new_desk.ghost_name ≡ old_desk.ghost_name
  pub draws : new_draws.ghost_name ≡ old_draws.ghost_name
  pub follows : Follows before after
  pub more : List Entry
  pub gained : new ≡ old ++ more
  pub words : (after ≡ Earlier → ⊥) → (before ≡ Never → HaveWords (rest old_draws.now) 0 more) × (before ≡ Last → more ≡ [])
  pub moved : after ≡ Never → (k : ℕ) → rest new_draws.now k ≡ rest old_draws.now (draws_in more + k)
