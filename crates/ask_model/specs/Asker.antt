-- What an asker is seen as, and what its calls do (own rules).
use Rattle.std.specs.Prelude.{◌≡◌, ◌⊎◌, ◌≤◌, ◌<◌, ℕ, ℤ, Bool, true, false, List, [], ◌∷◌, ◌++◌, length, Option, Some, None, Result, Ok, Err, IfOk, is_some, ⊤}
use Rattle.std.specs.List.{AllByRecursion}
use Rattle.outside.specs.Faults.{Rose}
use Rattle.turk_base.specs.declared.Entry.{Entry}
use Rattle.turk_base.specs.declared.Record.{Record}
use Rattle.turk_base.specs.declared.Record.TheVariants.{Reply, Draw}
use Rattle.turk_base.specs.Trace.{at, below, answer}
use Rattle.record_bytes.specs.Limits.{IsTextWithin, IsDraw, IsWithin}
use Rattle.ask_model.specs.declared.Which.TheVariants.{Disk, Board}
use Rattle.ask_model.specs.declared.Called.TheVariants as called
use Rattle.ask_model.specs.declared.Kept.{Kept}
use Rattle.ask_model.specs.declared.Kept.TheVariants as found
use Rattle.ask_model.specs.declared.AskStop.{AskStop}
use Rattle.ask_model.specs.declared.AskStop.TheVariants.{Fault, Diverged, TraceFull, LogFull, Memory}
use Rattle.ask_model.specs.declared.Known.{Known}
use Rattle.ask_model.specs.declared.Known.TheVariants.{Nothing, Below, Here}
use Rattle.ask_model.specs.declared.Refused.{Refused}
use Rattle.ask_model.specs.declared.Refused.TheVariants.{Never, Last, Earlier}

-- pairs of a token and a text
abbrev pub Pairs : Type 0
Pairs = List (List ℕ × List ℕ)

-- an asker's plain meanings
pub record Seen : Type 0 where
  -- the trace at its start, the replies of its snapshot, the records made
  pub trace : List Entry
  pub replies : Pairs
  pub made : List Entry
  -- the path that `known` was asked last
  pub asked : Option (List ℕ)
  -- which of its adding calls were refused
  pub refused : Refused
  -- one of its calls answered Fault(Disk)
  pub closed : Bool
  pub disk_faults : ℕ
  pub board_faults : ℕ
  -- the tasks of the board
  pub tasks : Pairs

-- what is known: the trace at the start and the records made
abbrev pub known_to : Seen → List Entry
known_to s = s.trace ++ s.made

abbrev pub entry : List ℕ → Record → Entry
entry path what = record { path = path; what = what }

-- ---- within the limits

-- no two entries have one path
abbrev pub HasDistinctPaths : List Entry → Type 0
HasDistinctPaths [] = Unit {0}
HasDistinctPaths (e ∷ es) = (at es e.path ≡ None) × HasDistinctPaths es

-- a trace within the limits
pub record IsTrace (es : List Entry) : Type 0 where
  pub distinct : HasDistinctPaths es
  pub few : length es ≤ 65536
  pub within : AllByRecursion IsWithin es

-- replies within the limits: texts of at most 1,048,576 units
abbrev pub AreReplies : Pairs → Type 0
AreReplies pairs = AllByRecursion (λ p. IsTextWithin p.0 × IsTextWithin p.1) pairs

-- a path of a call
pub record IsCallPath (path : List ℕ) : Type 0 where
  pub some : 0 < length path
  pub short : length path ≤ 800

-- what an asker knows is within the limits
pub record KnowsWithin (s : Seen) : Type 0 where
  pub trace : IsTrace (known_to s)
  pub replies : AreReplies s.replies

-- ---- what is known at a path

abbrev pub known_by : Option Record → Bool → Known
known_by (Some r) longer = Here
known_by None true = Below
known_by None false = Nothing

-- a record at the path, else one below it, else nothing
abbrev pub known_at : List Entry → List ℕ → Known
known_at es path = known_by (at es path) (below es path)

-- after a question for a path
abbrev pub asked_at : Seen → List ℕ → Seen
asked_at s path = record s { asked = Some path }

-- the record at the path that was asked last
abbrev pub record_in : List Entry → Option (List ℕ) → Option Record
record_in es None = None
record_in es (Some path) = at es path

-- ---- how an adding call is answered

-- why it was refused, or None
abbrev pub stop_of : {T : Type 0} → Result T AskStop → Option AskStop
stop_of (Ok x) = None
stop_of (Err stop) = Some stop

-- which calls were refused, after one more
abbrev pub refused_after : Bool → Refused → Refused
refused_after false Never = Never
refused_after true Never = Last
refused_after b Last = Earlier
refused_after b Earlier = Earlier

abbrev pub closed_after : Option AskStop → Bool → Bool
closed_after (Some (Fault Disk)) closed = true
closed_after (Some (Fault Board)) closed = closed
closed_after (Some (Diverged d)) closed = closed
closed_after (Some TraceFull) closed = closed
closed_after (Some LogFull) closed = closed
closed_after (Some Memory) closed = closed
closed_after None closed = closed

-- a fault is answered only where its count rose
abbrev pub HasCause : Seen → Seen → Option AskStop → Type 0
HasCause old new (Some (Fault Disk)) = Rose old.disk_faults new.disk_faults
HasCause old new (Some (Fault Board)) = Rose old.board_faults new.board_faults
HasCause old new (Some (Diverged d)) = ⊤
HasCause old new (Some TraceFull) = ⊤
HasCause old new (Some LogFull) = ⊤
HasCause old new (Some Memory) = ⊤
HasCause old new None = ⊤

-- what no adding call changes, and what its answer changes
pub record Stays (old new : Seen) (stop : Option AskStop) : Type 0 where
  pub trace : new.trace ≡ old.trace
  pub replies : new.replies ≡ old.replies
  pub asked : new.asked ≡ old.asked
  pub refused : new.refused ≡ refused_after (is_some stop) old.refused
  pub closed : new.closed ≡ closed_after stop old.closed
  pub disk_later : old.disk_faults ≤ new.disk_faults
  pub board_later : old.board_faults ≤ new.board_faults
  pub cause : HasCause old new stop

-- there is room for the record, and it fits
pub record HasRoom (fits : Entry → Bool) (e : Entry) (old : Seen) : Type 0 where
  pub few : length (known_to old) < 65536
  pub fitting : fits e ≡ true

-- the record doesn't fit, and it doesn't after the call
pub record LacksRoom (fits later : Entry → Bool) (e : Entry) (old : Seen) : Type 0 where
  pub few : length (known_to old) < 65536
  pub unfit : fits e ≡ false
  pub still : later e ≡ false

-- Where a record is to be added: at 65,536 records TraceFull is answered, else LogFull where it doesn't fit, or want of memory in their place.
abbrev pub IsAnswer : (fits later : Entry → Bool) → Entry → Seen → Option AskStop → Type 0
IsAnswer fits later e old None = HasRoom fits e old
IsAnswer fits later e old (Some (Fault which)) = HasRoom fits e old
IsAnswer fits later e old (Some (Diverged d)) = HasRoom fits e old
IsAnswer fits later e old (Some TraceFull) = 65536 ≤ length (known_to old)
IsAnswer fits later e old (Some LogFull) = LacksRoom fits later e old
IsAnswer fits later e old (Some Memory) = ⊤

-- the records made after the call: with the one to be added, or as before
abbrev pub made_after : Option AskStop → List Entry → Entry → List Entry
made_after None made e = made ++ e ∷ []
made_after (Some stop) made e = made

-- One record is added, or the call is refused and none is. `fits` is the test before the call, `later` the one after it.
pub record Adds (fits later : Entry → Bool) (e : Entry) (old new : Seen) (stop : Option AskStop) : Type 0 where
  pub stays : Stays old new stop
  pub made : new.made ≡ made_after stop old.made e
  pub answers : IsAnswer fits later e old stop

-- an answer that has to do with no board
abbrev pub NoBoard : Option AskStop → Type 0
NoBoard (Some (Fault Disk)) = ⊤
NoBoard (Some (Fault Board)) = ⊥
NoBoard (Some (Diverged d)) = ⊥
NoBoard (Some TraceFull) = ⊤
NoBoard (Some LogFull) = ⊤
NoBoard (Some Memory) = ⊤
NoBoard None = ⊤

-- ---- the traces that a stop may leave

-- A stop at a moment since the state `old` leaves what it might have left before, or a trace with P.
pub record Leaves {S : Type 0} (moment : S → ℕ) (left_since : S → ℕ → List Entry → Type 0) (old new : S) (P : List Entry → Type 0) : Type 0 where
  pub later : moment old ≤ moment new
  pub before : (m : ℕ) (t : List Entry) → m ≤ moment old → left_since new m t → left_since old m t ⊎ P t

-- what was known, with the new record or without it
abbrev pub WithOrWithout : Seen → Entry → List Entry → Type 0
WithOrWithout s e t = (t ≡ known_to s) ⊎ (t ≡ known_to s ++ e ∷ [])

-- what was known; and with the new record too where it was added, or where a fault of the disk leaves that open
abbrev pub Perhaps : Option AskStop → Seen → Entry → List Entry → Type 0
Perhaps None s e t = WithOrWithout s e t
Perhaps (Some (Fault Disk)) s e t = WithOrWithout s e t
Perhaps (Some (Fault Board)) s e t = t ≡ known_to s
Perhaps (Some (Diverged d)) s e t = t ≡ known_to s
Perhaps (Some TraceFull) s e t = t ≡ known_to s
Perhaps (Some LogFull) s e t = t ≡ known_to s
Perhaps (Some Memory) s e t = t ≡ known_to s

-- ---- a post

-- That the board holds another text for the token is told with both texts.
abbrev pub IsHeld : List ℕ → List ℕ → Option AskStop → Type 0
IsHeld path text (Some (Diverged d)) = (kept : List ℕ) × (kept ≡ text → ⊥) × (d ≡ record { path = path; kept = found.Held kept; called = called.Post text })
IsHeld path text (Some (Fault which)) = ⊤
IsHeld path text (Some TraceFull) = ⊤
IsHeld path text (Some LogFull) = ⊤
IsHeld path text (Some Memory) = ⊤
IsHeld path text None = ⊤

-- the tasks as before, or with the pair of a missing token at their end
abbrev pub AtMostAdded : List ℕ → List ℕ → Pairs → Pairs → Type 0
AtMostAdded token text old new = (new ≡ old) ⊎ ((answer old token ≡ None) × (new ≡ old ++ (token, text) ∷ []))

-- the board held this text
abbrev pub IsHeldBy : Option (List ℕ) → Kept → Type 0
IsHeldBy (Some text) kept = kept ≡ found.Held text
IsHeldBy None kept = ⊥

-- The tasks after a post, by its answer. After Ok, and where the disk failed after it, the board holds this text for the token.
-- Diverged comes where it held another text. After the other refusals but Fault(Board) the tasks are as before.
abbrev pub HasTask : List ℕ → List ℕ → Pairs → Pairs → Option AskStop → Type 0
HasTask token text old new None = answer new token ≡ Some text
HasTask token text old new (Some (Fault Disk)) = answer new token ≡ Some text
HasTask token text old new (Some (Fault Board)) = ⊤
HasTask token text old new (Some (Diverged d)) = (new ≡ old) × IsHeldBy (answer old token) d.kept
HasTask token text old new (Some TraceFull) = new ≡ old
HasTask token text old new (Some LogFull) = new ≡ old
HasTask token text old new (Some Memory) = new ≡ old

pub record Posts (token text : List ℕ) (old new : Pairs) (stop : Option AskStop) : Type 0 where
  pub only : AtMostAdded token text old new
  pub task : HasTask token text old new stop

-- ---- a reply

-- By what the snapshot has: without a reply None is answered and nothing is added; else that text is, and its record is added.
abbrev pub Replies : (fits later : Entry → Bool) → List ℕ → List ℕ → Seen → Seen → Result (Option (List ℕ)) AskStop → Option (List ℕ) → Type 0
Replies fits later path token old new result None = (result ≡ Ok None) × Stays old new None × (new.made ≡ old.made)
Replies fits later path token old new result (Some text) = IfOk result (λ r. r ≡ Some text) × Adds fits later (entry path (Reply token text)) old new (stop_of result)

-- what was known, or with the record of the reply that the snapshot has
abbrev pub WithReply : Option AskStop → Seen → List ℕ → List ℕ → Option (List ℕ) → List Entry → Type 0
WithReply stop s path token None t = t ≡ known_to s
WithReply stop s path token (Some text) t = Perhaps stop s (entry path (Reply token text)) t

-- ---- a draw

-- The value drawn, also where the call is then refused.
pub record Drawn {S : Type 0} (seen : S → Seen) (fits : S → Entry → Bool) (tells : Type 0) (moment : S → ℕ) (left_since : S → ℕ → List Entry → Type 0) (path : List ℕ) (bound : ℤ) (old new : S) (result : Result ℤ AskStop) : Type 0 where
  pub value : ℤ
  pub small : IsDraw bound value
  pub is : IfOk result (λ r. r ≡ value)
  pub adds : Adds (fits old) (fits new) (entry path (Draw bound value)) (seen old) (seen new) (stop_of result)
  pub traces : tells → Leaves moment left_since old new (Perhaps (stop_of result) (seen old) (entry path (Draw bound value)))
