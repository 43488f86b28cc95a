-- What a board does with a task (own rules).
use Rattle.std.specs.Prelude.{◌≡◌, ◌⊎◌, ◌+◌, ◌-◌, ◌^◌, ◌≤◌, min, ℕ, List, [], ◌∷◌, ◌++◌, Some, None, Result, Ok, Err, IsErrOf}
use Rattle.turk_base.specs.Trace.{answer}
use Rattle.board_model.specs.Tokens.{Tasks}
use Rattle.board_model.specs.declared.Posted.{Posted}
use Rattle.board_model.specs.declared.Posted.TheVariants.{New, Held}
use Rattle.board_model.specs.declared.BoardStop.{BoardStop}
use Rattle.board_model.specs.declared.BoardStop.TheVariants.{Failed, Memory}

-- the count rose, unless it stands at the end of its type
abbrev pub Rose : ℕ → ℕ → Type 0
Rose before now = min (before + 1) (2 ^ 64 - 1) ≤ now

-- a count never falls, and where the post failed it rose
pub record HasCause (before now : ℕ) (result : Result Posted BoardStop) : Type 0 where
  pub later : before ≤ now
  pub failed : IsErrOf result Failed → Rose before now

-- A post at an honest board. A missing token's pair is added at the end: New. A token that is there changes nothing: Held,
-- with the kept text. Want of memory changes nothing. A failure changes nothing, or has added the pair of a missing token.
abbrev pub IsHonest : List ℕ → List ℕ → Tasks → Tasks → Result Posted BoardStop → Type 0
IsHonest token text old new (Ok New) = (answer old token ≡ None) × (new ≡ old ++ (token, text) ∷ [])
IsHonest token text old new (Ok (Held kept)) = (answer old token ≡ Some kept) × (new ≡ old)
IsHonest token text old new (Err Memory) = new ≡ old
IsHonest token text old new (Err Failed) = (new ≡ old) ⊎ ((answer old token ≡ None) × (new ≡ old ++ (token, text) ∷ []))
