-- What a board in a file is seen as, and what it keeps. Own rules.
use Rattle.std.specs.Prelude.{◌≡◌, ⊤, ◌+◌, ◌-◌, ◌^◌, min, ℕ, Bool, true, false, List, Option, Some, None, Result, Ok, Err}
use Rattle.board_model.specs.Tokens.{HasDistinctTokens}
use Rattle.board_model.specs.declared.Posted.{Posted}
use Rattle.board_model.specs.declared.BoardStop.{BoardStop}
use Rattle.board_model.specs.declared.BoardStop.TheVariants as board
use Rattle.gate_log.specs.GateLog.{entries_of, is_closed_of, IsOn}
use Rattle.ledger_board.specs.Tasks.{AreTasks}
use Rattle.ledger_board.specs.declared.LedgerCause.{LedgerCause}
use Rattle.ledger_board.specs.declared.stop.LedgerStop.{LedgerStop}
use Rattle.ledger_board.specs.declared.stop.LedgerStop.TheVariants.{Cause, Memory}
use Rattle.ledger_board.specs.declared.ledger.Ledger.{Ledger}
use Rattle.ledger_board.specs.declared.board.State.{State}
use Rattle.ledger_board.specs.declared.board.State.TheVariants.{Unopened, Opened, Shut}

-- its disk, whether its log is open, whether a post failed with the cause Disk, why the last post failed, and how many failed
pub record Kept (D : Type 0) : Type 0 where
  pub disk : D
  pub is_open : Bool
  pub is_closed : Bool
  pub cause : Option LedgerCause
  pub faults : ℕ

abbrev pub is_opened : State → Bool
is_opened Unopened = false
is_opened (Opened l) = true
is_opened Shut = false

abbrev pub is_shut : State → Bool
is_shut Unopened = false
is_shut (Opened l) = false
is_shut Shut = true

-- a count after one more, which stands still at the end of its type
abbrev pub one_more : ℕ → ℕ
one_more count = min (count + 1) (2 ^ 64 - 1)

-- the log is open, its entries are these tasks, and where the disk tells it, it is what stands there
pub record IsOpen (tells : Type 0) (bytes : List ℕ) (image : List ℕ → Type 0) (l : Ledger) : Type 0 where
  pub unclosed : is_closed_of l.log ≡ false
  pub spelled : AreTasks (entries_of l.log) l.tasks.items
  pub distinct : HasDistinctTokens l.tasks.items
  pub on : tells → IsOn l.log bytes image

abbrev pub IsSound : Type 0 → List ℕ → (List ℕ → Type 0) → State → Type 0
IsSound tells bytes image Unopened = ⊤
IsSound tells bytes image (Opened l) = IsOpen tells bytes image l
IsSound tells bytes image Shut = ⊤

-- what is answered in place of a ledger's answer
abbrev pub board_answer : Result Posted LedgerStop → Result Posted BoardStop
board_answer (Ok posted) = Ok posted
board_answer (Err Memory) = Err board.Memory
board_answer (Err (Cause c)) = Err board.Failed

-- the cause that is kept after an answer
abbrev pub cause_after : Result Posted LedgerStop → Option LedgerCause
cause_after (Ok posted) = None
cause_after (Err Memory) = None
cause_after (Err (Cause c)) = Some c
