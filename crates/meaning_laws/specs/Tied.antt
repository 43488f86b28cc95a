-- The definitions on traces, replies and tokens as the code's values show them are those of the meaning.
use Rattle.std.specs.Prelude.{List, Option, Some, None}
use Rattle.std.proofs.Common.{◌≡◌, ℕ}
use Rattle.turk_base.specs.declared.Entry.{Entry}
use Rattle.turk_base.specs.declared.Record.{Record}
use Rattle.turk_base.specs.Names.{Units, path_in}
use Rattle.turk_base.specs.Asks.{Rec, rec, find, below, answer, token}
use Rattle.turk_base.specs.Told.{records_of}
use Rattle.turk_base.specs.Trace.{at, token_of, answer as answer_told, below as below_told}

abbrev pub what_of : Option Rec → Option Record
what_of (Some (rec p x)) = Some x
what_of None = None

-- the record at a path
abbrev pub FindTied : Type 0
FindTied = (l : List Entry) (q : List ℕ) → what_of (find (path_in q) (records_of l)) ≡ at l q

-- records below a path
abbrev pub BelowTied : Type 0
BelowTied = (l : List Entry) (q : List ℕ) → below (path_in q) (records_of l) ≡ below_told l q

-- the first reply with a token
abbrev pub AnswerTied : Type 0
AnswerTied = (l : List (Units × Units)) (t : Units) → answer l t ≡ answer_told l t

-- the token of a path
abbrev pub TokenTied : Type 0
TokenTied = (name : Units) (l : List ℕ) → token name (path_in l) ≡ token_of name l
