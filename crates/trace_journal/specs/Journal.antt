-- The entries of a journal, as a relation between byte strings, a head and records. Own rules.
use Rattle.std.specs.Prelude.{◌≡◌, ◌⊎◌, ◌<◌, ⊤, ℕ, zero, suc, List, [], ◌∷◌, ◌++◌, length, take, None, slice_index_or}
use Rattle.turk_base.specs.declared.Entry.{Entry}
use Rattle.turk_base.specs.Trace.{at}
use Rattle.trace_tree.specs.Traces.{IsTrace}
use Rattle.record_bytes.specs.declared.Head.{Head}
use Rattle.record_bytes.specs.Limits.{Spells, SpellsHead}
use Rattle.gate_log.specs.Log.{IsLog}

-- each byte string spells the record at its place, and there are as many of both
abbrev pub AreSpelled : List (List ℕ) → List Entry → Type 0
AreSpelled [] [] = ⊤
AreSpelled [] (e ∷ es) = ⊥
AreSpelled (b ∷ bs) [] = ⊥
AreSpelled (b ∷ bs) (e ∷ es) = Spells b e × AreSpelled bs es

-- the byte strings are those of these records, whose paths are distinct and which are at most 65,536
pub record AreRecords (bs : List (List ℕ)) (es : List Entry) : Type 0 where
  pub spelled : AreSpelled bs es
  pub trace : IsTrace es

-- entry 0 spells the head, and the others the records
abbrev pub IsJournalOf : List (List ℕ) → Head → List Entry → Type 0
IsJournalOf [] h es = ⊥
IsJournalOf (b ∷ bs) h es = SpellsHead b h × AreRecords bs es

-- the bytes are the journal of this head and these records
abbrev pub IsJournal : List ℕ → Head → List Entry → Type 0
IsJournal bytes h es = (entries : List (List ℕ)) × IsLog bytes entries × IsJournalOf entries h es

-- the bytes are a log without entries, so a journal that isn't begun
abbrev pub IsUnbegun : List ℕ → Type 0
IsUnbegun bytes = IsLog bytes []

-- a byte string that can't follow these records: it spells none, or one at a path of theirs, or they are 65,536
abbrev pub IsBadNext : List Entry → List ℕ → Type 0
IsBadNext es b = (e : Entry) → Spells b e → at es e.path ≡ None → length es < 65536 → ⊥

-- the first byte string that can't follow those before it is the one of this number
pub record IsBadRecord (bs : List (List ℕ)) (i : ℕ) : Type 0 where
  pub before : List Entry
  pub records : AreRecords (take i bs) before
  pub inside : i < length bs
  pub bad : IsBadNext before (slice_index_or bs i [])

-- entry i is the first that is no head (i = 0), no record, a record at a path of an earlier one, or the record past 65,536
abbrev pub IsBadAt : List (List ℕ) → ℕ → Type 0
IsBadAt [] i = ⊥
IsBadAt (b ∷ bs) zero = (h : Head) → SpellsHead b h → ⊥
IsBadAt (b ∷ bs) (suc i) = ((h : Head) × SpellsHead b h) × IsBadRecord bs i

-- the journal as before, or with one record more
abbrev pub WithOrWithout : Head → List Entry → Entry → List ℕ → Type 0
WithOrWithout h es e c = (IsJournal c h es) ⊎ (IsJournal c h (es ++ e ∷ []))
