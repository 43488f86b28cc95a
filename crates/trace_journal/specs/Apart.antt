-- Bytes are broken, or have a bad entry, or aren't begun, or are a journal: one of these, at one place, number, head and list.
use Rattle.std.proofs.Common.{◌≡◌, ◌≢◌, ◌⊎◌, inl, inr, ℕ, zero, suc, ◌<◌, List, [], ◌∷◌, ◌++◌, length, get_or, take, None, refl, sym, ap, subst, ◌∙◌, arith, length-append}
use Rattle.std.proofs.lemmas.Bool.{cases_order}
use Rattle.std.proofs.lemmas.List.{take-take, get_or-take, length-take}
use Rattle.turk_base.specs.declared.Entry.{Entry}
use Rattle.turk_base.specs.Trace.{at}
use Rattle.trace_tree.specs.Traces.{HasDistinctPaths}
use Rattle.record_bytes.specs.declared.Head.{Head}
use Rattle.record_bytes.specs.Limits.{Spells}
use Rattle.gate_log.specs.Unique.{one_log}
use Rattle.trace_journal.specs.Journal.{AreSpelled, AreRecords, IsJournalOf, IsJournal, IsUnbegun, IsBadRecord, IsBadAt}
use Rattle.trace_journal.specs.TraceJournal.{IsBadJournal, IsOther}
use Rattle.trace_journal.specs.declared.JournalStop.{JournalStop}
use Rattle.trace_journal.specs.declared.JournalStop.TheVariants.{Fault, Broken, BadRecord, OtherName, OtherScript, OtherFuel, TraceFull, LogFull, Closed, Memory}
use Rattle.trace_journal.specs.Laws.{nothing_at, at_skip, first_apart, one_spelled}

-- an entry among others is found
among_apart : (front : List Entry) (e : Entry) (back : List Entry) (p : List ℕ) → nothing_at (front ++ e ∷ back) p → e.path ≢ p
among_apart [] e back p none = first_apart e back p none
among_apart (f ∷ front) e back p none = among_apart front e back p (sym (at_skip f (front ++ e ∷ back) p (first_apart f (front ++ e ∷ back) p none)) ∙ none)

-- no record before an entry has its path
before_apart : (front : List Entry) (e : Entry) (back : List Entry) → HasDistinctPaths (front ++ e ∷ back) → nothing_at front e.path
before_apart [] e back distinct = refl
before_apart (f ∷ front) e back distinct =
    at_skip f front e.path (λ is. among_apart front e back f.path distinct.0 (sym is)) ∙ before_apart front e back distinct.1

-- the records before that number, the one of that number, and the others
record Cut (bs : List (List ℕ)) (es : List Entry) (i : ℕ) : Type 0 where
  front : List Entry
  entry : Entry
  back : List Entry
  before : AreSpelled (take i bs) front
  here : Spells (get_or bs i []) entry
  all : es ≡ front ++ entry ∷ back

cut : (bs : List (List ℕ)) (es : List Entry) (i : ℕ) → AreSpelled bs es → i < length bs → Cut bs es i
cut [] es i are lt = absurd (omega (arith, lt))
cut (b ∷ bs) [] i are lt = absurd are
cut (b ∷ bs) (e ∷ es) zero are lt = record { front = []; entry = e; back = es; before = tt; here = are.0; all = refl }
cut (b ∷ bs) (e ∷ es) (suc i) are lt =
    let rest = cut bs es i are.1 (omega (arith, lt)) in
    record { front = e ∷ rest.front; entry = rest.entry; back = rest.back; before = (are.0, rest.before); here = rest.here; all = ap (λ (l : List Entry). e ∷ l) rest.all }

-- none of the records of a journal is bad
records_not_bad : (bs : List (List ℕ)) (es : List Entry) (i : ℕ) → AreRecords bs es → IsBadRecord bs i → ⊥
records_not_bad bs es i are bad =
    let parts = cut bs es i are.spelled bad.inside in
    let same : bad.before ≡ parts.front = one_spelled (take i bs) bad.before parts.front bad.records.spelled parts.before in
    let none : nothing_at parts.front parts.entry.path = before_apart parts.front parts.entry parts.back (subst HasDistinctPaths parts.all are.trace.distinct) in
    let size : length es ≡ length (parts.front ++ parts.entry ∷ parts.back) = ap length parts.all in
    bad.bad parts.entry parts.here (subst (λ (l : List Entry). nothing_at l parts.entry.path) (sym same) none)
    (subst (λ (l : List Entry). length l < 65536) (sym same) (omega (arith, size, are.trace.few, length-append parts.front (parts.entry ∷ parts.back))))

bad_before : (bs : List (List ℕ)) (i j : ℕ) → i < j → j < length bs → IsBadRecord bs i → IsBadRecord (take j bs) i
bad_before bs i j lt inside bad =
    record {
      before = bad.before;
      records = subst (λ (l : List (List ℕ)). AreRecords l bad.before) (sym (take-take i j bs (omega (arith, lt)))) bad.records;
      inside = omega (arith, lt, inside, length-take j bs);
      bad = subst (λ (b : List ℕ). (e : Entry) → Spells b e → at bad.before e.path ≡ None → length bad.before < 65536 → ⊥) (sym (get_or-take j bs i [] lt)) bad.bad;
    }

-- one record at most is the first bad one
one_bad_record : (bs : List (List ℕ)) (i j : ℕ) → IsBadRecord bs i → IsBadRecord bs j → i ≡ j
one_bad_record bs i j a b = by_order (cases_order i j)
  where
    by_order : (i ≡ j) ⊎ ((i < j) ⊎ (j < i)) → i ≡ j
    by_order (inl same) = same
    by_order (inr (inl lt)) = absurd (records_not_bad (take j bs) b.before i b.records (bad_before bs i j lt b.inside a))
    by_order (inr (inr lt)) = absurd (records_not_bad (take i bs) a.before j a.records (bad_before bs j i lt a.inside b))

one_bad_at : (bs : List (List ℕ)) (i j : ℕ) → IsBadAt bs i → IsBadAt bs j → i ≡ j
one_bad_at [] i j a b = absurd a
one_bad_at (c ∷ bs) zero zero a b = refl
one_bad_at (c ∷ bs) zero (suc j) a b = absurd (a b.0.0 b.0.1)
one_bad_at (c ∷ bs) (suc i) zero a b = absurd (b a.0.0 a.0.1)
one_bad_at (c ∷ bs) (suc i) (suc j) a b = ap suc (one_bad_record bs i j a.1 b.1)

journal_not_bad_at : (bs : List (List ℕ)) (h : Head) (es : List Entry) (i : ℕ) → IsJournalOf bs h es → IsBadAt bs i → ⊥
journal_not_bad_at [] h es i is bad = is
journal_not_bad_at (b ∷ bs) h es zero is bad = bad h is.0
journal_not_bad_at (b ∷ bs) h es (suc i) is bad = records_not_bad bs es i is.1 bad.1

-- ---- of whole files

pub one_bad : (c : List ℕ) (i j : ℕ) → IsBadJournal c i → IsBadJournal c j → i ≡ j
one_bad c i j a b = one_bad_at b.0 i j (subst (λ (bs : List (List ℕ)). IsBadAt bs i) (one_log c a.0 b.0 a.1 b.1) a.2) b.2

pub journal_not_bad : (c : List ℕ) (h : Head) (es : List Entry) (i : ℕ) → IsJournal c h es → IsBadJournal c i → ⊥
journal_not_bad c h es i a b = journal_not_bad_at b.0 h es i (subst (λ (bs : List (List ℕ)). IsJournalOf bs h es) (one_log c a.0 b.0 a.1 b.1) a.2) b.2

pub unbegun_not_bad : (c : List ℕ) (i : ℕ) → IsUnbegun c → IsBadJournal c i → ⊥
unbegun_not_bad c i a b = subst (λ (bs : List (List ℕ)). IsBadAt bs i) (one_log c b.0 [] b.1 a) b.2

pub journal_not_unbegun : (c : List ℕ) (h : Head) (es : List Entry) → IsJournal c h es → IsUnbegun c → ⊥
journal_not_unbegun c h es a b = subst (λ (bs : List (List ℕ)). IsJournalOf bs h es) (one_log c a.0 [] a.1 b) a.2

-- two heads differ in one way
pub one_other : (kept wanted : Head) (e f : JournalStop) → IsOther kept wanted e → IsOther kept wanted f → e ≡ f
one_other kept wanted (OtherName n) (OtherName m) a b = ap OtherName (a.0 ∙ sym b.0)
one_other kept wanted (OtherName n) (OtherScript place) a b = absurd (a.1 b.0)
one_other kept wanted (OtherName n) (OtherFuel fuel) a b = absurd (a.1 b.0)
one_other kept wanted (OtherScript place) (OtherName m) a b = absurd (b.1 a.0)
one_other kept wanted (OtherScript place) (OtherScript other) a b = ap OtherScript (a.2 ∙ sym b.2)
one_other kept wanted (OtherScript place) (OtherFuel fuel) a b = absurd (a.1 b.1)
one_other kept wanted (OtherFuel fuel) (OtherName m) a b = absurd (b.1 a.0)
one_other kept wanted (OtherFuel fuel) (OtherScript place) a b = absurd (b.1 a.1)
one_other kept wanted (OtherFuel fuel) (OtherFuel other) a b = ap OtherFuel (a.2 ∙ sym b.2)
one_other kept wanted Fault f a b = absurd a
one_other kept wanted (Broken place) f a b = absurd a
one_other kept wanted (BadRecord i) f a b = absurd a
one_other kept wanted TraceFull f a b = absurd a
one_other kept wanted LogFull f a b = absurd a
one_other kept wanted Closed f a b = absurd a
one_other kept wanted Memory f a b = absurd a
one_other kept wanted (OtherName n) Fault a b = absurd b
one_other kept wanted (OtherName n) (Broken place) a b = absurd b
one_other kept wanted (OtherName n) (BadRecord i) a b = absurd b
one_other kept wanted (OtherName n) TraceFull a b = absurd b
one_other kept wanted (OtherName n) LogFull a b = absurd b
one_other kept wanted (OtherName n) Closed a b = absurd b
one_other kept wanted (OtherName n) Memory a b = absurd b
one_other kept wanted (OtherScript at_place) Fault a b = absurd b
one_other kept wanted (OtherScript at_place) (Broken place) a b = absurd b
one_other kept wanted (OtherScript at_place) (BadRecord i) a b = absurd b
one_other kept wanted (OtherScript at_place) TraceFull a b = absurd b
one_other kept wanted (OtherScript at_place) LogFull a b = absurd b
one_other kept wanted (OtherScript at_place) Closed a b = absurd b
one_other kept wanted (OtherScript at_place) Memory a b = absurd b
one_other kept wanted (OtherFuel fuel) Fault a b = absurd b
one_other kept wanted (OtherFuel fuel) (Broken place) a b = absurd b
one_other kept wanted (OtherFuel fuel) (BadRecord i) a b = absurd b
one_other kept wanted (OtherFuel fuel) TraceFull a b = absurd b
one_other kept wanted (OtherFuel fuel) LogFull a b = absurd b
one_other kept wanted (OtherFuel fuel) Closed a b = absurd b
one_other kept wanted (OtherFuel fuel) Memory a b = absurd b

pub same_not_other : (kept wanted : Head) (e : JournalStop) → kept ≡ wanted → IsOther kept wanted e → ⊥
same_not_other kept wanted (OtherName n) same a = a.1 (ap (λ (h : Head). h.name) same)
same_not_other kept wanted (OtherScript place) same a = a.1 (ap (λ (h : Head). h.script) same)
same_not_other kept wanted (OtherFuel fuel) same a = a.3 (ap (λ (h : Head). h.fuel) same)
same_not_other kept wanted Fault same a = a
same_not_other kept wanted (Broken place) same a = a
same_not_other kept wanted (BadRecord i) same a = a
same_not_other kept wanted TraceFull same a = a
same_not_other kept wanted LogFull same a = a
same_not_other kept wanted Closed same a = a
same_not_other kept wanted Memory same a = a
