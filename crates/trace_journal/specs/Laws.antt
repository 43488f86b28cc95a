-- A record more at the end of a journal, and that bytes are the journal of one head and one list of records at most.
use Rattle.std.proofs.Common.{◌≡◌, ◌≢◌, ℕ, suc, ◌<◌, Bool, true, false, cond, List, [], ◌∷◌, ◌++◌, length, Some, None, refl, sym, ap, subst, ◌∙◌, arith, length-append}
use Rattle.std.specs.Prelude.{nat_eq}
use Rattle.std.specs.Cmp.Lexicographic.{pointwise}
use Rattle.std.proofs.lemmas.Bool.Decides.{Decides-eqb}
use Rattle.std.proofs.lemmas.Slice.Eq.{slice_eq-Decides}
use Rattle.turk_base.specs.declared.Entry.{Entry}
use Rattle.turk_base.specs.Trace.{at}
use Rattle.trace_tree.specs.Traces.{HasDistinctPaths, IsTrace}
use Rattle.record_bytes.specs.declared.Head.{Head}
use Rattle.record_bytes.specs.Limits.{Spells}
use Rattle.record_bytes.specs.Unique.{one_entry, one_head}
use Rattle.gate_log.specs.Unique.{one_log}
use Rattle.trace_journal.specs.Journal.{AreSpelled, AreRecords, IsJournalOf, IsJournal}

same : (a b : List ℕ) → a ≡ b → pointwise nat_eq a b ≡ true
same a b is = (slice_eq-Decides Decides-eqb a b (pointwise nat_eq a b) refl).1 is

other : (a b : List ℕ) → a ≢ b → pointwise nat_eq a b ≡ false
other a b not = by_test (pointwise nat_eq a b) refl
  where
    by_test : (t : Bool) → pointwise nat_eq a b ≡ t → pointwise nat_eq a b ≡ false
    by_test false is = is
    by_test true is = absurd (not ((slice_eq-Decides Decides-eqb a b true (sym is)).0 refl))

abbrev pub nothing_at : List Entry → List ℕ → Type 0
nothing_at es p = at es p ≡ None

-- the first entry has the path, or hasn't
at_hit : (e : Entry) (es : List Entry) (p : List ℕ) → e.path ≡ p → at (e ∷ es) p ≡ Some e.what
at_hit e es p is = ap (λ b. cond b (Some e.what) (at es p)) (same e.path p is)

pub at_skip : (e : Entry) (es : List Entry) (p : List ℕ) → e.path ≢ p → at (e ∷ es) p ≡ at es p
at_skip e es p not = ap (λ b. cond b (Some e.what) (at es p)) (other e.path p not)

pub first_apart : (f : Entry) (es : List Entry) (p : List ℕ) → nothing_at (f ∷ es) p → f.path ≢ p
first_apart f es p none is =
    let found = at_hit f es p is in
    cc

at_push : (es : List Entry) (e : Entry) (p : List ℕ) → nothing_at es p → e.path ≢ p → nothing_at (es ++ e ∷ []) p
at_push [] e p none apart = at_skip e [] p apart
at_push (f ∷ es) e p none apart =
    let far = first_apart f es p none in
    at_skip f (es ++ e ∷ []) p far ∙ at_push es e p (sym (at_skip f es p far) ∙ none) apart

distinct_push : (es : List Entry) (e : Entry) → HasDistinctPaths es → nothing_at es e.path → HasDistinctPaths (es ++ e ∷ [])
distinct_push [] e distinct none = (refl, tt)
distinct_push (f ∷ es) e distinct none =
    let far = first_apart f es e.path none in
    (at_push es e f.path distinct.0 (λ is. far (sym is)), distinct_push es e distinct.1 (sym (at_skip f es e.path far) ∙ none))

trace_push : (es : List Entry) (e : Entry) → IsTrace es → nothing_at es e.path → length es < 65536 → IsTrace (es ++ e ∷ [])
trace_push es e valid none few = record { distinct = distinct_push es e valid.distinct none; few = omega (arith, length-append es (e ∷ [])) }

-- there are as many byte strings as records
pub length_spelled : (bs : List (List ℕ)) (es : List Entry) → AreSpelled bs es → length bs ≡ length es
length_spelled [] [] h = refl
length_spelled [] (e ∷ es) h = absurd h
length_spelled (b ∷ bs) [] h = absurd h
length_spelled (b ∷ bs) (e ∷ es) h = ap suc (length_spelled bs es h.1)

spelled_push : (bs : List (List ℕ)) (es : List Entry) (b : List ℕ) (e : Entry) → AreSpelled bs es → Spells b e → AreSpelled (bs ++ b ∷ []) (es ++ e ∷ [])
spelled_push [] [] b e h of_e = (of_e, tt)
spelled_push [] (f ∷ es) b e h of_e = absurd h
spelled_push (c ∷ bs) [] b e h of_e = absurd h
spelled_push (c ∷ bs) (f ∷ es) b e h of_e = (h.0, spelled_push bs es b e h.1 of_e)

pub records_push : (bs : List (List ℕ)) (es : List Entry) (b : List ℕ) (e : Entry) → AreRecords bs es → Spells b e → at es e.path ≡ None → length es < 65536 → AreRecords (bs ++ b ∷ []) (es ++ e ∷ [])
records_push bs es b e h of_e none few = record { spelled = spelled_push bs es b e h.spelled of_e; trace = trace_push es e h.trace none few }

pub no_records : AreRecords [] []
no_records = record { spelled = tt; trace = record { distinct = tt; few = omega arith } }

-- a journal with one record more
pub journal_push : (bs : List (List ℕ)) (h : Head) (es : List Entry) (b : List ℕ) (e : Entry) → IsJournalOf bs h es → Spells b e → at es e.path ≡ None → length es < 65536 → IsJournalOf (bs ++ b ∷ []) h (es ++ e ∷ [])
journal_push [] h es b e is of_e none few = absurd is
journal_push (c ∷ bs) h es b e is of_e none few = (is.0, records_push bs es b e is.1 of_e none few)

-- ---- one journal at most

pub one_spelled : (bs : List (List ℕ)) (es fs : List Entry) → AreSpelled bs es → AreSpelled bs fs → es ≡ fs
one_spelled [] [] [] a b = refl
one_spelled [] [] (f ∷ fs) a b = absurd b
one_spelled [] (e ∷ es) fs a b = absurd a
one_spelled (c ∷ bs) [] fs a b = absurd a
one_spelled (c ∷ bs) (e ∷ es) [] a b = absurd b
one_spelled (c ∷ bs) (e ∷ es) (f ∷ fs) a b = λ i. one_entry c e f a.0 b.0 i ∷ one_spelled bs es fs a.1 b.1 i

pub one_journal_of : (bs : List (List ℕ)) (g h : Head) (es fs : List Entry) → IsJournalOf bs g es → IsJournalOf bs h fs → (g ≡ h) × (es ≡ fs)
one_journal_of [] g h es fs a b = absurd a
one_journal_of (c ∷ bs) g h es fs a b = (one_head c g h a.0 b.0, one_spelled bs es fs a.1.spelled b.1.spelled)

pub one_journal : (c : List ℕ) (g h : Head) (es fs : List Entry) → IsJournal c g es → IsJournal c h fs → (g ≡ h) × (es ≡ fs)
one_journal c g h es fs a b =
    one_journal_of b.0 g h es fs (subst (λ (bs : List (List ℕ)). IsJournalOf bs g es) (one_log c a.0 b.0 a.1 b.1) a.2) b.2
