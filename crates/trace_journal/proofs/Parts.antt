-- The head and the records of a log, entry by entry.
use Rattle.std.proofs.Common.{◌≡◌, ℕ, ◌+◌, ◌-◌, ◌<◌, ◌≤◌, List, [], ◌∷◌, ◌++◌, length, get_or, take, drop, None, sym, ap, subst, ◌∙◌, arith, length-append}
use Rattle.std.proofs.lemmas.List.{take_more, get_or-drop, length-drop}
use Rattle.std.specs.Prelude.{IsSome, is_some}
use Rattle.std.proofs.lemmas.Bool.{false≢true}
use Rattle.record_bytes.specs.Unique.{one_entry}
use Rattle.turk_base.specs.declared.Entry.{Entry}
use Rattle.turk_base.specs.Trace.{at}
use Rattle.record_bytes.specs.Limits.{Spells}
use Rattle.trace_journal.specs.Journal.{AreRecords, IsBadNext}
use Rattle.trace_journal.specs.Laws.{records_push}

-- the records behind the head before the entry of this number
pub record Read (entries : List (List ℕ)) (i : ℕ) (es : List Entry) : Type 0 where
  pub past : 1 ≤ i
  pub records : AreRecords (take (i - 1) (drop 1 entries)) es
  pub count : length es + 1 ≡ i

entry_is : (entries : List (List ℕ)) (i : ℕ) → 1 ≤ i → get_or (drop 1 entries) (i - 1) [] ≡ get_or entries i []
entry_is entries i past = get_or-drop 1 entries (i - 1) [] ∙ ap (λ (k : ℕ). get_or entries k []) (omega arith)

inside : (entries : List (List ℕ)) (i : ℕ) → 1 ≤ i → i < length entries → i - 1 < length (drop 1 entries)
inside entries i past lt = omega (arith, length-drop 1 entries)

pub read_more : (entries : List (List ℕ)) (i : ℕ) (es new : List Entry) (b : List ℕ) (e : Entry) → Read entries i es → i < length entries → b ≡ get_or entries i [] → Spells b e → at es e.path ≡ None → length es < 65536 → new ≡ es ++ e ∷ [] → Read entries (i + 1) new
read_more entries i es new b e old lt b_is of_e fresh few new_is =
    let grown : take (i - 1) (drop 1 entries) ++ b ∷ [] ≡ take (i + 1 - 1) (drop 1 entries) =
    ap (λ (x : List ℕ). take (i - 1) (drop 1 entries) ++ x ∷ []) (b_is ∙ sym (entry_is entries i old.past))
    ∙ sym (take_more (drop 1 entries) (i - 1) [] (inside entries i old.past lt))
    ∙ ap (λ (k : ℕ). take k (drop 1 entries)) (omega (arith, old.past)) in
    let more = subst (λ (bs : List (List ℕ)). AreRecords bs (es ++ e ∷ [])) grown (records_push (take (i - 1) (drop 1 entries)) es b e old.records of_e fresh few) in
    subst (λ (l : List Entry). Read entries (i + 1) l) (sym new_is) (record { past = omega arith; records = more; count = omega (arith, old.count, length-append es (e ∷ [])) })

-- a record at a path that is taken can't follow
pub bad_repeated : (es : List Entry) (b : List ℕ) (entry : Entry) → Spells b entry → IsSome (at es entry.path) → IsBadNext es b
bad_repeated es b entry spelled some e of_e fresh few =
    let same : e ≡ entry = one_entry b e entry of_e spelled in
    let none : at es entry.path ≡ None = subst (λ (x : Entry). at es x.path ≡ None) same fresh in
    false≢true (sym (ap is_some none) ∙ some)
