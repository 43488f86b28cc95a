-- An entry that is added: the answers of log and trace, and what a stop leaves.
use Rattle.std.proofs.Common.{◌≡◌, ◌⊎◌, inl, inr, ℕ, ◌<◌, ◌≤◌, List, [], ◌∷◌, ◌++◌, length, None, sym, subst, arith}
use Rattle.disk_model.specs.Disk.{LeavesOnly}
use Rattle.gate_log.specs.Log as logged
use Rattle.turk_base.specs.declared.Entry.{Entry}
use Rattle.turk_base.specs.Trace.{at}
use Rattle.record_bytes.specs.declared.Head.{Head}
use Rattle.record_bytes.specs.Limits.{Spells}
use Rattle.trace_journal.specs.Journal.{IsJournalOf, WithOrWithout}
use Rattle.trace_journal.specs.Laws.{journal_push}

pub leaves_map : {D : Type 0} (moment : D → ℕ) (left_since : D → ℕ → List ℕ → Type 0) (old new : D) (P Q : List ℕ → Type 0) → ((c : List ℕ) → P c → Q c) → LeavesOnly moment left_since old new P → LeavesOnly moment left_since old new Q
leaves_map moment left_since old new P Q f l = record { later = l.later; before = λ t c le left. by_case c (l.before t c le left) }
  where
    by_case : {A : Type 0} (c : List ℕ) → A ⊎ P c → A ⊎ Q c
    by_case c (inl x) = inl x
    by_case c (inr y) = inr (f c y)

-- two calls, the one after the other
pub leaves_then : {D : Type 0} (moment : D → ℕ) (left_since : D → ℕ → List ℕ → Type 0) (old mid new : D) (P : List ℕ → Type 0) → LeavesOnly moment left_since old mid P → LeavesOnly moment left_since mid new P → LeavesOnly moment left_since old new P
leaves_then moment left_since old mid new P first second =
    record { later = omega (arith, first.later, second.later); before = λ t c le left. by_case t c le (second.before t c (omega (arith, le, first.later)) left) }
  where
    by_case : (t : ℕ) (c : List ℕ) → t ≤ moment old → left_since mid t c ⊎ P c → left_since old t c ⊎ P c
    by_case t c le (inl x) = first.before t c le x
    by_case t c le (inr y) = inr y

-- a log with the entry or without is a journal with the record or without
pub with_or_without : (bs : List (List ℕ)) (h : Head) (es : List Entry) (b : List ℕ) (e : Entry) → IsJournalOf bs h es → Spells b e → at es e.path ≡ None → length es < 65536 → (c : List ℕ) → logged.WithOrWithout bs b c → WithOrWithout h es e c
with_or_without bs h es b e is of_e fresh few c (inl gated) = inl (bs, inr gated, is)
with_or_without bs h es b e is of_e fresh few c (inr gated) = inr (bs ++ b ∷ [], inr gated, journal_push bs h es b e is of_e fresh few)

-- the journal after an append that answered Ok, and after one that didn't
pub keeps_ok : (bs new : List (List ℕ)) (h : Head) (es more : List Entry) (b : List ℕ) (e : Entry) → IsJournalOf bs h es → Spells b e → at es e.path ≡ None → length es < 65536 → new ≡ bs ++ b ∷ [] → more ≡ es ++ e ∷ [] → IsJournalOf new h more
keeps_ok bs new h es more b e is of_e fresh few new_is more_is =
    subst (λ (l : List Entry). IsJournalOf new h l) (sym more_is) (subst (λ (l : List (List ℕ)). IsJournalOf l h (es ++ e ∷ [])) (sym new_is) (journal_push bs h es b e is of_e fresh few))
