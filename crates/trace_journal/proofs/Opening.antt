-- The answers of an opening, from those of its parts.
use Rattle.std.proofs.Common.{◌≡◌, ◌⊎◌, inl, inr, ℕ, ◌+◌, ◌<◌, ◌≤◌, ◌^◌, Bool, false, List, [], ◌∷◌, ◌++◌, length, drop, Option, Some, None, Result, Ok, Err, refl, sym, ap, subst, ◌∙◌, arith, length-append}
use Rattle.std.specs.Prelude.{nat_eq, IfOk, IfSome}
use Rattle.std.specs.List.{common_prefix_len}
use Rattle.std.specs.Int.{w64, to_be_bytes}
use Rattle.std.proofs.lemmas.Bool.{false≢true}
use Rattle.std.proofs.lemmas.List.{length-drop}
use Rattle.std.proofs.lemmas.List.Sums.{common_prefix_len-le}
use Rattle.gate_log.specs.Log as logged
use Rattle.gate_log.specs.Log.{IsLog}
use Rattle.gate_log.specs.GateLog as log
use Rattle.gate_log.specs.Some.{some_bytes}
use Rattle.gate_log.specs.declared.LogStop.{LogStop}
use Rattle.gate_log.specs.declared.LogStop.TheVariants as stopped
use Rattle.gate_log.specs.declared.log.GateLog.{GateLog}
use Rattle.turk_base.specs.declared.Entry.{Entry}
use Rattle.trace_tree.specs.Traces.{Kept}
use Rattle.record_bytes.specs.declared.Head.{Head}
use Rattle.record_bytes.specs.Spelling.{named_bytes, head_bytes}
use Rattle.record_bytes.specs.Limits.{SpellsHead}
use Rattle.trace_journal.specs.Journal.{IsJournalOf, IsJournal, IsUnbegun}
use Rattle.trace_journal.specs.Laws.{no_records}
use Rattle.trace_journal.specs.TraceJournal.{stop_of, AreBegun}
use Rattle.trace_journal.specs.declared.JournalStop.{JournalStop}
use Rattle.trace_journal.specs.declared.JournalStop.TheVariants.{Fault, Memory}

-- ---- a journal that is begun

length_head : (bytes : List ℕ) (h : Head) → SpellsHead bytes h → length bytes ≤ 1048619
unfolding head_bytes named_bytes
length_head bytes h s = omega (arith, ap length s.bytes_are, s.within.script, s.name.short, length-append h.name (to_be_bytes w64 h.fuel ++ h.script), length-append (to_be_bytes w64 h.fuel) h.script)

pub begun_kinds : (entries : List (List ℕ)) (closed : Bool) (bytes : List ℕ) (h : Head) (e : LogStop) → entries ≡ [] → closed ≡ false → SpellsHead bytes h → log.IsCauseOf closed (log.FitsIn entries (length bytes)) e → (stop_of e ≡ Fault) ⊎ (stop_of e ≡ Memory)
begun_kinds entries closed bytes h stopped.Fault none unclosed s cause = inl refl
begun_kinds entries closed bytes h (stopped.Broken place) none unclosed s cause = absurd cause
begun_kinds entries closed bytes h stopped.Full none unclosed s cause = absurd (cause.1 (subst (λ (es : List (List ℕ)). log.FitsIn es (length bytes)) (sym none) (omega (arith, length_head bytes h s))))
begun_kinds entries closed bytes h stopped.Closed none unclosed s cause = absurd (false≢true (sym unclosed ∙ cause))
begun_kinds entries closed bytes h stopped.Memory none unclosed s cause = inr refl

pub begun_moment : (entries : List (List ℕ)) (bytes : List ℕ) (h : Head) → entries ≡ [] → SpellsHead bytes h → (c : List ℕ) → logged.WithOrWithout entries bytes c → IsUnbegun c ⊎ IsJournal c h []
begun_moment entries bytes h none s c (inl gated) = inl (inr (subst (λ (es : List (List ℕ)). logged.IsGated c es) none gated))
begun_moment entries bytes h none s c (inr gated) = inr (bytes ∷ [], inr (subst (λ (es : List (List ℕ)). logged.IsGated c (es ++ bytes ∷ [])) none gated), (s, no_records))

-- ---- what is found in a log

pub found_some : (l : GateLog) (h : Head) (es : List Entry) → IsJournalOf (log.entries_of l) h es → (c : List ℕ) × (length c ≤ 67108864) × IsJournal c h es
found_some l h es of = let some = some_bytes l in (some.0, some.1, (log.entries_of l, inr some.2, of))

pub looked_some : (l : GateLog) (r : Result (Option (Head × Kept)) JournalStop) → IfOk r (λ found. IfSome found (λ p. IsJournalOf (log.entries_of l) p.0 p.1.entries)) → IfOk r (λ found. IfSome found (λ p. (c : List ℕ) × (length c ≤ 67108864) × IsJournal c p.0 p.1.entries))
looked_some l (Err e) h = h
looked_some l (Ok None) h = h
looked_some l (Ok (Some p)) h = found_some l p.0 p.1.entries h

-- a file of at most one byte isn't begun
pub blank_begun : (old : List ℕ) (h : Head) (new : List ℕ) → log.AreBlank old new → AreBegun old h new
blank_begun old h new blank = (inl (blank.0, refl), inl (inl (blank.1, refl)))

pub found_none : (bytes : List ℕ) (entries : List (List ℕ)) → IsLog bytes entries → entries ≡ [] → IsUnbegun bytes
found_none bytes entries is none = subst (λ (es : List (List ℕ)). IsLog bytes es) none is

-- ---- the first difference

abbrev pub SameUntil : List ℕ → List ℕ → ℕ → Type 0
SameUntil a b i = common_prefix_len nat_eq a b ≡ i + common_prefix_len nat_eq (drop i a) (drop i b)

pub ends : (a b : List ℕ) (i : ℕ) → (length a ≤ i) ⊎ (length b ≤ i) → SameUntil a b i → i ≡ common_prefix_len nat_eq a b
ends a b i past so_far = omega (arith, so_far, common_prefix_len-le nat_eq (drop i a) (drop i b), length-drop i a, length-drop i b, past)

pub place_small : (a b : List ℕ) (place : ℕ) → place ≡ common_prefix_len nat_eq a b → length a ≤ 1048576 → place < 2 ^ 32
place_small a b place is short = omega (arith, is, common_prefix_len-le nat_eq a b, short)
