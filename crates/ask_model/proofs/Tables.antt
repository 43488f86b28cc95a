-- One entry more at the end of a table.
use Rattle.std.proofs.Common.{◌≡◌, ◌≢◌, ℕ, ℤ, pos, negsuc, ◌<◌, ◌≤ℤ◌, Bool, true, false, cond, List, [], ◌∷◌, ◌++◌, length, Option, Some, None, Result, Ok, Err, refl, sym, ap, subst, ◌∙◌, arith, length-append, append_assoc, append-nil}
use Rattle.std.specs.Prelude.{nat_eq, is_some, IfOk, IfErr, is_err}
use Rattle.std.specs.Borrow.{MutBor}
use Rattle.std.specs.List.{AllByRecursion}
use Rattle.std.specs.Cmp.Lexicographic.{pointwise}
use Rattle.std.proofs.lemmas.Bool.Decides.{Decides-eqb}
use Rattle.std.proofs.lemmas.Slice.Eq.{slice_eq-Decides}
use Rattle.turk_base.specs.declared.Entry.{Entry}
use Rattle.turk_base.specs.declared.Record.TheVariants.{Draw}
use Rattle.turk_base.specs.Trace.{at, answer, same_list}
use Rattle.turk_base.specs.Whole.{IsWhole}
use Rattle.record_bytes.specs.Limits.{IsTextWithin, IsWithin, IsDraw}
use Rattle.std.proofs.lemmas.Int.{ints}
use Rattle.ask_model.specs.declared.AskStop.{AskStop}
use Rattle.ask_model.specs.declared.AskStop.TheVariants.{Fault, Diverged, TraceFull, LogFull, Memory}
use Rattle.ask_model.specs.declared.Refused.{Refused}
use Rattle.ask_model.specs.Asker.{Pairs, entry, HasDistinctPaths, IsTrace, AreReplies, KnowsWithin, stop_of, refused_after, Adds, NoBoard}
use Rattle.ask_model.specs.Table.{table, Added, Drew, Keeps, IsFullOrLost}

pub same : (a b : List ℕ) → a ≡ b → pointwise nat_eq a b ≡ true
same a b is = (slice_eq-Decides Decides-eqb a b (pointwise nat_eq a b) refl).1 is

other : (a b : List ℕ) → a ≢ b → pointwise nat_eq a b ≡ false
other a b apart = by_test (pointwise nat_eq a b) refl
  where
    by_test : (t : Bool) → pointwise nat_eq a b ≡ t → pointwise nat_eq a b ≡ false
    by_test false is = is
    by_test true is = absurd (apart ((slice_eq-Decides Decides-eqb a b true (sym is)).0 refl))

-- the first entry has the path, or hasn't
at_hit : (e : Entry) (es : List Entry) (p : List ℕ) → e.path ≡ p → at (e ∷ es) p ≡ Some e.what
at_hit e es p is = ap (λ b. cond b (Some e.what) (at es p)) (same e.path p is)

at_skip : (e : Entry) (es : List Entry) (p : List ℕ) → e.path ≢ p → at (e ∷ es) p ≡ at es p
at_skip e es p apart = ap (λ b. cond b (Some e.what) (at es p)) (other e.path p apart)

abbrev nothing_at : List Entry → List ℕ → Type 0
nothing_at es p = at es p ≡ None

first_apart : (f : Entry) (es : List Entry) (p : List ℕ) → nothing_at (f ∷ es) p → f.path ≢ p
first_apart f es p none is =
    let found = at_hit f es p is in
    cc

pub at_push : (es : List Entry) (e : Entry) (p : List ℕ) → nothing_at es p → e.path ≢ p → nothing_at (es ++ e ∷ []) p
at_push [] e p none apart = at_skip e [] p apart
at_push (f ∷ es) e p none apart =
    let far = first_apart f es p none in
    at_skip f (es ++ e ∷ []) p far ∙ at_push es e p (sym (at_skip f es p far) ∙ none) apart

distinct_push : (es : List Entry) (e : Entry) → HasDistinctPaths es → nothing_at es e.path → HasDistinctPaths (es ++ e ∷ [])
distinct_push [] e distinct none = (refl, tt)
distinct_push (f ∷ es) e distinct none =
    let far = first_apart f es e.path none in
    (at_push es e f.path distinct.0 (λ is. far (sym is)), distinct_push es e distinct.1 (sym (at_skip f es e.path far) ∙ none))

within_push : (es : List Entry) (e : Entry) → AllByRecursion IsWithin es → IsWithin e → AllByRecursion IsWithin (es ++ e ∷ [])
within_push [] e all one = (one, tt)
within_push (f ∷ es) e all one = (all.0, within_push es e all.1 one)

-- an entry within the limits at a new path
pub trace_push : (es : List Entry) (e : Entry) → IsTrace es → nothing_at es e.path → length es < 65536 → IsWithin e → IsTrace (es ++ e ∷ [])
trace_push es e valid none few one = record {
  distinct = distinct_push es e valid.distinct none;
  few = omega (arith, length-append es (e ∷ []));
  within = within_push es e valid.within one;
}

-- what a table knows stays within the limits
pub sound_by : (traced : ℕ) (trace made new : List Entry) (replies : Pairs) (asked : Option (List ℕ)) (refused later : Refused) (e : Entry) (stop : Option AskStop) → traced ≡ length trace → KnowsWithin (table trace replies made asked refused) → IsWithin e → nothing_at (trace ++ made) e.path
    → Added traced e made new stop → KnowsWithin (table trace replies new asked later)
sound_by traced trace made new replies asked refused later e None count sound one none added =
    let few : length (trace ++ made) < 65536 = omega (arith, length-append trace made, added.1, count) in
    record {
      trace = subst IsTrace (append_assoc trace made (e ∷ []) ∙ ap (λ (l : List Entry). trace ++ l) (sym added.0)) (trace_push (trace ++ made) e sound.trace none few one);
      replies = sound.replies;
    }
sound_by traced trace made new replies asked refused later e (Some TraceFull) count sound one none added = record { trace = subst (λ (l : List Entry). IsTrace (trace ++ l)) (sym added.0) sound.trace; replies = sound.replies }
sound_by traced trace made new replies asked refused later e (Some Memory) count sound one none added = record { trace = subst (λ (l : List Entry). IsTrace (trace ++ l)) (sym added) sound.trace; replies = sound.replies }
sound_by traced trace made new replies asked refused later e (Some (Fault which)) count sound one none added = absurd added
sound_by traced trace made new replies asked refused later e (Some (Diverged d)) count sound one none added = absurd added
sound_by traced trace made new replies asked refused later e (Some LogFull) count sound one none added = absurd added

-- a table's answers have to do with no board
pub no_board_by : (traced : ℕ) (e : Entry) (made new : List Entry) (stop : Option AskStop) → Added traced e made new stop → NoBoard stop
no_board_by traced e made new None added = tt
no_board_by traced e made new (Some TraceFull) added = tt
no_board_by traced e made new (Some Memory) added = tt
no_board_by traced e made new (Some (Fault which)) added = absurd added
no_board_by traced e made new (Some (Diverged d)) added = absurd added
no_board_by traced e made new (Some LogFull) added = absurd added

-- each refusal is for want of room, or of memory
full_or_lost : (traced : ℕ) (e : Entry) (made new : List Entry) (why : AskStop) → Added traced e made new (Some why) → IsFullOrLost why
full_or_lost traced e made new TraceFull added = tt
full_or_lost traced e made new Memory added = tt
full_or_lost traced e made new (Fault which) added = absurd added
full_or_lost traced e made new (Diverged d) added = absurd added
full_or_lost traced e made new LogFull added = absurd added

pub refusal_by : {T : Type 0} (traced : ℕ) (e : Entry) (made new : List Entry) (result : Result T AskStop) → Added traced e made new (stop_of result) → IfErr result (λ why. IsFullOrLost why)
refusal_by traced e made new (Ok x) added = tt
refusal_by traced e made new (Err why) added = full_or_lost traced e made new why added

pub adds_by : (traced : ℕ) (trace made new : List Entry) (replies : Pairs) (asked : Option (List ℕ)) (refused : Refused) (e : Entry) (stop : Option AskStop) → traced ≡ length trace → Added traced e made new stop
    → Adds (λ _. true) (λ _. true) e (table trace replies made asked refused) (table trace replies new asked (refused_after (is_some stop) refused)) stop
adds_by traced trace made new replies asked refused e None count added = record {
  stays = record { trace = refl; replies = refl; asked = refl; refused = refl; closed = refl; disk_later = omega arith; board_later = omega arith; cause = tt };
  made = added.0;
  answers = record { few = omega (arith, length-append trace made, added.1, count); fitting = refl };
}
adds_by traced trace made new replies asked refused e (Some TraceFull) count added = record {
  stays = record { trace = refl; replies = refl; asked = refl; refused = refl; closed = refl; disk_later = omega arith; board_later = omega arith; cause = tt };
  made = added.0;
  answers = omega (arith, length-append trace made, added.1, count);
}
adds_by traced trace made new replies asked refused e (Some Memory) count added = record {
  stays = record { trace = refl; replies = refl; asked = refl; refused = refl; closed = refl; disk_later = omega arith; board_later = omega arith; cause = tt };
  made = added;
  answers = tt;
}
adds_by traced trace made new replies asked refused e (Some (Fault which)) count added = absurd added
adds_by traced trace made new replies asked refused e (Some (Diverged d)) count added = absurd added
adds_by traced trace made new replies asked refused e (Some LogFull) count added = absurd added

-- which calls were refused, by what the code tests
pub refused_is : {T : Type 0} (result : Result T AskStop) (test : Bool) (later before : Refused) → test ≡ is_err result → later ≡ refused_after test before → (P : Refused → Type 0) → P (refused_after (is_some (stop_of result)) before) → P later
refused_is (Ok x) test later before is after P h = subst P (sym (after ∙ ap (λ b. refused_after b before) is)) h
refused_is (Err stop) test later before is after P h = subst P (sym (after ∙ ap (λ b. refused_after b before) is)) h

pub later_is : {T : Type 0} (result : Result T AskStop) (test : Bool) (later before : Refused) → test ≡ is_err result → later ≡ refused_after test before → later ≡ refused_after (is_some (stop_of result)) before
later_is (Ok x) test later before is after = after ∙ ap (λ b. refused_after b before) is
later_is (Err stop) test later before is after = after ∙ ap (λ b. refused_after b before) is

-- ---- a draw

-- the draw that was made, or any
abbrev pub value_in : Result ℤ AskStop → ℤ
value_in (Ok v) = v
value_in (Err stop) = pos 0

module _ {W : Type 0} (rest : W → ℕ → ℕ) (traced : ℕ) (made new : List Entry) (path : List ℕ) (bound : ℤ) where
  pub drew_added : (old_draws new_draws : W) (result : Result ℤ AskStop) → Drew rest traced path bound old_draws new_draws made new result → Added traced (entry path (Draw bound (value_in result))) made new (stop_of result)
  drew_added old_draws new_draws (Ok v) drew = drew.added
  drew_added old_draws new_draws (Err stop) drew = drew.refused (entry path (Draw bound (pos 0)))

  pub drew_small : (old_draws new_draws : W) (result : Result ℤ AskStop) → IsDraw bound (pos 0) → Drew rest traced path bound old_draws new_draws made new result → IsDraw bound (value_in result)
  drew_small old_draws new_draws (Ok v) none drew = drew.small
  drew_small old_draws new_draws (Err stop) none drew = none

  pub drew_keeps : (b n : MutBor W) (result : Result ℤ AskStop) → n.ghost_name ≡ b.ghost_name → Drew rest traced path bound b.now n.now made new result → Keeps rest b n made new
  drew_keeps b n (Ok v) name drew = record {
    draws = name;
    more = entry path (Draw bound v) ∷ [];
    gained = drew.added.0;
    words = (drew.value, tt);
    moved = λ k. drew.moves k;
  }
  drew_keeps b n (Err stop) name drew = record {
    draws = name;
    more = [];
    gained = unmade stop (drew.refused (entry path (Draw bound (pos 0)))) ∙ sym (append-nil made);
    words = tt;
    moved = λ k. ap (λ d. rest d k) drew.stays ∙ ap (rest b.now) (omega arith);
  }
    where
      unmade : (stop : AskStop) → Added traced (entry path (Draw bound (pos 0))) made new (Some stop) → new ≡ made
      unmade TraceFull added = added.0
      unmade Memory added = added
      unmade (Fault which) added = absurd added
      unmade (Diverged d) added = absurd added
      unmade LogFull added = absurd added

pub drew_is : (result : Result ℤ AskStop) → IfOk result (λ r. r ≡ value_in result)
drew_is (Ok v) = refl
drew_is (Err stop) = tt

-- 0 is below each bound
pub least_draw : (bound : ℤ) → pos 1 ≤ℤ bound → IsWhole bound → IsDraw bound (pos 0)
least_draw (pos b) low whole =
    let high = whole.high in
    (omega (arith, ints), omega (arith, ints))
least_draw (negsuc b) low whole = absurd (omega (arith, ints))

-- ---- a reply

pub answer_within : (replies : Pairs) (token text : List ℕ) → AreReplies replies → answer replies token ≡ Some text → IsTextWithin text
answer_within [] token text all found = absurd (cc)
answer_within (r ∷ rs) token text all found = by_test (same_list r.0 token) (answer_within rs token text all.1) found
  where
    by_test : (b : Bool) → (answer rs token ≡ Some text → IsTextWithin text) → cond b (Some r.1) (answer rs token) ≡ Some text → IsTextWithin text
    by_test true go found =
        let is : r.1 ≡ text = cc in
        subst (λ (t : List ℕ). IsTextWithin t) is all.0.1
    by_test false go found = go found
