-- What the tests' recorder does, by what its list did.
use Rattle.std.proofs.Common.{◌≡◌, ℕ, ◌+◌, ◌≤◌, Bool, true, false, cond, List, [], ◌∷◌, ◌++◌, length, take, drop, Option, Some, None, refl, sym, ap, subst, ◌∙◌, arith, length-append, append-nil, take-append-drop}
use Rattle.std.specs.Prelude.{is_some}
use Rattle.std.specs.Borrow.{MutBor}
use Rattle.turk_base.specs.declared.Entry.{Entry}
use Rattle.turk_base.specs.Trace.{at, answer, same_list}
use Rattle.record_bytes.specs.Limits.{IsWithin}
use Rattle.ask_model.specs.declared.AskStop.{AskStop}
use Rattle.ask_model.specs.declared.AskStop.TheVariants.{Fault, Diverged, TraceFull, LogFull, Memory}
use Rattle.ask_model.specs.declared.Which.TheVariants.{Disk, Board}
use Rattle.ask_model.specs.declared.Refused.{Refused}
use Rattle.ask_model.specs.declared.Refused.TheVariants.{Never, Last, Earlier}
use Rattle.ask_model.specs.Asker.{Pairs, IsTrace, NoBoard, Posts, made_after, refused_after}
use Rattle.ask_model.specs.Draws.{draws_in, HaveWords}
use Rattle.ask_model.specs.Recorder.{Shelf, recorded, IsInOrder, Shelved, Placed, ComesLate, Holds}
use Rattle.ask_model.proofs.Tables.{trace_push, same}

-- a missing token's pair at the end
pub answer_push : (pairs : Pairs) (token text : List ℕ) → answer pairs token ≡ None → answer (pairs ++ (token, text) ∷ []) token ≡ Some text
answer_push [] token text none = ap (λ b. cond b (Some text) None) (same token token refl)
answer_push (r ∷ rs) token text none = by_test (same_list r.0 token) none (answer_push rs token text)
  where
    by_test : (b : Bool) → cond b (Some r.1) (answer rs token) ≡ None → (answer rs token ≡ None → answer (rs ++ (token, text) ∷ []) token ≡ Some text) → cond b (Some r.1) (answer (rs ++ (token, text) ∷ []) token) ≡ Some text
    by_test true none go = absurd (cc)
    by_test false none go = go none

-- the entries after a call
pub entries_after : (e : Entry) (old new : Shelf) (stop : Option AskStop) → Shelved e old new stop → new.entries ≡ made_after stop old.entries e
entries_after e old new None did = ap (λ (s : Shelf). s.entries) did.0
entries_after e old new (Some (Fault Disk)) did = ap (λ (s : Shelf). s.entries) did.0
entries_after e old new (Some (Fault Board)) did = ap (λ (s : Shelf). s.entries) did.0
entries_after e old new (Some (Diverged d)) did = ap (λ (s : Shelf). s.entries) did.0
entries_after e old new (Some TraceFull) did = ap (λ (s : Shelf). s.entries) did.0
entries_after e old new (Some LogFull) did = ap (λ (s : Shelf). s.entries) did.0
entries_after e old new (Some Memory) did = ap (λ (s : Shelf). s.entries) did

few_before : (e : Entry) (old new : Shelf) → Shelved e old new None → length old.entries + 1 ≤ 65536
few_before e old new did = let few = did.1.few in omega arith

-- what it knows stays within the limits
pub order_by : (old new : Shelf) (start : ℕ) (e : Entry) (stop : Option AskStop) (tasks later : Pairs) (faults more : ℕ) (replies : Pairs) (asked : Option (List ℕ)) (refused then : Refused)
    → IsInOrder old start (recorded old start tasks faults replies asked refused) → IsWithin e → at (take start old.entries ++ drop start old.entries) e.path ≡ None → Shelved e old new stop
    → IsInOrder new start (recorded new start later more replies asked then)
order_by old new start e None tasks later faults more replies asked refused then sound one none did =
    let is = entries_after e old new None did in
    let whole = take-append-drop start old.entries in
    let few = few_before e old new did in
    let valid : IsTrace (old.entries ++ e ∷ []) = trace_push old.entries e (subst IsTrace whole sound.within.trace) (subst (λ (l : List Entry). at l e.path ≡ None) whole none) (omega arith) one in
    let starts = sound.starts in
    record {
      starts = omega (arith, ap length is, length-append old.entries (e ∷ []));
      within = record { trace = subst IsTrace (sym is ∙ sym (take-append-drop start new.entries)) valid; replies = sound.within.replies };
    }
order_by old new start e (Some stop) tasks later faults more replies asked refused then sound one none did =
    let is = entries_after e old new (Some stop) did in
    let starts = sound.starts in
    record {
      starts = omega (arith, ap length is);
      within = record { trace = subst (λ (l : List Entry). IsTrace (take start l ++ drop start l)) (sym is) sound.within.trace; replies = sound.within.replies };
    }

module _ {S D W : Type 0} (rest : W → ℕ → ℕ) (sa sb : MutBor S) (da db : MutBor D) (wa wb : MutBor W) (l m : List Entry) (e : Entry) where
  holds_at : (before : Refused) (stop : Option AskStop) → sb.ghost_name ≡ sa.ghost_name → db.ghost_name ≡ da.ghost_name → wb.ghost_name ≡ wa.ghost_name → m ≡ made_after stop l e
      → (stop ≡ None → HaveWords (rest wa.now) 0 (e ∷ [])) → (stop ≡ None → (k : ℕ) → rest wb.now k ≡ rest wa.now (draws_in (e ∷ []) + k)) → Holds rest sa sb da db wa wb l m before (refused_after (is_some stop) before)
  holds_at Never None s d w gained words moved = record { shelf = s; desk = d; draws = w; follows = tt; more = e ∷ []; gained = gained; words = λ free. (λ is. words refl, λ is. absurd (cc)); moved = λ is k. moved refl k }
  holds_at Last None s d w gained words moved = record { shelf = s; desk = d; draws = w; follows = tt; more = e ∷ []; gained = gained; words = λ free. absurd (free refl); moved = λ is k. absurd (cc) }
  holds_at Earlier None s d w gained words moved = record { shelf = s; desk = d; draws = w; follows = tt; more = e ∷ []; gained = gained; words = λ free. absurd (free refl); moved = λ is k. absurd (cc) }
  holds_at Never (Some stop) s d w gained words moved = record { shelf = s; desk = d; draws = w; follows = tt; more = []; gained = gained ∙ sym (append-nil l); words = λ free. (λ is. tt, λ is. refl); moved = λ is k. absurd (cc) }
  holds_at Last (Some stop) s d w gained words moved = record { shelf = s; desk = d; draws = w; follows = tt; more = []; gained = gained ∙ sym (append-nil l); words = λ free. (λ is. tt, λ is. refl); moved = λ is k. absurd (cc) }
  holds_at Earlier (Some stop) s d w gained words moved = record { shelf = s; desk = d; draws = w; follows = tt; more = []; gained = gained ∙ sym (append-nil l); words = λ free. (λ is. tt, λ is. refl); moved = λ is k. absurd (cc) }

  pub holds_by : (before after : Refused) (stop : Option AskStop) → after ≡ refused_after (is_some stop) before → sb.ghost_name ≡ sa.ghost_name → db.ghost_name ≡ da.ghost_name → wb.ghost_name ≡ wa.ghost_name → m ≡ made_after stop l e
      → (stop ≡ None → HaveWords (rest wa.now) 0 (e ∷ [])) → (stop ≡ None → (k : ℕ) → rest wb.now k ≡ rest wa.now (draws_in (e ∷ []) + k)) → Holds rest sa sb da db wa wb l m before after
  holds_by before after stop later s d w gained words moved = subst (λ (r : Refused). Holds rest sa sb da db wa wb l m before r) (sym later) (holds_at before stop s d w gained words moved)

-- The tasks after a post: the board took it, and then the list kept the record or failed.
pub tasks_by : (token text : List ℕ) (old new : Pairs) (before after : ℕ) (stop : Option AskStop) → Placed token text old new before after None → NoBoard stop → ComesLate stop → Posts token text old new stop
tasks_by token text old new before after None placed alone late = record { only = placed.2; task = placed.0 }
tasks_by token text old new before after (Some (Fault Disk)) placed alone late = record { only = placed.2; task = placed.0 }
tasks_by token text old new before after (Some (Fault Board)) placed alone late = absurd alone
tasks_by token text old new before after (Some (Diverged d)) placed alone late = absurd alone
tasks_by token text old new before after (Some TraceFull) placed alone late = absurd late
tasks_by token text old new before after (Some LogFull) placed alone late = absurd late
tasks_by token text old new before after (Some Memory) placed alone late = absurd late
