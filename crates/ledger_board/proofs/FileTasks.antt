-- The tasks of a file are those of its entries, and their tokens are distinct.
use Rattle.std.proofs.Common.{◌≡◌, ◌⊎◌, inl, inr, ℕ, ◌+◌, ◌<◌, ◌≤◌, Bool, true, false, ◌&&◌, List, [], ◌∷◌, ◌++◌, length, take, get_or, Option, Some, None, refl, sym, ap, subst, ◌∙◌, arith}
use Rattle.std.specs.Prelude.{nat_le, not, is_some, IsSome, if◌then◌else◌}
use Rattle.std.proofs.lemmas.Bool.{false≢true, leb-true, leb-false}
use Rattle.std.proofs.lemmas.List.{take_more}
use Rattle.turk_base.specs.Trace.{answer}
use Rattle.board_model.specs.Tokens.{Tasks, HasDistinctTokens}
use Rattle.gate_log.specs.Log.{IsLog}
use Rattle.record_bytes.specs.Limits.{SpellsTask}
use Rattle.record_bytes.specs.Unique.{task_whole}
use Rattle.ledger_board.specs.Bytes.{entries_in}
use Rattle.ledger_board.specs.Tasks.{AreTasks, IsLedger, with_task, tasks_of, has_distinct, ledger_tasks}
use Rattle.ledger_board.proofs.FileEntries.{entries_are}

pub tasks_are : (es : List (List ℕ)) (ts : Tasks) → AreTasks es ts → tasks_of es ≡ ts
unfolding tasks_of
tasks_are [] [] are = refl
tasks_are [] (t ∷ ts) are = absurd are
tasks_are (e ∷ es) [] are = absurd are
tasks_are (e ∷ es) (t ∷ ts) are = ap (λ (o : Option (List ℕ × List ℕ)). with_task o (tasks_of es)) (task_whole e t.0 t.1 are.0) ∙ ap (λ (l : Tasks). t ∷ l) (tasks_are es ts are.1)

distinct_true : (ts : Tasks) → HasDistinctTokens ts → has_distinct ts ≡ true
distinct_true [] distinct = refl
distinct_true (t ∷ ts) distinct = ap (λ (b : Bool). not b && has_distinct ts) (ap is_some distinct.0) ∙ distinct_true ts distinct.1

none_of : (o : Option (List ℕ)) → not (is_some o) ≡ true → o ≡ None
none_of None is = refl
none_of (Some x) is = absurd (false≢true is)

both : (a b : Bool) → (a && b) ≡ true → (a ≡ true) × (b ≡ true)
both true b is = (refl, is)
both false b is = absurd (false≢true is)

true_distinct : (ts : Tasks) → has_distinct ts ≡ true → HasDistinctTokens ts
true_distinct [] is = tt
true_distinct (t ∷ ts) is =
    let two = both (not (is_some (answer ts t.0))) (has_distinct ts) is in
    (none_of (answer ts t.0) two.0, true_distinct ts two.1)

if_distinct : (ts : Tasks) → HasDistinctTokens (if has_distinct ts then ts else [])
if_distinct ts = by_test (has_distinct ts) refl
  where
    by_test : (b : Bool) → has_distinct ts ≡ b → HasDistinctTokens (if has_distinct ts then ts else [])
    by_test true is = subst (λ (b : Bool). HasDistinctTokens (if b then ts else [])) (sym is) (true_distinct ts is)
    by_test false is = subst (λ (b : Bool). HasDistinctTokens (if b then ts else [])) (sym is) tt

pub ledger_distinct : (bytes : List ℕ) → HasDistinctTokens (ledger_tasks bytes)
unfolding ledger_tasks
ledger_distinct bytes = if_distinct (tasks_of (entries_in bytes))

pub ledger_is : (bytes : List ℕ) (es : List (List ℕ)) (ts : Tasks) → IsLog bytes es → AreTasks es ts → HasDistinctTokens ts → ledger_tasks bytes ≡ ts
unfolding ledger_tasks
ledger_is bytes es ts log are distinct =
    let all : tasks_of (entries_in bytes) ≡ ts = ap (λ (l : List (List ℕ)). tasks_of l) (entries_are bytes es log) ∙ tasks_are es ts are in
    ap (λ (l : Tasks). if has_distinct l then l else []) all ∙ ap (λ (b : Bool). if b then ts else []) (distinct_true ts distinct)

blank : (bytes : List ℕ) → length bytes ≤ 1 → ledger_tasks bytes ≡ []
blank bytes few = ledger_is bytes [] [] (inl (few, refl)) tt tt

-- a file that keeps its bytes, or has at most one before and after
pub ledger_stays : (old new : List ℕ) → (1 < length old → new ≡ old) → (length old ≤ 1 → length new ≤ 1) → ledger_tasks new ≡ ledger_tasks old
ledger_stays old new kept short = by_test (nat_le (length old) 1) refl
  where
    by_test : (b : Bool) → nat_le (length old) 1 ≡ b → ledger_tasks new ≡ ledger_tasks old
    by_test true is = let few = leb-true (length old) 1 is in blank new (short few) ∙ sym (blank old few)
    by_test false is = ap (λ (l : List ℕ). ledger_tasks l) (kept (leb-false (length old) 1 is))

pub tasks_add : (es : List (List ℕ)) (ts : Tasks) (e k t : List ℕ) → AreTasks es ts → SpellsTask e k t → AreTasks (es ++ e ∷ []) (ts ++ (k, t) ∷ [])
tasks_add [] [] e k t are spelled = (spelled, tt)
tasks_add [] (r ∷ ts) e k t are spelled = absurd are
tasks_add (f ∷ es) [] e k t are spelled = absurd are
tasks_add (f ∷ es) (r ∷ ts) e k t are spelled = (are.0, tasks_add es ts e k t are.1 spelled)

-- one entry more
pub tasks_next : (es : List (List ℕ)) (i : ℕ) (ts : Tasks) (e : List ℕ) (task : List ℕ × List ℕ) → i < length es → e ≡ get_or es i [] → AreTasks (take i es) ts → SpellsTask e task.0 task.1 → AreTasks (take (i + 1) es) (ts ++ task ∷ [])
tasks_next es i ts e task lt is are spelled =
    subst (λ (l : List (List ℕ)). AreTasks l (ts ++ task ∷ [])) (ap (λ (x : List ℕ). take i es ++ x ∷ []) is ∙ sym (take_more es i [] lt)) (tasks_add (take i es) ts e task.0 task.1 are spelled)
