-- What holds of an asker from the entry of a run to its exit, by what the run's own chain tells of it.
use Rattle.std.specs.Prelude.{ℕ, Bool, List, [], ◌++◌, Some, None, Result}
use Rattle.std.proofs.Common.{◌≡◌, refl, sym, ap, ◌∙◌, subst, inl, inr, ◌⊎◌, append-nil}
use native.Mathlib.Nat.{le_refl}
use Rattle.outside.specs.Faults.{Rose}
use Rattle.turk_base.specs.Names.{Units, In}
use Rattle.turk_base.specs.Trace.{answer, token_of}
use Rattle.turk_base.specs.declared.Entry.{Entry}
use Rattle.turk_base.specs.declared.Record.TheVariants.{Post}
use Rattle.turk_base.specs.Told.{records_of}
use Rattle.js_tree.specs.declared.Script.{Script}
use Rattle.js_tree.specs.Calls.{Code}
use Rattle.js_tree.specs.Rows.{program}
use Rattle.js_tree.specs.Table.{table_of}
use Rattle.js_tree.specs.Eval.{meaning, Left}
use Rattle.value_cells.specs.Seen.{Naming}
use Rattle.run_host.specs.declared.Exit.{Exit}
use Rattle.run_host.specs.declared.Flow.{Flow}
use Rattle.run_host.specs.Moment.{Chain, alone, Moment, apart}
use Rattle.run_host.specs.Told.{Told, told_flow, IsShown}
use Rattle.run_host.specs.Did.{Runs}
use Rattle.run_host.proofs.Along.{runs_apart}
use Rattle.ask_model.specs.Asker.{Seen as Asked, known_to, entry}
use Rattle.machine_host.specs.declared.AskedRun.{AskedRun}
use Rattle.machine_host.specs.Starts.{Begins}
use Rattle.machine_host.specs.Runs.{moment_of}
use Rattle.machine_host.specs.Chain.{Later, LeftBetween, LeftNow, Tasks, IsPosted}
use Rattle.script_run.specs.Since.{LeavesLeft, HasTasks, IsAdded}
use Rattle.script_run.proofs.Fronts.{Came}
use Rattle.script_run.proofs.Whole.{come, asks}
use Rattle.script_run.proofs.Lefts.{leaves_left, leaves_none, between}
use Rattle.script_run.proofs.Rests.{rests_made, rests_last}

-- a stop now leaves what is known
abbrev pub LeavesKnown : {A : Type 0} → (A → Asked) → (A → ℕ) → (A → ℕ → List Entry → Type 0) → A → Type 0
LeavesKnown seen moment left_since a = (t : List Entry) → left_since a (moment a) t → t ≡ known_to (seen a)

-- ---- an asker that was not asked

pub left_still : {A : Type 0} (seen : A → Asked) (moment : A → ℕ) (left_since : A → ℕ → List Entry → Type 0) (S : Script) (session : Units) (fuel : ℕ) (a : A) → (seen a).made ≡ [] → LeavesKnown seen moment left_since a → LeavesLeft seen moment left_since S session fuel a a
left_still seen moment left_since S session fuel a none now t l = leaves_left S session fuel (seen a) [] t (leaves_none S session fuel (seen a) t none (now t l))

nothing_in : {A : Type 0} {x : A} {l : List A} {B : Type 0} → l ≡ [] → In A x l → B
nothing_in {A} {x} e i = absurd (none (subst (λ l. In A x l) e i))
  where
    none : In A x [] → ⊥
    none = elim [ ]

pub tasks_still : (S : Script) (session : Units) (fuel : ℕ) (leaves : List Entry → Type 0) (s : Asked) → s.made ≡ [] → HasTasks S session fuel leaves s s
tasks_still S session fuel leaves s none = record {
  more = [];
  tasks = sym (append-nil s.tasks);
  added = λ task i. nothing_in refl i;
  held = λ path text i. nothing_in none i;
  kept = λ x y task i. nothing_in refl i;
}

-- ---- an asker of a run

module _ {A : Type 0} (seen : A → Asked) (fits : A → Entry → Bool) (goes_on : A → A → Type 0) (tells_tasks tells_traces : Type 0) (moment : A → ℕ) (left_since : A → ℕ → List Entry → Type 0) (S : Script) (session : Units) (fuel : ℕ) (h0 h1 : AskedRun A) (y : Later seen fits goes_on tells_tasks tells_traces moment left_since h0 h1) (c : Came seen S session fuel (seen h0.asker) h1) where
  its_added : (seen h1.asker).made ≡ y.added
  its_added = y.made ∙ ap (λ (l : List Entry). l ++ y.added) c.none

  left_here : LeavesKnown seen moment left_since h0.asker → tells_traces → LeavesLeft seen moment left_since S session fuel h0.asker h1.asker
  left_here now tells t l = by ((y.traces tells).since (moment h0.asker) t (le_refl (moment h0.asker)) l)
    where
      by : left_since h0.asker (moment h0.asker) t ⊎ LeftBetween seen (seen h0.asker) y.added h1 t → Left session (meaning S) fuel (records_of (seen h0.asker).trace) (seen h0.asker).replies (records_of t)
      by (inl b) = left_still seen moment left_since S session fuel h0.asker c.none now t b
      by (inr b) = between seen S session fuel (seen h0.asker) h1 c y.added its_added t b

  now_here : LeavesKnown seen moment left_since h0.asker → tells_traces → (t : List Entry) → left_since h1.asker (moment h1.asker) t → LeftNow seen h1 t
  now_here now tells = (y.traces tells).now (λ t l. inl (now t l))

  tasks_here : h1.notes.session ≡ session → (tells_traces → LeavesKnown seen moment left_since h0.asker) → tells_tasks →
      HasTasks S session fuel (λ t. tells_traces × left_since h1.asker (moment h1.asker) t) (seen h0.asker) (seen h1.asker)
  tasks_here name now tells = record {
    more = k.more;
    tasks = k.tasks;
    added = λ task i. rests task (k.posted task i);
    held = λ path text i. subst (λ n. answer (seen h1.asker).tasks (token_of n path) ≡ Some text) name (k.held path text (subst (λ (l : List Entry). In Entry (entry path (Post text)) l) its_added i));
    kept = λ disk board task i. recorded disk board task (k.posted task i);
  }
    where
      k : Tasks seen h0 h1 y.added
      k = y.tasks tells

      its_token : (path token : List ℕ) → token ≡ token_of h1.notes.session path → token ≡ token_of session path
      its_token path token e = e ∙ ap (λ n. token_of n path) name

      leaves_now : (t : List Entry) → tells_traces × left_since h1.asker (moment h1.asker) t → LeftNow seen h1 t
      leaves_now t l = now_here (now l.0) l.0 t l.1

      rests : (task : List ℕ × List ℕ) → IsPosted seen h0 h1 y.added task → IsAdded S session fuel (seen h0.asker) (λ t. tells_traces × left_since h1.asker (moment h1.asker) t) task
      rests task (path, token, inl i) = (path, its_token path task.0 token, λ t l. rests_made seen S session fuel (seen h0.asker) h1 c y.added its_added y.trace path task.1 i t (leaves_now t l))
      rests task (path, token, inr u) = (path, its_token path task.0 token, λ t l. rests_last seen S session fuel (seen h0.asker) h1 c y.added its_added y.trace h0 path task.1 u t (leaves_now t l))

      recorded : (Rose (seen h0.asker).disk_faults (seen h1.asker).disk_faults → ⊥) → (Rose (seen h0.asker).board_faults (seen h1.asker).board_faults → ⊥) → (task : List ℕ × List ℕ) → IsPosted seen h0 h1 y.added task →
          (path : List ℕ) × (task.0 ≡ token_of session path) × In Entry (entry path (Post task.1)) (seen h1.asker).made
      recorded disk board task (path, token, inl i) = (path, its_token path task.0 token, subst (λ (l : List Entry). In Entry (entry path (Post task.1)) l) (sym its_added) i)
      recorded disk board task (path, token, inr u) = absurd (rose u.rose)
        where
          rose : Rose (seen h0.asker).disk_faults (seen h1.asker).disk_faults ⊎ Rose (seen h0.asker).board_faults (seen h1.asker).board_faults → ⊥
          rose (inl r) = disk r
          rose (inr r) = board r

-- ---- the asker that the run began with, and the one that it gave back

pub keeps_run : {A : Type 0} (goes_on : A → A → Type 0) (a b x y : A) → goes_on x y → x ≡ a → b ≡ y → goes_on a b
keeps_run goes_on a b x y h begins ends = subst (λ z. goes_on z b) begins (subst (λ z. goes_on x z) (sym ends) h)

module _ {A : Type 0} (seen : A → Asked) (fits : A → Entry → Bool) (goes_on : A → A → Type 0) (tells_tasks tells_traces : Type 0) (moment : A → ℕ) (left_since : A → ℕ → List Entry → Type 0) (S : Script) (session : Units) (fuel : ℕ) (asker after : A) (h0 h1 : AskedRun A) (y : Later seen fits goes_on tells_tasks tells_traces moment left_since h0 h1) (c : Came seen S session fuel (seen asker) h1) (begins : h0.asker ≡ asker) (ends : after ≡ h1.asker) where
  pub left_run : LeavesKnown seen moment left_since asker → tells_traces → LeavesLeft seen moment left_since S session fuel asker after
  left_run now tells = subst (λ a. Came seen S session fuel (seen a) h1 → LeavesKnown seen moment left_since a → LeavesLeft seen moment left_since S session fuel a after) begins
      (λ c now. subst (λ b. LeavesLeft seen moment left_since S session fuel h0.asker b) (sym ends) (left_here seen fits goes_on tells_tasks tells_traces moment left_since S session fuel h0 h1 y c now tells)) c now

  pub tasks_run : h1.notes.session ≡ session → (tells_traces → LeavesKnown seen moment left_since asker) → tells_tasks →
      HasTasks S session fuel (λ t. tells_traces × left_since after (moment after) t) (seen asker) (seen after)
  tasks_run name now tells = subst (λ a. Came seen S session fuel (seen a) h1 → (tells_traces → LeavesKnown seen moment left_since a) → HasTasks S session fuel (λ t. tells_traces × left_since after (moment after) t) (seen a) (seen after)) begins
      (λ c now. subst (λ b. HasTasks S session fuel (λ t. tells_traces × left_since b (moment b) t) (seen h0.asker) (seen b)) (sym ends) (tasks_here seen fits goes_on tells_tasks tells_traces moment left_since S session fuel h0 h1 y c name now tells)) c now

-- ---- by what an evaluator did

pub meant : {κ : Chain} {told : Naming → Told} {m0 m1 : Moment κ} (S B : Script) (T : List Code) → T ≡ table_of S → B ≡ S → Runs (λ nu. program T B) told m0 m1 → Runs (λ nu. meaning S) told (apart m0) (apart m1)
meant {told = told} {m0} {m1} S B T codes body r = runs_apart (subst (λ T. Runs (λ nu. program T S) told m0 m1) codes (subst (λ B. Runs (λ nu. program T B) told m0 m1) body r))

pub came_of : {A : Type 0} (seen : A → Asked) (words : A → ℕ → ℕ) (S : Script) (session : Units) (fuel : ℕ) (asker : A) (h0 h1 : AskedRun A) (flow : Result Flow Exit) → Begins session (records_of (seen asker).trace) (seen asker).replies fuel (words asker) (moment_of seen words h0) →
    (moment_of seen words h0).stopped ≡ None → (seen asker).made ≡ [] → Runs (λ nu. meaning S) (λ nu. told_flow nu flow) (moment_of seen words h0) (moment_of seen words h1) → Came seen S session fuel (seen asker) h1
came_of seen words S session fuel asker h0 h1 flow b quiet none r =
    let m0 : Moment alone = moment_of seen words h0 in
    let m1 : Moment alone = moment_of seen words h1 in
    record {
      word = words asker;
      forks = h1.notes.forks;
      waits = h1.notes.waits.items;
      state = m1.heap;
      flow = flow;
      none = none;
      come = come S session (seen asker) (seen h1.asker) fuel h1.notes.forks h1.notes.waits.items m1.heap flow (words asker) m0 m1 b r refl refl refl refl;
      asks = asks session (seen asker) (seen h1.asker) fuel (words asker) m0 m1 b r refl refl refl;
      shown = λ nu. subst (λ o. IsShown (told_flow nu flow) o m1.stopped) quiet (r.shown nu);
    }
