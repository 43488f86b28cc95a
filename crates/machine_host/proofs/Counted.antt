-- Calls of once: counted, and what their records give.
use Rattle.std.specs.Prelude.{Bool, true, false, List, Option, Some, None, Result, Ok, Err, IfErr, IfOk, length, slice_get}
use Rattle.std.specs.List.{AllByRecursion}
use Rattle.std.specs.Option.{IfSome}
use Rattle.std.proofs.Common.{◌≡◌, IsErrAnd, cond, ◌≤◌, ℕ, refl, sym, ap, subst, ◌∙◌, arith, [], ◌∷◌, append-nil, ◌⊎◌, inl, inr}
use Rattle.std.proofs.lemmas.Option.{slice_get_within}
use Rattle.turk_base.specs.Names.{Path, Name, sub, path_in, In, Under, home}
use Rattle.turk_base.specs.declared.Record.{Record}
use Rattle.turk_base.specs.declared.Record.TheVariants as kept
use Rattle.turk_base.specs.declared.Entry.{Entry}
use Rattle.turk_base.specs.Values as model
use Rattle.turk_base.specs.Values.{Outcome, Val, Data}
use Rattle.turk_base.specs.Data.{DUndefined, DNull, DTruth, DNumber, DText, DList, DFields, Items, NoItems, Item, Fields, NoFields, Field}
use Rattle.turk_base.specs.Asks.{Rec, rec, find}
use Rattle.turk_base.specs.Prog.{Prog, Once}
use Rattle.turk_base.specs.State.{St, enter, next_call, once_call}
use Rattle.turk_base.specs.Steps.{put_data}
use Rattle.turk_base.specs.Trace as told
use Rattle.turk_base.specs.Trace.{same_list}
use Rattle.turk_base.specs.Told.{records_of}
use Rattle.js_tree.specs.Run.{ended, halted, spent, diverged, bar, Res, res, run, run_steps, End, on_once, once_goes, body_end}
use Rattle.js_tree.specs.World.{World, Rest, diverges, found_kept, called_once}
use Rattle.run_laws.proofs.Sequel.{run_at}
use Rattle.meaning_laws.specs.Tied.{what_of}
use Rattle.meaning_laws.proofs.Tied.{find_tied}
use Rattle.record_bytes.specs.Limits.{IsDataWithin, AreItemsWithin, AreFieldsWithin, IsRecordWithin, IsWithin}
use Rattle.record_bytes.specs.Spelling.{count_items}
use Rattle.run_data.specs.Short.{IsShort, AreItemsShort, AreFieldsShort, many}
use Rattle.ask_model.specs.declared.AskStop.{AskStop}
use Rattle.ask_model.specs.declared.AskStop.TheVariants as stop
use Rattle.ask_model.specs.Asker.{Seen as Asked, known_to, asked_at, record_in}
use Rattle.ask_model.proofs.Finds.{at_some}
use Rattle.value_cells.specs.declared.OpStop.{OpStop}
use Rattle.value_cells.specs.declared.OpStop.TheVariants as heap
use Rattle.value_cells.specs.declared.Value.{Value}
use Rattle.value_cells.specs.Seen.{Naming, Seen, Fits, Scope, val_in}
use Rattle.value_cells.specs.Comes.{Comes, goes, stops, spends}
use Rattle.value_cells.specs.Does as does
use Rattle.value_cells.specs.Does.{Stays, Did, Kept, comes_from}
use Rattle.eval_ops.specs.Run.{Run, seen_of}
use Rattle.eval_ops.specs.Looks.{IsTold}
use Rattle.eval_ops.specs.Calls.{Changes, Enters}
use Rattle.run_host.specs.declared.Exit.{Exit}
use Rattle.run_host.specs.declared.Exit.TheVariants as exit
use Rattle.run_host.specs.declared.Halt.TheVariants as halt
use Rattle.run_host.specs.declared.Refusal.{Refusal}
use Rattle.run_host.specs.declared.Refusal.TheVariants as refusal
use Rattle.run_host.specs.Moment.{alone, Moment, Unmade, rest_of, Clear, place, Same, Within}
use Rattle.run_host.specs.Told as shown
use Rattle.run_host.specs.Told.{told_exit, told_value, exit_needs, refusal_in}
use Rattle.run_host.specs.Ends.{says, halts}
use Rattle.run_host.specs.Did.{Runs}
use Rattle.run_host.specs.Scopes.{called, OpensOnce}
use Rattle.machine_host.specs.declared.AskedRun.{AskedRun}
use Rattle.machine_host.specs.declared.Notes.{Notes}
use Rattle.machine_host.specs.Asking.{Indexed, Loses, Tells}
use Rattle.machine_host.specs.Onces.{CountsOnce, OnceGives}
use Rattle.turk_base.specs.Errors.{built_in}
use Rattle.machine_host.specs.Sound.{BacksKnow, IsGood, AreOpen, Refused, IsAsked}
use Rattle.machine_host.specs.Exits.{answer_at}
use Rattle.machine_host.specs.Moments.{moment_at, unmade_in}
use Rattle.machine_host.specs.Runs.{heap_of, notes_of, moment_of, IsSound}
use Rattle.machine_host.proofs.Bridge.{told_by, IsKnown, steps_are, Holds, steps_hold}
use Rattle.machine_host.proofs.Turns.{naming, moves_same, with_heap, KeepsGone}
use Rattle.machine_host.proofs.Calls.{what_none, what_some, found_is}
use Rattle.machine_host.proofs.Opening.{program_halts, program_lost}

-- ---- a once call is counted

same_calls : (a b : Run) (q : Path) → Changes (λ nu σ. once_call q σ) (seen_of a) (seen_of b) → b.heap.place.calls ≡ a.heap.place.calls
same_calls a b q c = let x = naming (seen_of b).names in ap (λ (σ : St). σ.calls) (c.first x.0 x.1)

module _ {X : Type 0} (seen : X → Asked) (words : X → ℕ → ℕ) (run : AskedRun X) (b : Run) (c : Changes (λ nu σ. once_call (heap_of run).scope.branch σ) (heap_of run) (seen_of b)) where
  abbrev ruled : Moment alone
  ruled = with_heap (moment_of seen words run) (seen_of b)

  pub counted : (new : Moment alone) (p : List ℕ) → Indexed p ruled new → CountsOnce p (moment_of seen words run) new
  counted new p x = record {
    names = x.names ∙ c.names;
    scope = x.scope ∙ c.scope;
    outer = x.outer ∙ c.outer;
    left = x.left ∙ c.left;
    first = λ nu fits. let f = subst (Fits nu) x.names fits in x.first nu fits ∙ ap next_call (c.first nu f);
    path = λ nu. x.path nu ∙ (λ i. sub (same_calls run.guarded.machine b (heap_of run).scope.branch c i) (c.scope i).path);
    rest = x.rest;
  }

  pub lost_counting : (new : Moment alone) (y : Exit) → Loses y ruled new → Loses y (moment_of seen words run) new
  lost_counting new y l = record {
    is = l.is;
    same = record { later = tt; session = l.same.session; trace = l.same.trace; pairs = l.same.pairs; grows = λ i n e. l.same.grows i n (ap (λ ns. slice_get ns i) c.names ∙ e) };
    made = l.made;
    stopped = l.stopped;
  }

pub if_ok : {A B : Type 0} {P Q : A → Type 0} (r : Result A B) → ((a : A) → P a → Q a) → IfOk r P → IfOk r Q
if_ok (Ok a) f h = f a h
if_ok (Err e) f h = tt

-- ---- the data of a record is short

many_is : (items : Items) → many items ≡ count_items items
many_is NoItems = refl
many_is (Item d rest) = omega (arith, many_is rest)

mutual
  unfolding IsDataWithin AreItemsWithin AreFieldsWithin IsShort AreItemsShort AreFieldsShort

  pub short_data : (d : Data) → IsDataWithin d → IsShort d
  short_data DUndefined h = tt
  short_data DNull h = tt
  short_data (DTruth b) h = tt
  short_data (DNumber z) h = tt
  short_data (DText t) h = tt
  short_data (DList items) h = (subst (λ n. n ≤ 1000000) (sym (many_is items)) h.0, short_items items h.1)
  short_data (DFields fields) h = short_fields fields h.1

  short_items : (items : Items) → AreItemsWithin items → AreItemsShort items
  short_items NoItems h = tt
  short_items (Item d rest) h = (short_data d h.0, short_items rest h.1)

  short_fields : (fields : Fields) → AreFieldsWithin fields → AreFieldsShort fields
  short_fields NoFields h = tt
  short_fields (Field key d rest) h = (short_data d h.1.0, short_fields rest h.1.1)

-- a record that is found is within the limits
pub found_within : (es : List Entry) → AllByRecursion IsWithin es → (p : List ℕ) (r : Record) → told.at es p ≡ Some r → IsRecordWithin r
found_within [] h p r e = let z : ⊥ = cc in absurd z
found_within (x ∷ es) h p r e = by (same_list x.path p) (found_within es h.1 p r) e
  where
    by : (b : Bool) → (told.at es p ≡ Some r → IsRecordWithin r) → cond b (Some x.what) (told.at es p) ≡ Some r → IsRecordWithin r
    by true go e = let q : x.what ≡ r = cc in subst IsRecordWithin q h.0.what
    by false go e = go e

pub stays_same : (s : Seen) → Stays s s
stays_same s = record { scope = refl; outer = refl; grows = λ i n e. e; below = λ i n e l. let h = slice_get_within s.names i n e in absurd (omega (arith, h, l)) }

-- ---- what holds where a data was put

good_kept : (s t : Seen) → IsGood s → Stays s t → IsTold t → IsGood t
good_kept s t g stays told = record {
  told = told;
  named = λ i l. stays.grows i (built_in i) (g.named i l);
  backs = subst (BacksKnow t.scope) (sym stays.outer) (subst (λ c. BacksKnow c s.outer) (sym stays.scope) g.backs);
}

-- a question for a path changes nothing of why a call was refused
asked_on : {X : Type 0} (is_sound : X → Type 0) (refuses : AskStop → Type 0) (seen : X → Asked) (closed : Bool) (stopped : Option AskStop) (u : Unmade) (old new : X) (p : List ℕ) → IsAsked is_sound refuses seen closed stopped u old → is_sound new → seen new ≡ asked_at (seen old) p
    → IsAsked is_sound refuses seen closed stopped u new
asked_on is_sound refuses seen closed stopped u old new p h sound asked = record {
  sound = sound;
  going = λ e. ap (λ (s : Asked). s.closed) asked ∙ h.going e;
  quiet = h.quiet;
  cause = by stopped h.cause;
}
  where
    by : (o : Option AskStop) → IfSome o (λ why. Refused refuses (seen old) u why) → IfSome o (λ why. Refused refuses (seen new) u why)
    by None c = tt
    by (Some why) c = record { may = c.may; named = c.named; full = λ e. subst (λ (s : Asked). 65536 ≤ length (known_to s)) (sym asked) (c.full e) }

pub kept_sound : {X : Type 0} (is_sound : X → Type 0) (refuses : AskStop → Type 0) (seen : X → Asked) (mid new : AskedRun X) (p : List ℕ) → IsSound is_sound refuses seen mid → is_sound new.asker → seen new.asker ≡ asked_at (seen mid.asker) p → new.closed ≡ mid.closed → new.notes ≡ mid.notes
    → new.entered ≡ mid.entered → Stays (heap_of mid) (heap_of new) → IsTold (heap_of new) → IsSound is_sound refuses seen new
kept_sound is_sound refuses seen mid new p h sound asked closed notes entered stays told = record {
  asked = subst (λ (n : Notes). IsAsked is_sound refuses seen new.closed n.stopped (unmade_in n.unmade) new.asker) (sym notes)
      (subst (λ b. IsAsked is_sound refuses seen b mid.notes.stopped (unmade_in mid.notes.unmade) new.asker) (sym closed) (asked_on is_sound refuses seen mid.closed mid.notes.stopped (unmade_in mid.notes.unmade) mid.asker new.asker p h.asked sound asked));
  good = good_kept (heap_of mid) (heap_of new) h.good stays told;
  entered = subst (AreOpen new.entered.items) (sym stays.outer) (subst (λ v. AreOpen v (heap_of mid).outer) (λ i. (sym entered i).items) h.entered);
}

-- ---- what the run does at a once call

other_diverges : (r : Record) → ((d : Data) → r ≡ kept.Once d → ⊥) → (z : Path) (σ : St) (w : Rest) (k : End → St → Rest → Res) (x : Res) (p : Path) →
    on_once (Some (rec z r)) σ w k x p ≡ res (halted (diverged (diverges p (found_kept r) called_once))) σ w
other_diverges (kept.Post t) h z σ w k x p = refl
other_diverges (kept.Reply t u) h z σ w k x p = refl
other_diverges (kept.Draw b v) h z σ w k x p = refl
other_diverges (kept.Once d) h z σ w k x p = absurd (h d refl)

module _ (s : Asked) (m n : Moment alone) (trace : m.trace ≡ records_of s.trace) (made : m.made ≡ records_of s.made) (p : List ℕ) (x : CountsOnce p m n) where
  abbrev at_once : Naming → Path
  at_once nu = sub (m.heap.first nu).calls m.heap.scope.path

  there : (r : Record) → told.at (known_to s) p ≡ Some r → (nu : Naming) → Clear nu m → (z : Path) × (find (at_once nu) m.trace ≡ Some (rec z r))
  there r at nu c = what_some (find (at_once nu) m.trace) r
      (ap (λ T. what_of (find (at_once nu) T)) trace ∙ found_is s p (m.heap.first nu).calls m.heap.scope.path (x.path nu) (λ r i a. c r (subst (λ l. In Rec r l) (sym made) i) a) ∙ at)

  unfound : told.at (known_to s) p ≡ None → find (path_in p) m.trace ≡ None
  unfound none = what_none (find (path_in p) m.trace) (ap (λ T. what_of (find (path_in p) T)) trace ∙ find_tied s.trace p ∙ front_none (told.at s.trace p) refl)
    where
      front_none : (o : Option Record) → told.at s.trace p ≡ o → told.at s.trace p ≡ None
      front_none None e = e
      front_none (Some r) e = let y = sym (at_some s.trace s.made p r e) ∙ none in let z : ⊥ = cc in absurd z

  grown : (i : ℕ) (name : Name) → slice_get m.heap.names i ≡ Some name → slice_get n.heap.names i ≡ Some name
  grown i name e = ap (λ l. slice_get l i) x.names ∙ e

  module _ (g : Naming → Prog) where
    abbrev inner : Naming → World → ℕ → Res
    inner nu E bound = run (g nu) E m.trace bound (at_once nu) m.heap.scope.branch true (body_end E m.trace (at_once nu) m.heap.scope.branch) (enter (called false m.heap.scope.branch (m.heap.first nu))) (rest_of m)

    abbrev after_once : Naming → World → (Outcome → St → Rest → Res) → End → St → Rest → Res
    after_once nu E k = once_goes E m.trace m.heap.scope.path m.heap.scope.branch m.heap.scope.body k

    recorded : (nu : Naming) (E : World) (bound : ℕ) (z : Path) (r : Record) → find (at_once nu) m.trace ≡ Some (rec z r) → (k : Outcome → St → Rest → Res) →
        run_at (place E bound m) (Once (g nu)) k (m.heap.first nu) (rest_of m) ≡ on_once (Some (rec z r)) (called false m.heap.scope.branch (m.heap.first nu)) (rest_of m) (after_once nu E k) (inner nu E bound) (at_once nu)
    unfolding run
    recorded nu E bound z r e k = λ i. on_once (e i) (called false m.heap.scope.branch (m.heap.first nu)) (rest_of m) (after_once nu E k) (inner nu E bound) (at_once nu)

    -- ---- a record of another kind

    abbrev with_count : Moment alone
    with_count = record m { heap = n.heap }

    counted_same : Same m with_count
    counted_same = record { later = tt; session = refl; trace = refl; pairs = refl; grows = grown }

    differs : (r : Record) → told.at (known_to s) p ≡ Some r → ((d : Data) → r ≡ kept.Once d → ⊥) → (y : Exit) → Tells y (diverges (path_in p) (found_kept r) called_once) → Runs (λ nu. Once (g nu)) (λ nu. told_exit nu y) m with_count
    differs r at h y t = subst (λ y. Runs (λ nu. Once (g nu)) (λ nu. told_exit nu y) m with_count) (sym t.1)
        (program_halts (λ nu. Once (g nu)) m with_count (halt.Diverges t.0) (halted (diverged (diverges (path_in p) (found_kept r) called_once))) (diverges (path_in p) (found_kept r) called_once, t.2, refl)
        counted_same
        (record { scope = x.scope; outer = x.outer; below = λ i name e l. let h = slice_get_within n.heap.names i name e in absurd (let q = ap length x.names in omega (arith, h, q, l)); falls = let h = x.left in omega (arith, h) })
        refl
        refl
        refl
        (λ nu fits E bound su c.
        let o = there r at nu c in
        let first = x.first nu fits in (
          called false m.heap.scope.branch (m.heap.first nu),
          m.heap.left,
          record { text = ap (λ (σ : St). σ.text) (sym first); verdict = ap (λ (σ : St). σ.verdict) (sym first); gone = ap (λ (σ : St). σ.gone) (sym first) },
          sym x.left,
          λ k.
              recorded nu E bound o.0 r o.1 k
              ∙ other_diverges r h o.0 (called false m.heap.scope.branch (m.heap.first nu)) (rest_of m) (after_once nu E k) (inner nu E bound) (at_once nu)
              ∙ (λ i. res (halted (diverged (diverges (sym (x.path nu) i) (found_kept r) called_once))) (called false m.heap.scope.branch (m.heap.first nu)) (rest_of m)),
        )))

    differs_lost : (y : Exit) → y ≡ exit.Stopped stop.Memory → Runs (λ nu. Once (g nu)) (λ nu. told_exit nu y) m with_count
    differs_lost y e = program_lost (λ nu. Once (g nu)) m with_count y (record { is = e; same = counted_same; made = refl; stopped = refl })

    -- ---- the kept data is put

    module _ (d : Data) (at : told.at (known_to s) p ≡ Some (kept.Once d)) (t : Seen) (stays : Stays n.heap t) where
      abbrev with_data : Moment alone
      with_data = record m { heap = t }

      abbrev come : Naming → Comes Val
      come nu = comes_from (put_data d) nu n.heap

      fits_count : (nu : Naming) → Fits nu t.names → Fits nu n.heap.names
      fits_count nu fits = record { agrees = λ i name e. fits.agrees i name (stays.grows i name e) }

      put_is : (nu : Naming) → Fits nu t.names → (E : World) (bound : ℕ) → Clear nu m → (c : Comes Val) → come nu ≡ c → IsKnown c → (k : Outcome → St → Rest → Res) →
          run_at (place E bound m) (Once (g nu)) k (m.heap.first nu) (rest_of m) ≡ told_by (rest_of m) (λ v τ w. k (model.Normal v) τ w) c
      put_is nu fits E bound clear c e h k =
          let o = there (kept.Once d) at nu clear in
          let on : Val → St → Rest → Res = λ v τ w. k (model.Normal v) τ w in
          let first = sym (x.first nu (fits_count nu fits)) in
          let scope = sym x.scope in
          let left = sym x.left in
          recorded nu E bound o.0 (kept.Once d) o.1 k
          ∙ (λ i. run_steps (put_data d) E m.trace (scope i).path (scope i).branch (scope i).body on (first i) (record (rest_of m) { left = left i }))
          ∙ steps_are (put_data d) E m.trace n.heap.scope.path n.heap.scope.branch n.heap.scope.body on (n.heap.first nu) (record (rest_of m) { left = n.heap.left }) (subst IsKnown (sym e) h)
          ∙ (λ i. told_by (record (rest_of m) { left = x.left i }) on (come nu))
          ∙ ap (told_by (rest_of m) on) e

      put_holds : (nu : Naming) (c : Comes Val) → come nu ≡ c → Holds (n.heap.first nu) n.heap.left c
      put_holds nu c e = subst (Holds (n.heap.first nu) n.heap.left) e (steps_hold (put_data d) n.heap.scope.path n.heap.scope.branch n.heap.scope.body (n.heap.first nu) n.heap.left)

      put_fell : (c : Naming → Comes Val) → ((nu : Naming) → Fits nu t.names → come nu ≡ c nu) → ((nu : Naming) → Holds (n.heap.first nu) n.heap.left (c nu) → t.left ≤ n.heap.left) → t.left ≤ m.heap.left
      put_fell c e h = let y = naming t.names in let l = h y.0 (put_holds y.0 (c y.0) (e y.0 y.1)) in let q = x.left in omega (arith, l, q)

      put_same : Same m with_data
      put_same = record { later = tt; session = refl; trace = refl; pairs = refl; grows = λ i name e. stays.grows i name (grown i name e) }

      put_within : t.left ≤ m.heap.left → Within m with_data
      put_within l = record {
        scope = stays.scope ∙ x.scope;
        outer = stays.outer ∙ x.outer;
        below = λ i name e h. subst (λ (c : Scope). Under c.path (home name)) x.scope (stays.below i name e (let q = ap length x.names in omega (arith, h, q)));
        falls = l;
      }

      put_refused : (y : model.Refusal) (z : Refusal) → refusal_in z ≡ y → ((nu : Naming) → Fits nu t.names → come nu ≡ stops y (t.first nu) t.left) → Runs (λ nu. Once (g nu)) (λ nu. shown.Halts (halt.Refused z)) m with_data
      put_refused y z is did = program_halts (λ nu. Once (g nu)) m with_data (halt.Refused z) (ended (bar y)) (ap (λ y. ended (bar y)) (sym is)) put_same (put_within (put_fell (λ nu. stops y (t.first nu) t.left) did (λ nu h. h.0))) refl refl refl
          (λ nu fits E bound su c. (t.first nu, t.left, record { text = refl; verdict = refl; gone = refl }, refl, λ k. put_is nu fits E bound c (stops y (t.first nu) t.left) (did nu fits) tt k))

      put_spent : KeepsGone n.heap t → ((nu : Naming) → Fits nu t.names → (σ : St) × (l : ℕ) × (come nu ≡ spends σ l) × Kept σ (t.first nu)) → Runs (λ nu. Once (g nu)) (λ nu. shown.Halts halt.Spent) m with_data
      put_spent gone did = record {
        same = put_same;
        within = λ nu z. absurd z;
        added = [];
        made = sym (append-nil m.made);
        dealt = tt;
        moved = λ nu z. absurd z;
        shown = λ nu. refl;
        ran = λ nu fits E su bound l c.
            let q = did nu fits in
            let h = put_holds nu (spends q.0 q.1) q.2 in
            halts (record {
              out = halted spent;
              is = refl;
              at = q.0;
              left = q.1;
              like = record { text = sym q.3.text; verdict = sym q.3.verdict; gone = h.2 ∙ sym (gone nu) };
              fuel = λ z. absurd z;
              stops = record { holds = λ k. put_is nu fits E bound c (spends q.0 q.1) q.2 tt k };
            });
      }

      put_runs : (a : Result Value OpStop) → ((nu : Naming) → Fits nu t.names → Did (come nu) (does.told (val_in nu) a) (t.first nu) t.left) → KeepsGone n.heap t → Runs (λ nu. Once (g nu)) (λ nu. told_value nu (answer_at a)) m with_data
      put_runs (Ok v) did gone = record {
        same = put_same;
        within = λ nu z. put_within (put_fell (λ nu. goes (val_in nu v) (t.first nu) t.left) did (λ nu h. h.0));
        added = [];
        made = sym (append-nil m.made);
        dealt = tt;
        moved = λ nu z. moves_same refl;
        shown = λ nu. refl;
        ran = λ nu fits E su bound l c. says (record { holds = λ k. put_is nu fits E bound c (goes (val_in nu v) (t.first nu) t.left) (did nu fits) tt k });
      }
      put_runs (Err heap.NotWhole) did gone = put_refused model.NotWhole refusal.NotWhole refl did
      put_runs (Err heap.NoPrimitive) did gone = put_refused model.NoPrimitive refusal.NoPrimitive refl did
      put_runs (Err heap.TooLong) did gone = put_refused model.TooLong refusal.TooLong refl did
      put_runs (Err heap.Spent) did gone = put_spent gone did
      put_runs (Err heap.Memory) did gone = program_lost (λ nu. Once (g nu)) m with_data (exit.Stopped stop.Memory) (record { is = refl; same = put_same; made = refl; stopped = refl })

    -- what the record gave
    pub record_gives : (r : Record) → told.at (known_to s) p ≡ Some r → (t : Seen) → Stays n.heap t → (y : Result Value Exit) → OnceGives (path_in p) r n.heap t y → Runs (λ nu. Once (g nu)) (λ nu. told_value nu y) m (record m { heap = t })
    record_gives r at t stays y (inl h) = subst (λ y. Runs (λ nu. Once (g nu)) (λ nu. told_value nu y) m (record m { heap = t })) (sym h.is) (put_runs h.data_is (at ∙ ap Some h.once) t stays h.answer h.did.did h.gone)
    record_gives r at t stays y (inr h) =
        subst (λ y. Runs (λ nu. Once (g nu)) (λ nu. told_value nu y) m (record m { heap = t })) (sym h.is)
        (subst (λ t. Runs (λ nu. Once (g nu)) (λ nu. told_exit nu h.exit) m (record m { heap = t })) (sym h.same) (by h.why))
      where
        by : (h.exit ≡ exit.Stopped stop.Memory) ⊎ Tells h.exit (diverges (path_in p) (found_kept r) called_once) → Runs (λ nu. Once (g nu)) (λ nu. told_exit nu h.exit) m (record m { heap = n.heap })
        by (inl lost) = differs_lost h.exit lost
        by (inr d) = differs r at h.other h.exit d

  pub once_opened : (l : Moment alone) → IsTold m.heap → told.at (known_to s) p ≡ None → Enters (path_in p) false n.heap l.heap → l ≡ record m { heap = l.heap } → OpensOnce m l
  once_opened l known none e is = record {
    opens = record {
      later = tt;
      cells = record { own = known.own; there = known.there; only = known.only };
      names = e.names ∙ x.names;
      left = e.left ∙ x.left;
      session = ap (λ (q : Moment alone). q.session) is;
      trace = ap (λ (q : Moment alone). q.trace) is;
      pairs = ap (λ (q : Moment alone). q.pairs) is;
      made = ap (λ (q : Moment alone). q.made) is;
      words = ap (λ (q : Moment alone). q.words) is;
      waits = ap (λ (q : Moment alone). q.waits) is;
      stopped = ap (λ (q : Moment alone). q.stopped) is;
      outer = e.outer ∙ (λ i. x.scope i ∷ x.outer i);
      first = λ nu fits. e.first nu ∙ ap enter (x.first nu (subst (Fits nu) (sym x.names) fits));
      back = λ nu fits. e.back nu ∙ x.first nu (subst (Fits nu) (sym x.names) fits);
      path = λ nu. e.path ∙ x.path nu;
      unfound = ap (λ q. find q m.trace) e.path ∙ unfound none;
    };
    branch = e.branch_is ∙ ap (λ (c : Scope). c.branch) x.scope;
    body = e.body;
    forks = ap (λ (q : Moment alone). q.forks) is;
  }

-- ---- a once call as its function tells of it

module _ {X : Type 0} (seen : X → Asked) (words : X → ℕ → ℕ) (old mid : AskedRun X) (known : X) (p : List ℕ) (x : CountsOnce p (moment_of seen words old) (moment_of seen words mid)) (asker : mid.asker ≡ old.asker)
    (asked : seen known ≡ asked_at (seen mid.asker) p) (drawn : (k : ℕ) → words known k ≡ words mid.asker k) where
  abbrev once_now : Seen → Moment alone
  once_now t = moment_at t (seen known) (words known) (notes_of mid.notes)

  once_is : (t : Seen) → once_now t ≡ record (moment_of seen words old) { heap = t }
  once_is t = (λ i. moment_at t (asked i) (λ k. drawn k i) (notes_of mid.notes)) ∙ ap (λ (q : Moment alone). record q { heap = t }) x.rest

  traced : (moment_of seen words old).trace ≡ records_of (seen mid.asker).trace
  traced = λ i. records_of (seen (sym asker i)).trace

  made_before : (moment_of seen words old).made ≡ records_of (seen mid.asker).made
  made_before = λ i. records_of (seen (sym asker i)).made

  pub once_found : (r : Record) → Some r ≡ record_in (known_to (seen known)) (seen known).asked → (t : Seen) → Stays (heap_of mid) t → (y : Result Value Exit) → OnceGives (path_in p) r (heap_of mid) t y
      → (g : Naming → Prog) → Runs (λ nu. Once (g nu)) (λ nu. told_value nu y) (moment_of seen words old) (once_now t)
  once_found r at t stays y h g = subst (λ l. Runs (λ nu. Once (g nu)) (λ nu. told_value nu y) (moment_of seen words old) l) (sym (once_is t))
      (record_gives (seen mid.asker) (moment_of seen words old) (moment_of seen words mid) traced made_before p x g r (sym (at ∙ ap (λ s. record_in (known_to s) s.asked) asked)) t stays y h)

  module _ (new : AskedRun X) (was : new.asker ≡ known) (kept : new.notes ≡ mid.notes) where
    new_is : moment_of seen words new ≡ record (moment_of seen words old) { heap = heap_of new }
    new_is = (λ i. moment_at (heap_of new) (seen (was i)) (words (was i)) (notes_of (kept i))) ∙ once_is (heap_of new)

    pub once_entered : IsTold (heap_of old) → told.at (known_to (seen mid.asker)) p ≡ None → Enters (path_in p) false (heap_of mid) (heap_of new) → OpensOnce (moment_of seen words old) (moment_of seen words new)
    once_entered known_told none e = once_opened (seen mid.asker) (moment_of seen words old) (moment_of seen words mid) traced made_before p x (moment_of seen words new) known_told none e new_is

    pub once_not_entered : heap_of new ≡ heap_of mid → (y : Exit) → y ≡ exit.Stopped stop.Memory → (g : Naming → Prog) → Runs (λ nu. Once (g nu)) (λ nu. told_exit nu y) (moment_of seen words old) (moment_of seen words new)
    once_not_entered same y e g = program_lost (λ nu. Once (g nu)) (moment_of seen words old) (moment_of seen words new) y (record {
      is = e;
      same = subst (Same (moment_of seen words old)) (sym (new_is ∙ ap (λ t. record (moment_of seen words old) { heap = t }) same)) (record { later = tt; session = refl; trace = refl; pairs = refl; grows = λ i name e. ap (λ l. slice_get l i) x.names ∙ e });
      made = ap (λ (q : Moment alone). q.made) new_is;
      stopped = ap (λ (q : Moment alone). q.stopped) new_is;
    })

pub once_exit : {A : Type 0} (r : Result A Exit) (e : Exit) (m n : Moment alone) → IsErrAnd r (λ y. y ≡ e) → Loses e m n → IfErr r (λ y. (g : Naming → Prog) → Runs (λ nu. Once (g nu)) (λ nu. told_exit nu y) m n)
once_exit (Ok a) e m n h l = absurd h
once_exit (Err y) e m n h l = λ g. program_lost (λ nu. Once (g nu)) m n y (record { is = h ∙ l.is; same = l.same; made = l.made; stopped = l.stopped })
