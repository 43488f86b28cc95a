-- Once bodies that end, as the functions tell of them.
use Rattle.std.specs.Prelude.{true, MatchBool, List, Option, Some, None, Result, Ok, Err}
use Rattle.std.proofs.Common.{◌≡◌, ◌≤◌, ◌<◌, ◌⊎◌, inl, inr, ℕ, refl, sym, ap, subst, ◌∙◌, arith, [], ◌∷◌, ◌++◌, append-nil}
use Rattle.turk_base.specs.Names.{sub}
use Rattle.turk_base.specs.Asks.{Rec, rec}
use Rattle.turk_base.specs.declared.Record.TheVariants as kept
use Rattle.turk_base.specs.Prog.{Prog, Once}
use Rattle.turk_base.specs.State.{St, next_call, once_call, enter, leave}
use Rattle.turk_base.specs.Steps.{taking, put_data}
use Rattle.turk_base.specs.Values as model
use Rattle.turk_base.specs.Values.{Val, Data, Outcome, Normal, Throw}
use Rattle.js_tree.specs.Run.{ret, bar, datum, ended, halted, spent, Res, res, add, run_steps}
use Rattle.js_tree.specs.World.{words, Draws, World, Rest}
use Rattle.run_laws.proofs.Sequel.{Place, run_at, Ends}
use Rattle.run_laws.proofs.Cuts.{makes, unknown, Cuts, in_body, body_at}
use Rattle.run_laws.proofs.Fronts.{front, front_trans}
use Rattle.ask_model.specs.declared.AskStop.{AskStop}
use Rattle.ask_model.specs.declared.AskStop.TheVariants as stop
use Rattle.ask_model.specs.Asker.{Seen as Asked}
use Rattle.value_cells.specs.declared.OpStop.{OpStop}
use Rattle.value_cells.specs.declared.OpStop.TheVariants as heap
use Rattle.value_cells.specs.declared.Value.{Value}
use Rattle.value_cells.specs.Seen.{Naming, Fits, val_in}
use Rattle.value_cells.specs.Comes.{Comes as Came, goes, stops, spends}
use Rattle.value_cells.specs.Does as does
use Rattle.value_cells.specs.Does.{Did, Kept, comes_from}
use Rattle.run_data.specs.Taken.{told_taken}
use Rattle.eval_ops.specs.Calls.{LeavesKeep}
use Rattle.run_host.specs.declared.Exit.{Exit}
use Rattle.run_host.specs.declared.Exit.TheVariants as exit
use Rattle.run_host.specs.declared.Halt.{Halt}
use Rattle.run_host.specs.declared.Halt.TheVariants as halt
use Rattle.run_host.specs.declared.Refusal.{Refusal}
use Rattle.run_host.specs.declared.Refusal.TheVariants as refusal
use Rattle.run_host.specs.Moment.{alone, Moment, keeping, cells, drawn_by, rest_of, draws_in, AllDealt, Suits, Clear, place, Same, Within}
use Rattle.run_host.specs.Told.{Told, Says, Halts, Fails, GoesOn, IsShown, next_of, told_exit, told_value, refusal_in}
use Rattle.run_host.specs.Ends.{Like, Comes, says, halts}
use Rattle.run_host.specs.Did.{Runs}
use Rattle.run_host.specs.Scopes.{Local, OpensOnce}
use Rattle.run_host.proofs.Moments.{shown_on, fits_before, same_refl, same_trans, within_refl, within_trans}
use Rattle.machine_host.specs.declared.AskedRun.{AskedRun}
use Rattle.machine_host.specs.Moments.{moment_at}
use Rattle.machine_host.specs.Runs.{heap_of, notes_of, moment_of}
use Rattle.machine_host.specs.Asking.{Loses, Refuses}
use Rattle.machine_host.specs.Exits.{exit_at, answer_at}
use Rattle.machine_host.specs.Leaving.{LeftWith}
use Rattle.machine_host.specs.Bodies.{gift_at, goes_on, TakesData, LeavesBy, recorded, PutsBack, KeepsData, EndsOnce}
use Rattle.machine_host.proofs.Leaving.{kept_with}
use Rattle.machine_host.proofs.Bridge.{told_by, IsKnown, steps_are, Holds, steps_hold}
use Rattle.machine_host.proofs.Turns.{naming, moves_same}
use Rattle.machine_host.proofs.Bodied.{once_gave, once_refused, once_stops, body_valued, once_threw, once_halted, once_failed, once_lost}
use Rattle.machine_host.proofs.Scoped.{Went, suits_same, went_by, went_on, run_fails, same_opened, unfound_is, body_came, same_now, made_now, stopped_now, dealt_now, moves_now, fits_now, path_is, branch_is, in_body_is, back_is, kept_runs, its_naming, fits_its, own_is, program_is, clear_its, same_back, within_back, scope_back, first_back}
use native.Mathlib.Nat.{le_refl}

like_same : {τ : St} → Like τ τ
like_same = record { text = refl; verdict = refl; gone = refl }

-- the state that is left is like the one in the scope
like_left : (σ : St) {τ υ : St} → υ ≡ leave σ τ → Like τ υ
like_left σ e = record { text = ap (λ (s : St). s.text) (sym e); verdict = ap (λ (s : St). s.verdict) (sym e); gone = ap (λ (s : St). s.gone) (sym e) }

abbrev Left : Moment alone → Moment alone → Type 0
Left old new = LeftWith (λ nu. leave (old.heap.scope.back nu) (old.heap.first nu)) old new

-- ---- the exits of a body

lost_ends : {told : Naming → Told} (on : (nu : Naming) → GoesOn (told nu)) (old new : Moment alone) (y : Exit) → Loses y old new → EndsOnce told old (λ nu. told_exit nu y) new
lost_ends {told} on old new y l g before opened local o r =
    let u = went_by r on in
    subst (λ y. Runs (λ nu. Once (g nu)) (λ nu. told_exit nu y) before new) (sym l.is)
    (run_fails stop.Memory r.added (same_trans (same_now o.opens u) l.same) (l.made ∙ made_now o.opens u) (dealt_now o.opens u) (inl (l.stopped ∙ stopped_now o.opens u))
    (λ nu fits E su bound lo c. once_lost (place E bound before) (g nu) (before.heap.first nu) (rest_of before) (unfound_is o.opens nu) r.added (old.heap.first nu) (rest_of old) (next_of E (draws_in old.made) old.unmade) (told nu)
    (body_came o r nu (fits_before l.same.grows fits) E (suits_same l.same l.made su) bound lo c) (on nu)))

threw_ends : (v : Value) (old new : Moment alone) → Left old new → EndsOnce (λ nu. Says (Throw (val_in nu v))) old (λ nu. Says (Throw (val_in nu v))) new
threw_ends v old new k g before opened local o r =
    let u = went_by r (λ nu. tt) in
    kept_runs o.opens u k.keeps (λ nu. Once (g nu)) (λ nu. Says (Throw (val_in nu v))) (λ nu e. e)
    (λ nu fn fits E su bound l c.
    let P = place E bound before in
    let e = once_threw P (g nu) (before.heap.first nu) (rest_of before) (unfound_is o.opens nu) r.added (old.heap.first nu) (rest_of old) (next_of E (draws_in old.made) old.unmade) (val_in nu v) (body_came o r nu fn E su bound l c) in
    says (subst (λ t. Ends P (Once (g nu)) (Throw (val_in nu v)) (before.heap.first nu) (rest_of before) t (rest_of old) r.added)
    (sym (k.first_is nu fits ∙ ap (λ b. leave b (old.heap.first nu)) (back_is o.opens u nu (fits_now o.opens u fn)))) e))

halted_ends : (h : Halt) → GoesOn (Halts h) → (old new : Moment alone) → Left old new → EndsOnce (λ nu. Halts h) old (λ nu. Halts h) new
halted_ends h on old new k g before opened local o r =
    let u = went_by r (λ nu. on) in
    kept_runs o.opens u k.keeps (λ nu. Once (g nu)) (λ nu. Halts h) (λ nu e. e)
    (λ nu fn fits E su bound l c. halts (once_halted (place E bound before) (g nu) (before.heap.first nu) (rest_of before) (unfound_is o.opens nu) r.added (old.heap.first nu) (rest_of old) (next_of E (draws_in old.made) old.unmade) h (new.heap.first nu)
    (like_left (old.heap.scope.back nu) (k.first_is nu fits)) (body_came o r nu fn E su bound l c)))

-- the run is over
over_ends : {told : Naming → Told} → ((nu : Naming) → GoesOn (told nu) → ⊥) → (old new : Moment alone) → new ≡ old → EndsOnce told old told new
over_ends {told} ends old new same g before opened local o r = subst (λ m. Runs (λ nu. Once (g nu)) told before m) (sym same) (record {
  same = same_trans (same_opened o.opens) r.same;
  within = λ nu z. absurd (ends nu z);
  added = r.added;
  made = r.made ∙ ap (λ l. l ++ r.added) o.opens.made;
  dealt = subst (λ w. AllDealt (words w) 0 r.added) o.opens.words r.dealt;
  moved = λ nu z. absurd (ends nu z);
  shown = λ nu. shown_on (told nu) before.stopped opened.stopped old.stopped o.opens.stopped (r.shown nu);
  ran = λ nu fits E su bound l c. by nu E bound (told nu) (ends nu) (body_came o r nu fits E su bound l c);
})
  where
    by : (nu : Naming) (E : World) (bound : ℕ) (t : Told) → (GoesOn t → ⊥)
        → Comes (in_body (place E bound before) (before.heap.first nu)) (g nu) (enter (once_call before.heap.scope.branch (next_call (before.heap.first nu)))) (rest_of before) r.added (next_of E (draws_in old.made) old.unmade) t (old.heap.first nu) (rest_of old)
        → Comes (place E bound before) (Once (g nu)) (before.heap.first nu) (rest_of before) r.added (next_of E (draws_in old.made) old.unmade) t (old.heap.first nu) (rest_of old)
    by nu E bound (Says o) d z = absurd (d tt)
    by nu E bound (Halts h) d z = halts (once_halted (place E bound before) (g nu) (before.heap.first nu) (rest_of before) (unfound_is o.opens nu) r.added (old.heap.first nu) (rest_of old) (next_of E (draws_in old.made) old.unmade) h (old.heap.first nu) like_same z)
    by nu E bound (Fails why) d z = once_failed (place E bound before) (g nu) (before.heap.first nu) (rest_of before) (unfound_is o.opens nu) r.added (old.heap.first nu) (rest_of old) (next_of E (draws_in old.made) old.unmade) why z

module _ (old new : Moment alone) where
  told_left : (x y : Exit) → y ≡ x → EndsOnce (λ nu. told_exit nu x) old (λ nu. told_exit nu x) new → EndsOnce (λ nu. told_exit nu x) old (λ nu. told_exit nu y) new
  told_left x y e h = subst (λ y. EndsOnce (λ nu. told_exit nu x) old (λ nu. told_exit nu y) new) (sym e) h

  pub left_ends : (x y : Exit) → LeavesBy x y old new → EndsOnce (λ nu. told_exit nu x) old (λ nu. told_exit nu y) new
  left_ends (exit.Throw v) y (inl k) = told_left (exit.Throw v) y k.0 (threw_ends v old new k.1)
  left_ends (exit.Throw v) y (inr l) = lost_ends (λ nu. tt) old new y l
  left_ends (exit.Halted (halt.Refused z)) y (inl k) = told_left (exit.Halted (halt.Refused z)) y k.0 (halted_ends (halt.Refused z) tt old new k.1)
  left_ends (exit.Halted (halt.Refused z)) y (inr l) = lost_ends (λ nu. tt) old new y l
  left_ends (exit.Halted halt.Waits) y (inl k) = told_left (exit.Halted halt.Waits) y k.0 (halted_ends halt.Waits tt old new k.1)
  left_ends (exit.Halted halt.Waits) y (inr l) = lost_ends (λ nu. tt) old new y l
  left_ends (exit.Halted halt.Spent) y k = told_left (exit.Halted halt.Spent) y k.0 (over_ends (λ nu z. z) old new k.1)
  left_ends (exit.Halted (halt.Diverges d)) y k = told_left (exit.Halted (halt.Diverges d)) y k.0 (over_ends (λ nu z. z) old new k.1)
  left_ends (exit.Stopped why) y k = told_left (exit.Stopped why) y k.0 (over_ends (λ nu z. z) old new k.1)

pub end_left : (a : Result Value Exit) (x y : Exit) (old new : Moment alone) → a ≡ Err x → LeavesBy x y old new → EndsOnce (λ nu. told_value nu a) old (λ nu. told_exit nu y) new
end_left a x y old new e k = subst (λ (a : Result Value Exit). EndsOnce (λ nu. told_value nu a) old (λ nu. told_exit nu y) new) (sym e) (left_ends old new x y k)

-- ---- a scope that is left, as the function tells of it

pub left_kept : {X : Type 0} (seen : X → Asked) (drawn : X → ℕ → ℕ) (x : Exit) (old new : AskedRun X) → goes_on x ≡ true → LeavesKeep (heap_of old) (heap_of new) → new.asker ≡ old.asker → new.notes ≡ old.notes → LeavesBy x x (moment_of seen drawn old) (moment_of seen drawn new)
left_kept seen drawn x old new on k asker notes =
    let m = moment_of seen drawn old in
    let n = moment_of seen drawn new in
    subst (λ b. MatchBool b (((x ≡ x) × Left m n) ⊎ Loses x m n) ((x ≡ x) × (n ≡ m))) (sym on)
    (inl (refl, kept_with m n k (λ i. moment_at (heap_of new) (seen (asker i)) (drawn (asker i)) (notes_of (notes i)))))

-- ---- the data of a value is taken

abbrev Answer : Type 0
Answer = Result Data Exit

abbrev SameAnswer : Answer → Answer → Type 0
SameAnswer a b = a ≡ b

err_same : (x y : Exit) (a b : Answer) → a ≡ Err x → b ≡ Err y → a ≡ b → x ≡ y
err_same x y a b e f g = cc

ok_same : (x y : Data) (a b : Answer) → a ≡ Ok x → b ≡ Ok y → a ≡ b → x ≡ y
ok_same x y a b e f g = cc

ok_err : (x : Data) (y : Exit) (a : Answer) → a ≡ Ok x → a ≡ Err y → ⊥
ok_err x y a e f = cc

module _ {g : Naming → Prog} {v : Value} {x : Result Data Exit} {old mid before opened : Moment alone} (o : OpensOnce before opened) (r : Runs g (λ nu. Says (Normal (val_in nu v))) opened old) (t : TakesData v x old mid) (local : Local (cells before) g) where
  was : Went opened old r.added
  was = went_by r (λ nu. tt)

  abbrev come : Naming → Came Data
  come nu = comes_from (taking (val_in nu v)) nu old.heap

  come_holds : (nu : Naming) (c : Came Data) → come nu ≡ c → Holds (old.heap.first nu) old.heap.left c
  come_holds nu c e = subst (Holds (old.heap.first nu) old.heap.left) e (steps_hold (taking (val_in nu v)) old.heap.scope.path old.heap.scope.branch old.heap.scope.body (old.heap.first nu) old.heap.left)

  same_taken : Same old mid
  same_taken = record { later = tt; session = ap (λ (m : Moment alone). m.session) t.rest; trace = ap (λ (m : Moment alone). m.trace) t.rest; pairs = ap (λ (m : Moment alone). m.pairs) t.rest; grows = t.did.stays.grows }

  made_taken : mid.made ≡ old.made
  made_taken = ap (λ (m : Moment alone). m.made) t.rest

  stopped_taken : mid.stopped ≡ old.stopped
  stopped_taken = ap (λ (m : Moment alone). m.stopped) t.rest

  taken_went : mid.heap.left ≤ old.heap.left → Went opened mid r.added
  taken_went l = subst (Went opened mid) (append-nil r.added)
      (went_on was [] same_taken (record { scope = t.did.stays.scope; outer = t.did.stays.outer; below = t.did.stays.below; falls = l }) (made_taken ∙ sym (append-nil old.made)) tt (moves_same (ap (λ (m : Moment alone). m.words) t.rest)) stopped_taken)

  rest_taken : rest_of mid ≡ record (rest_of old) { left = mid.heap.left }
  rest_taken = ap rest_of t.rest

  -- the run of the body, where taking came to something
  taken_at : (nu : Naming) → Fits nu mid.heap.names → (E : World) → Suits E mid → (bound : ℕ) → before.heap.left < bound → Clear nu before → (c : Came Data) → come nu ≡ c → IsKnown c →
      body_at (place E bound before) (g nu) (before.heap.first nu) (rest_of before) ≡ add r.added (told_by (rest_of old) (λ d υ y. res (ended (ret (datum d))) υ y) c)
  taken_at nu fits E su bound lo cl c e known =
      let give : Data → St → Rest → Res = λ d υ y. res (ended (ret (datum d))) υ y in
      body_valued (place E bound before) (g nu) (before.heap.first nu) (rest_of before) (unfound_is o.opens nu) r.added (old.heap.first nu) (rest_of old) (next_of E (draws_in old.made) old.unmade) (val_in nu v)
      (body_came o r nu (fits_before same_taken.grows fits) E (suits_same same_taken made_taken su) bound lo cl)
      ∙ (λ i. add r.added (run_steps (taking (val_in nu v)) E before.trace (sym (path_is o.opens was nu) i) (sym (branch_is o was) i) (sym (in_body_is o was) i) give (old.heap.first nu) (rest_of old)))
      ∙ ap (add r.added) (steps_are (taking (val_in nu v)) E before.trace old.heap.scope.path old.heap.scope.branch old.heap.scope.body give (old.heap.first nu) (rest_of old) (subst IsKnown (sym e) known))
      ∙ ap (λ c. add r.added (told_by (rest_of old) give c)) e

  -- ---- there is none

  lost_later : {y : Exit} (new : Moment alone) → Loses y mid new → Runs (λ nu. Once (g nu)) (λ nu. told_exit nu y) before new
  lost_later {y} new l = lost_ends (λ nu. tt) old new y (record { is = l.is; same = same_trans same_taken l.same; made = l.made ∙ made_taken; stopped = l.stopped ∙ stopped_taken }) g before opened local o r

  taken_refused : (y : model.Refusal) (z : Refusal) → refusal_in z ≡ y → ((nu : Naming) → Fits nu mid.heap.names → come nu ≡ stops y (mid.heap.first nu) mid.heap.left) → (new : Moment alone) → Left mid new → Runs (λ nu. Once (g nu)) (λ nu. Halts (halt.Refused z)) before new
  taken_refused y z is did new k =
      let n = naming mid.heap.names in
      let low : mid.heap.left ≤ old.heap.left = (come_holds n.0 (stops y (mid.heap.first n.0) mid.heap.left) (did n.0 n.1)).0 in
      kept_runs o.opens (taken_went low) k.keeps (λ nu. Once (g nu)) (λ nu. Halts (halt.Refused z)) (λ nu e. e)
      (λ nu fm fits E su bound l c.
      let e = taken_at nu fm E su bound l c (stops y (mid.heap.first nu) mid.heap.left) (did nu fm) tt in
      halts (record {
        out = ended (bar y);
        is = ap (λ y. ended (bar y)) (sym is);
        at = mid.heap.first nu;
        left = mid.heap.left;
        like = like_left (mid.heap.scope.back nu) (k.first_is nu fits);
        fuel = λ z. refl;
        stops = once_stops (place E bound before) (g nu) (before.heap.first nu) (rest_of before) (unfound_is o.opens nu) r.added (mid.heap.first nu) (rest_of mid) (halt.Refused z) (ended (bar y)) (ap (λ y. ended (bar y)) (sym is))
            (e ∙ ap (λ w. add r.added (res (ended (bar y)) (mid.heap.first nu) w)) (sym rest_taken));
      }))

  taken_spent : ((nu : Naming) → Fits nu mid.heap.names → (σ : St) × (l : ℕ) × (come nu ≡ spends σ l) × Kept σ (mid.heap.first nu)) → Runs (λ nu. Once (g nu)) (λ nu. Halts halt.Spent) before mid
  taken_spent did = record {
    same = same_trans (same_now o.opens was) same_taken;
    within = λ nu z. absurd z;
    added = r.added;
    made = made_taken ∙ made_now o.opens was;
    dealt = dealt_now o.opens was;
    moved = λ nu z. absurd z;
    shown = λ nu. stopped_taken ∙ stopped_now o.opens was;
    ran = λ nu fits E su bound l c.
        let q = did nu fits in
        let h = come_holds nu (spends q.0 q.1) q.2 in
        halts (record {
          out = halted spent;
          is = refl;
          at = q.0;
          left = q.1;
          like = record { text = sym q.3.text; verdict = sym q.3.verdict; gone = h.2 ∙ sym (t.gone nu) };
          fuel = λ z. absurd z;
          stops = once_stops (place E bound before) (g nu) (before.heap.first nu) (rest_of before) (unfound_is o.opens nu) r.added q.0 (record (rest_of mid) { left = q.1 }) halt.Spent (halted spent) refl
              (taken_at nu fits E su bound l c (spends q.0 q.1) q.2 tt ∙ ap (λ w. add r.added (res (halted spent) q.0 (record w { left = q.1 }))) (sym rest_taken));
        });
  }

  refused_left : (y : model.Refusal) (z : Refusal) → refusal_in z ≡ y → ((nu : Naming) → Fits nu mid.heap.names → come nu ≡ stops y (mid.heap.first nu) mid.heap.left) → (e : Exit) (new : Moment alone) → LeavesBy (exit.Halted (halt.Refused z)) e mid new
      → Runs (λ nu. Once (g nu)) (λ nu. told_exit nu e) before new
  refused_left y z is did e new (inl k) = subst (λ e. Runs (λ nu. Once (g nu)) (λ nu. told_exit nu e) before new) (sym k.0) (taken_refused y z is did new k.1)
  refused_left y z is did e new (inr l) = lost_later new l

  left_as : (x y e : Exit) (new : Moment alone) → SameAnswer (Err x) (Err y) → LeavesBy y e mid new → LeavesBy x e mid new
  left_as x y e new is k = subst (λ y. LeavesBy y e mid new) (sym (err_same x y (Err x) (Err y) refl refl is)) k

  none_taken : (y e : Exit) (new : Moment alone) (a : Result (Option Data) OpStop) → ((nu : Naming) → Fits nu mid.heap.names → Did (come nu) (told_taken (λ d. d) a) (mid.heap.first nu) mid.heap.left) → gift_at a ≡ Err y → LeavesBy y e mid new
      → Runs (λ nu. Once (g nu)) (λ nu. told_exit nu e) before new
  none_taken y e new (Ok (Some d)) did is k = absurd (ok_err d y (Ok d) refl is)
  none_taken y e new (Ok None) did is k = refused_left model.NotData refusal.NotData refl did e new (left_as (exit.Halted (halt.Refused refusal.NotData)) y e new is k)
  none_taken y e new (Err heap.NotWhole) did is k = refused_left model.NotWhole refusal.NotWhole refl did e new (left_as (exit_at heap.NotWhole) y e new is k)
  none_taken y e new (Err heap.NoPrimitive) did is k = refused_left model.NoPrimitive refusal.NoPrimitive refl did e new (left_as (exit_at heap.NoPrimitive) y e new is k)
  none_taken y e new (Err heap.TooLong) did is k = refused_left model.TooLong refusal.TooLong refl did e new (left_as (exit_at heap.TooLong) y e new is k)
  none_taken y e new (Err heap.Spent) did is k =
      let h = left_as (exit_at heap.Spent) y e new is k in
      subst (λ e. Runs (λ nu. Once (g nu)) (λ nu. told_exit nu e) before new) (sym h.0) (subst (λ m. Runs (λ nu. Once (g nu)) (λ nu. Halts halt.Spent) before m) (sym h.1) (taken_spent did))
  none_taken y e new (Err heap.Memory) did is k =
      let h = left_as (exit_at heap.Memory) y e new is k in
      lost_later new (record { is = h.0; same = subst (Same mid) (sym h.1) same_refl; made = ap (λ (m : Moment alone). m.made) h.1; stopped = ap (λ (m : Moment alone). m.stopped) h.1 })

  pub taken_left : (y e : Exit) (new : Moment alone) → x ≡ Err y → LeavesBy y e mid new → Runs (λ nu. Once (g nu)) (λ nu. told_exit nu e) before new
  taken_left y e new is k = none_taken y e new t.answer t.did.did (sym t.is ∙ is) k

  -- ---- it has one

  module _ (d : Data) (is : x ≡ Ok d) where
    gives : (nu : Naming) → Fits nu mid.heap.names → come nu ≡ goes d (mid.heap.first nu) mid.heap.left
    gives nu fits = by t.answer (t.did.did nu fits) (sym t.is ∙ is)
      where
        by : (a : Result (Option Data) OpStop) → Did (come nu) (told_taken (λ d. d) a) (mid.heap.first nu) mid.heap.left → gift_at a ≡ Ok d → come nu ≡ goes d (mid.heap.first nu) mid.heap.left
        by (Ok (Some e)) h q = h ∙ ap (λ d. goes d (mid.heap.first nu) mid.heap.left) (ok_same e d (Ok e) (Ok d) refl refl q)
        by (Ok None) h q = absurd (ok_err d (exit.Halted (halt.Refused refusal.NotData)) (Ok d) refl (sym q))
        by (Err why) h q = absurd (ok_err d (exit_at why) (Ok d) refl (sym q))

    went : Went opened mid r.added
    went = taken_went (let n = naming mid.heap.names in (come_holds n.0 (goes d (mid.heap.first n.0) mid.heap.left) (gives n.0 n.1)).0)

    abbrev mu : Naming
    mu = its_naming o.opens went

    gave_at : (E : World) → Suits E mid → (bound : ℕ) → before.heap.left < bound → Clear mu before →
        body_at (place E bound before) (g mu) (before.heap.first mu) (rest_of before) ≡ add r.added (res (ended (ret (datum d))) (mid.heap.first mu) (rest_of mid))
    gave_at E su bound lo c =
        let fits : Fits mu mid.heap.names = fits_its o.opens went in
        taken_at mu fits E su bound lo c (goes d (mid.heap.first mu) mid.heap.left) (gives mu fits) tt ∙ ap (λ w. add r.added (res (ended (ret (datum d))) (mid.heap.first mu) w)) (sym rest_taken)

    abbrev what : Rec
    what = rec mid.heap.scope.path (kept.Once d)

    -- the record comes next
    cut_at : (nu : Naming) → Fits nu before.heap.names → (E : World) → Suits E mid → (bound : ℕ) → before.heap.left < bound → Clear nu before → Cuts (place E bound before) (Once (g nu)) (before.heap.first nu) (rest_of before) r.added (makes what)
    cut_at nu fits E su bound lo c =
        let P = place E bound before in
        let e = once_refused P (g mu) (before.heap.first mu) (rest_of before) (unfound_is o.opens mu) r.added (mid.heap.first mu) (rest_of mid) d (gave_at E su bound lo (clear_its o.opens went nu fits c)) in
        subst (λ σ. Cuts P (Once (g nu)) σ (rest_of before) r.added (makes what)) (own_is o.opens went nu fits)
        (subst (λ q. Cuts P (Once q) (before.heap.first mu) (rest_of before) r.added (makes what)) (program_is o.opens went local nu fits)
        (subst (λ q. Cuts P (Once (g mu)) (before.heap.first mu) (rest_of before) r.added (makes (rec q (kept.Once d)))) (sym (path_is o.opens went mu)) e))

    shown_by : (why : AskStop) → IsShown (Fails why) before.stopped (Some why)
    shown_by (stop.Fault which) = refl
    shown_by (stop.Diverged e) = refl
    shown_by stop.TraceFull = refl
    shown_by stop.LogFull = refl
    shown_by stop.Memory = inr refl

    cut_as : {c : Place} {f : Prog} {σ : St} {w : Rest} {l : List Rec} (E : World) (drawn : ℕ) (why : AskStop) → Cuts c f σ w l (makes what) → Cuts c f σ w l (next_of E drawn (keeping mid.heap.scope.path d) why)
    cut_as E drawn (stop.Fault which) h = h
    cut_as E drawn (stop.Diverged e) h = h
    cut_as E drawn stop.TraceFull h = h
    cut_as E drawn stop.LogFull h = h
    cut_as E drawn stop.Memory h = record { holds = λ k. front_trans (front (what ∷ []) refl) (h.holds k) }

    abbrev unrecorded : AskStop → Moment alone
    unrecorded why = record mid { stopped = Some why; unmade = keeping mid.heap.scope.path d }

    refused_runs : (why : AskStop) → Runs (λ nu. Once (g nu)) (λ nu. Fails why) before (unrecorded why)
    refused_runs why =
        let s = same_now o.opens went in
        run_fails why r.added (record { later = tt; session = s.session; trace = s.trace; pairs = s.pairs; grows = s.grows }) (made_now o.opens went) (dealt_now o.opens went) (shown_by why)
        (λ nu fits E su bound lo c. cut_as E (draws_in mid.made) why (cut_at nu (fits_before s.grows fits) E (record { session = su.session; pairs = su.pairs; dealt = su.dealt }) bound lo c))

    pub unmade_runs : (why : AskStop) (e : Exit) (new : Moment alone) → Refuses (keeping mid.heap.scope.path d) why e mid new → Runs (λ nu. Once (g nu)) (λ nu. told_exit nu e) before new
    unmade_runs why e new (inl (q, n)) =
        subst (λ e. Runs (λ nu. Once (g nu)) (λ nu. told_exit nu e) before new) (sym q) (subst (λ m. Runs (λ nu. Once (g nu)) (λ nu. Fails why) before m) (sym n) (refused_runs why))
    unmade_runs why e new (inr l) = lost_later new l

    -- ---- the record was made

    abbrev noted : Moment alone
    noted = recorded mid.heap.scope.path d mid

    abbrev all : List Rec
    all = r.added ++ what ∷ []

    noted_went : Went opened noted all
    noted_went = went_on went (what ∷ []) (record { later = tt; session = refl; trace = refl; pairs = refl; grows = λ i n e. e }) (record { scope = refl; outer = refl; below = (within_refl {m = mid}).below; falls = le_refl mid.heap.left }) refl (tt, tt)
        (record { on = λ k. ap mid.words (omega arith) }) refl

    front_dealt : (dice : Draws) (k : ℕ) (l m : List Rec) → AllDealt dice k (l ++ m) → AllDealt dice k l
    front_dealt dice k [] m h = tt
    front_dealt dice k (rec p z ∷ l) m h = (h.0, front_dealt dice (drawn_by z k) l m h.1)

    suits_mid : {E : World} {new : Moment alone} → new.session ≡ mid.session → new.pairs ≡ mid.pairs → new.made ≡ mid.made ++ what ∷ [] → Suits E new → Suits E mid
    suits_mid {E} s p made su = record { session = su.session ∙ s; pairs = su.pairs ∙ p; dealt = front_dealt E.dice 0 mid.made (what ∷ []) (subst (λ l. AllDealt E.dice 0 l) made su.dealt) }

    cut_more : {c : Place} {f : Prog} {σ : St} {w : Rest} → Cuts c f σ w r.added (makes what) → Cuts c f σ w all unknown
    cut_more h = record { holds = h.holds }

    noted_lost : (e : Exit) (new : Moment alone) → Loses e noted new → Runs (λ nu. Once (g nu)) (λ nu. told_exit nu e) before new
    noted_lost e new l =
        let same = same_trans (same_now o.opens noted_went) l.same in
        subst (λ e. Runs (λ nu. Once (g nu)) (λ nu. told_exit nu e) before new) (sym l.is)
        (run_fails stop.Memory all same (l.made ∙ made_now o.opens noted_went) (dealt_now o.opens noted_went) (inl (l.stopped ∙ stopped_now o.opens noted_went))
        (λ nu fits E su bound lo c. cut_more (cut_at nu (fits_before same.grows fits) E (suits_mid l.same.session l.same.pairs l.made su) bound lo c)))

    -- ---- the data is put anew

    draws_once : (l : List Rec) → draws_in (l ++ what ∷ []) ≡ draws_in l
    draws_once [] = refl
    draws_once (rec p z ∷ l) = ap (drawn_by z) (draws_once l)

    module _ {y : Result Value Exit} {new : Moment alone} (k : PutsBack d y noted new) where
      same_put : Same before new
      same_put =
          let s = same_now o.opens noted_went in
          record { later = tt; session = ap (λ (m : Moment alone). m.session) k.rest ∙ s.session; trace = ap (λ (m : Moment alone). m.trace) k.rest ∙ s.trace; pairs = ap (λ (m : Moment alone). m.pairs) k.rest ∙ s.pairs; grows = λ i n e. k.did.stays.grows i n ((same_back o.opens noted_went k.leaves k.was k.is_told).grows i n e) }

      made_put : new.made ≡ before.made ++ all
      made_put = ap (λ (m : Moment alone). m.made) k.rest ∙ made_now o.opens noted_went

      stopped_put : new.stopped ≡ before.stopped
      stopped_put = ap (λ (m : Moment alone). m.stopped) k.rest ∙ stopped_now o.opens noted_went

      suits_put : {E : World} → Suits E new → Suits E mid
      suits_put su = suits_mid (ap (λ (m : Moment alone). m.session) k.rest) (ap (λ (m : Moment alone). m.pairs) k.rest) (ap (λ (m : Moment alone). m.made) k.rest) su

      rest_put : rest_of new ≡ record (rest_of mid) { left = new.heap.left }
      rest_put = ap rest_of k.rest ∙ (λ i. record (rest_of mid) { left = new.heap.left; drawn = draws_once mid.made i })

      abbrev put_come : Naming → Came Val
      put_come nu = comes_from (put_data d) nu k.mid

      put_at : (nu : Naming) → Fits nu new.heap.names → (E : World) → Suits E new → (bound : ℕ) → before.heap.left < bound → Clear nu before → (c : Came Val) → put_come nu ≡ c → IsKnown c → (on : Outcome → St → Rest → Res) →
          run_at (place E bound before) (Once (g nu)) on (before.heap.first nu) (rest_of before) ≡ add all (told_by (record (rest_of mid) { left = k.mid.left }) (λ v υ w. on (Normal v) υ w) c)
      put_at nu fits E su bound lo cl c e known on =
          let P = place E bound before in
          let s = before.heap.scope in
          let go : Val → St → Rest → Res = λ v υ w. on (Normal v) υ w in
          let fb : Fits nu before.heap.names = fits_before same_put.grows fits in
          let scope = sym (scope_back o.opens noted_went k.leaves k.was k.is_told) in
          let first = sym (first_back o.opens noted_went k.leaves k.was k.is_told nu fb) in
          let left = sym k.leaves.left in
          let at_mu = once_gave P (g mu) (before.heap.first mu) (rest_of before) (unfound_is o.opens mu) r.added (mid.heap.first mu) (rest_of mid) d (gave_at E (suits_put su) bound lo (clear_its o.opens went nu fb cl)) on in
          subst (λ σ. run_at P (Once (g nu)) on σ (rest_of before) ≡ add (r.added ++ rec (sub σ.calls s.path) (kept.Once d) ∷ []) (run_steps (put_data d) E before.trace s.path s.branch s.body go (once_call s.branch (next_call σ)) (rest_of mid))) (own_is o.opens went nu fb)
          (subst (λ q. run_at P (Once q) on (before.heap.first mu) (rest_of before) ≡ add (r.added ++ rec (sub (before.heap.first mu).calls s.path) (kept.Once d) ∷ []) (run_steps (put_data d) E before.trace s.path s.branch s.body go (once_call s.branch (next_call (before.heap.first mu))) (rest_of mid)))
          (program_is o.opens went local nu fb) at_mu)
          ∙ (λ i. add (r.added ++ rec (sym (path_is o.opens went nu) i) (kept.Once d) ∷ []) (run_steps (put_data d) E before.trace (scope i).path (scope i).branch (scope i).body go (first i) (record (rest_of mid) { left = left i })))
          ∙ ap (add all) (steps_are (put_data d) E before.trace k.mid.scope.path k.mid.scope.branch k.mid.scope.body go (k.mid.first nu) (record (rest_of mid) { left = k.mid.left }) (subst IsKnown (sym e) known))
          ∙ ap (λ c. add all (told_by (record (rest_of mid) { left = k.mid.left }) go c)) e

      put_holds : (nu : Naming) (c : Came Val) → put_come nu ≡ c → Holds (k.mid.first nu) k.mid.left c
      put_holds nu c e = subst (Holds (k.mid.first nu) k.mid.left) e (steps_hold (put_data d) k.mid.scope.path k.mid.scope.branch k.mid.scope.body (k.mid.first nu) k.mid.left)

      put_within : new.heap.left ≤ k.mid.left → Within before new
      put_within low =
          let back = within_back o.opens noted_went k.leaves k.was k.is_told in
          let w = within_trans {c = record before { heap = new.heap }} (record { later = tt; session = refl; trace = refl; pairs = refl; grows = k.did.stays.grows }) back (record { scope = k.did.stays.scope; outer = k.did.stays.outer; below = k.did.stays.below; falls = low }) in
          record { scope = w.scope; outer = w.outer; below = w.below; falls = w.falls }

      put_fell : (c : Naming → Came Val) → ((nu : Naming) → Fits nu new.heap.names → put_come nu ≡ c nu) → ((nu : Naming) → Holds (k.mid.first nu) k.mid.left (c nu) → new.heap.left ≤ k.mid.left) → new.heap.left ≤ k.mid.left
      put_fell c e h = let n = naming new.heap.names in h n.0 (put_holds n.0 (c n.0) (e n.0 n.1))

      put_refused : (y : model.Refusal) (z : Refusal) → refusal_in z ≡ y → ((nu : Naming) → Fits nu new.heap.names → put_come nu ≡ stops y (new.heap.first nu) new.heap.left) → Runs (λ nu. Once (g nu)) (λ nu. Halts (halt.Refused z)) before new
      put_refused y z is did = record {
        same = same_put;
        within = λ nu z. put_within (put_fell (λ nu. stops y (new.heap.first nu) new.heap.left) did (λ nu h. h.0));
        added = all;
        made = made_put;
        dealt = dealt_now o.opens noted_went;
        moved = λ nu z. moves_now o.opens noted_went new (ap (λ (m : Moment alone). m.words) k.rest);
        shown = λ nu. stopped_put;
        ran = λ nu fits E su bound l c. halts (record {
          out = ended (bar y);
          is = ap (λ y. ended (bar y)) (sym is);
          at = new.heap.first nu;
          left = new.heap.left;
          like = like_same;
          fuel = λ z. refl;
          stops = record { holds = λ on. put_at nu fits E su bound l c (stops y (new.heap.first nu) new.heap.left) (did nu fits) tt on ∙ ap (λ w. add all (res (ended (bar y)) (new.heap.first nu) w)) (sym rest_put) };
        });
      }

      put_spent : ((nu : Naming) → Fits nu new.heap.names → (σ : St) × (l : ℕ) × (put_come nu ≡ spends σ l) × Kept σ (new.heap.first nu)) → Runs (λ nu. Once (g nu)) (λ nu. Halts halt.Spent) before new
      put_spent did = record {
        same = same_put;
        within = λ nu z. absurd z;
        added = all;
        made = made_put;
        dealt = dealt_now o.opens noted_went;
        moved = λ nu z. absurd z;
        shown = λ nu. stopped_put;
        ran = λ nu fits E su bound l c.
            let q = did nu fits in
            let h = put_holds nu (spends q.0 q.1) q.2 in
            halts (record {
              out = halted spent;
              is = refl;
              at = q.0;
              left = q.1;
              like = record { text = sym q.3.text; verdict = sym q.3.verdict; gone = h.2 ∙ sym (k.gone nu) };
              fuel = λ z. absurd z;
              stops = record { holds = λ on. put_at nu fits E su bound l c (spends q.0 q.1) q.2 tt on ∙ ap (λ w. add all (res (halted spent) q.0 (record w { left = q.1 }))) (sym rest_put) };
            });
      }

      put_valued : (v : Value) → ((nu : Naming) → Fits nu new.heap.names → put_come nu ≡ goes (val_in nu v) (new.heap.first nu) new.heap.left) → Runs (λ nu. Once (g nu)) (λ nu. Says (Normal (val_in nu v))) before new
      put_valued v did = record {
        same = same_put;
        within = λ nu z. put_within (put_fell (λ nu. goes (val_in nu v) (new.heap.first nu) new.heap.left) did (λ nu h. h.0));
        added = all;
        made = made_put;
        dealt = dealt_now o.opens noted_went;
        moved = λ nu z. moves_now o.opens noted_went new (ap (λ (m : Moment alone). m.words) k.rest);
        shown = λ nu. stopped_put;
        ran = λ nu fits E su bound l c. says (record {
          holds = λ on. put_at nu fits E su bound l c (goes (val_in nu v) (new.heap.first nu) new.heap.left) (did nu fits) tt on ∙ ap (λ w. add all (on (Normal (val_in nu v)) (new.heap.first nu) w)) (sym rest_put);
        });
      }

      put_lost : Runs (λ nu. Once (g nu)) (λ nu. Fails stop.Memory) before new
      put_lost = run_fails stop.Memory all same_put made_put (dealt_now o.opens noted_went) (inl stopped_put) (λ nu fits E su bound lo c. cut_more (cut_at nu (fits_before same_put.grows fits) E (suits_put su) bound lo c))

      put_runs : (a : Result Value OpStop) → ((nu : Naming) → Fits nu new.heap.names → Did (put_come nu) (does.told (val_in nu) a) (new.heap.first nu) new.heap.left) → Runs (λ nu. Once (g nu)) (λ nu. told_value nu (answer_at a)) before new
      put_runs (Ok v) did = put_valued v did
      put_runs (Err heap.NotWhole) did = put_refused model.NotWhole refusal.NotWhole refl did
      put_runs (Err heap.NoPrimitive) did = put_refused model.NoPrimitive refusal.NoPrimitive refl did
      put_runs (Err heap.TooLong) did = put_refused model.TooLong refusal.TooLong refl did
      put_runs (Err heap.Spent) did = put_spent did
      put_runs (Err heap.Memory) did = put_lost

    pub kept_runs_on : (y : Result Value Exit) (new : Moment alone) → KeepsData d y mid new → Runs (λ nu. Once (g nu)) (λ nu. told_value nu y) before new
    kept_runs_on y new (inl (inl k)) = subst (λ y. Runs (λ nu. Once (g nu)) (λ nu. told_value nu y) before new) (sym k.is) (put_runs k k.answer k.did.did)
    kept_runs_on y new (inl (inr (e, q, l))) = subst (λ y. Runs (λ nu. Once (g nu)) (λ nu. told_value nu y) before new) (sym q) (noted_lost e new l)
    kept_runs_on y new (inr (e, q, (why, h))) = subst (λ y. Runs (λ nu. Once (g nu)) (λ nu. told_value nu y) before new) (sym q) (unmade_runs why e new h)

-- ---- a body that gave a value, as the functions tell of it

pub left_gave : (v : Value) (y e : Exit) (old mid new : Moment alone) → TakesData v (Err y) old mid → LeavesBy y e mid new → EndsOnce (λ nu. Says (Normal (val_in nu v))) old (λ nu. told_exit nu e) new
left_gave v y e old mid new t k g before opened local o r = taken_left o r t local y e new refl k

pub kept_gave : (v : Value) (d : Data) (y : Result Value Exit) (old mid new : Moment alone) → TakesData v (Ok d) old mid → KeepsData d y mid new → EndsOnce (λ nu. Says (Normal (val_in nu v))) old (λ nu. told_value nu y) new
kept_gave v d y old mid new t k g before opened local o r = kept_runs_on o r t local d refl y new k
