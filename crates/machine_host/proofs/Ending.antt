-- Scopes that were opened for a call, and end.
use Rattle.std.specs.Prelude.{Bool, false, slice_get, Result, Ok, Err, OnOk, IfErr}
use Rattle.std.proofs.Common.{inl, ◌≡◌, IsErrAnd, ◌<◌, ℕ, refl, sym, ap, subst, ◌∙◌, arith, ◌++◌}
use Rattle.turk_base.specs.Names.{Path, sub}
use Rattle.turk_base.specs.Prog.{Prog, Fork}
use Rattle.turk_base.specs.State.{St, any_gone, next_call, enter, leave, give_value, cut_all, threw, absent}
use Rattle.turk_base.specs.Values.{Val, Undefined, Normal, Throw}
use Rattle.js_tree.specs.Run.{forked}
use Rattle.js_tree.specs.World.{words, World}
use Rattle.run_laws.proofs.Sequel.{Ends}
use Rattle.run_laws.proofs.Cuts.{in_branch}
use Rattle.ask_model.specs.declared.AskStop.TheVariants as stop
use Rattle.value_cells.specs.declared.Value.{Value}
use Rattle.value_cells.specs.Seen.{val_in, Naming, Fits}
use Rattle.run_host.specs.declared.Exit.{Exit}
use Rattle.run_host.specs.declared.Exit.TheVariants as exit
use Rattle.run_host.specs.declared.Halt.TheVariants as halt
use Rattle.run_host.specs.declared.Refusal.{Refusal}
use Rattle.run_host.specs.Moment.{alone, Moment, cells, rest_of, draws_in, AllDealt, Suits, Clear, place, Same, Within}
use Rattle.run_host.specs.Told.{Told, Says, Halts, Fails, GoesOn, next_of, told_exit}
use Rattle.run_host.specs.Ends.{Comes, says, halts}
use Rattle.run_host.specs.Did.{Runs}
use Rattle.run_host.specs.Scopes.{Local, OpensFork, told_fork}
use Rattle.run_host.proofs.Moments.{shown_on, fits_before, same_trans}
use Rattle.machine_host.specs.Leaving.{LeftKeep, LeftBack, LeftWith, joined_in, EndsFork}
use Rattle.machine_host.specs.Asking.{Loses}
use Rattle.machine_host.proofs.Scoped.{Went, went_by, run_fails, suits_same, same_opened, unfound_is, clear_opened, made_now, stopped_now, dealt_now, moves_now, fits_now, path_is, back_is, kept_runs, its_naming, fits_its, own_is, program_is, clear_its, same_back, within_back, first_back}
use Rattle.machine_host.proofs.Branched.{EndsAbsent, EndsRun, fork_absent, fork_joined, fork_threw, fork_refused, fork_ends, fork_lost}

-- ---- branches

module _ {g : Naming → Prog} {told : Naming → Told} {before opened ended : Moment alone} (o : OpensFork before opened) (r : Runs g told opened ended) where
  place_is : (E : World) (bound : ℕ) (nu : Naming) → place E bound opened ≡ in_branch (place E bound before) (before.heap.first nu)
  place_is E bound nu = λ i. record { world = E; trace = o.opens.trace i; bound = bound; scope = o.opens.path nu i; branch = (o.branch ∙ o.opens.path nu) i; body = o.body i }

  rest_is : rest_of opened ≡ forked (rest_of before)
  rest_is = λ i. record { left = o.opens.left i; drawn = draws_in (o.opens.made i); forks = o.forks i; waits = o.opens.waits i }

  same_ended : Same before ended
  same_ended = same_trans (same_opened o.opens) r.same

  pub branch_came : (nu : Naming) → Fits nu ended.heap.names → (E : World) → Suits E ended → (bound : ℕ) → before.heap.left < bound → Clear nu before →
      Comes (in_branch (place E bound before) (before.heap.first nu)) (g nu) (enter (next_call (before.heap.first nu))) (forked (rest_of before)) r.added (next_of E (draws_in ended.made) ended.unmade) (told nu) (ended.heap.first nu) (rest_of ended)
  branch_came nu fits E su bound l c =
      let next = next_of E (draws_in ended.made) ended.unmade in
      let fb : Fits nu before.heap.names = fits_before same_ended.grows fits in
      let low : opened.heap.left < bound = (let e = o.opens.left in omega (arith, l, e)) in
      subst (λ p. Comes p (g nu) (enter (next_call (before.heap.first nu))) (forked (rest_of before)) r.added next (told nu) (ended.heap.first nu) (rest_of ended)) (place_is E bound nu)
      (subst (λ s. Comes (place E bound opened) (g nu) s (forked (rest_of before)) r.added next (told nu) (ended.heap.first nu) (rest_of ended)) (o.opens.first nu fb)
      (subst (λ x. Comes (place E bound opened) (g nu) (opened.heap.first nu) x r.added next (told nu) (ended.heap.first nu) (rest_of ended)) rest_is
      (r.ran nu fits E su bound low (clear_opened o.opens nu c))))

  -- the branch ended the run
  pub ends_run : ((nu : Naming) → EndsRun (told nu)) → Runs (λ nu. Fork (g nu)) told before ended
  ends_run d = record {
    same = same_ended;
    within = λ nu z. absurd (no_more (told nu) (d nu) z);
    added = r.added;
    made = r.made ∙ ap (λ l. l ++ r.added) o.opens.made;
    dealt = subst (λ w. AllDealt (words w) 0 r.added) o.opens.words r.dealt;
    moved = λ nu z. absurd (no_more (told nu) (d nu) z);
    shown = λ nu. shown_on (told nu) before.stopped opened.stopped ended.stopped o.opens.stopped (r.shown nu);
    ran = λ nu fits E su bound l c. fork_ends (place E bound before) (g nu) (before.heap.first nu) (rest_of before) o.here (unfound_is o.opens nu) r.added (ended.heap.first nu) (rest_of ended) (next_of E (draws_in ended.made) ended.unmade) (told nu) (branch_came nu fits E su bound l c) (d nu);
  }
    where
      no_more : (t : Told) → EndsRun t → GoesOn t → ⊥
      no_more (Says v) d z = absurd d
      no_more (Halts (halt.Refused y)) d z = absurd d
      no_more (Halts halt.Waits) d z = absurd d
      no_more (Halts halt.Spent) d z = absurd z
      no_more (Halts (halt.Diverges y)) d z = absurd z
      no_more (Fails why) d z = absurd z

  module _ (goes : (nu : Naming) → GoesOn (told nu)) where
    went : Went opened ended r.added
    went = went_by r goes

    gone_at : (nu : Naming) (b : Bool) → any_gone ended.heap.scope.path (ended.heap.first nu).gone ≡ b → any_gone (sub (before.heap.first nu).calls before.heap.scope.path) (ended.heap.first nu).gone ≡ b
    gone_at nu b d = ap (λ p. any_gone p (ended.heap.first nu).gone) (sym (path_is o.opens went nu)) ∙ d

    -- memory ran out
    pub ends_lost : (new : Moment alone) → Same ended new → new.made ≡ ended.made → new.stopped ≡ ended.stopped → Runs (λ nu. Fork (g nu)) (λ nu. Fails stop.Memory) before new
    ends_lost new same made stopped = run_fails stop.Memory r.added (same_trans same_ended same) (made ∙ made_now o.opens went) (dealt_now o.opens went) (inl (stopped ∙ stopped_now o.opens went))
        (λ nu fits E su bound l c. fork_lost (place E bound before) (g nu) (before.heap.first nu) (rest_of before) o.here (unfound_is o.opens nu) r.added (ended.heap.first nu) (rest_of ended) (next_of E (draws_in ended.made) ended.unmade) (told nu)
        (branch_came nu (fits_before same.grows fits) E (suits_same same made su) bound l c) (goes nu))

    -- the branch is taken back
    module _ {p : Path} {new : Moment alone} (k : LeftBack (absent p) ended new) where
      same_left : Same before new
      same_left = record {
        later = tt;
        session = ap (λ (m : Moment alone). m.session) k.rest ∙ same_ended.session;
        trace = ap (λ (m : Moment alone). m.trace) k.rest ∙ same_ended.trace;
        pairs = ap (λ (m : Moment alone). m.pairs) k.rest ∙ same_ended.pairs;
        grows = λ i n e. ap (λ l. slice_get l i) k.changes.names ∙ (same_back o.opens went k.leaves k.was k.is).grows i n e;
      }

      within_left : Within before new
      within_left =
          let w = within_back o.opens went k.leaves k.was k.is in
          record {
            scope = k.changes.scope ∙ w.scope;
            outer = k.changes.outer ∙ w.outer;
            below = λ i n e l. w.below i n (ap (λ q. slice_get q i) (sym k.changes.names) ∙ e) l;
            falls = (let a = k.changes.left in let c = w.falls in omega (arith, a, c));
          }

      rest_left : rest_of new ≡ rest_of ended
      rest_left = ap rest_of k.rest ∙ (λ i. record (rest_of ended) { left = (k.changes.left ∙ k.leaves.left) i })

      suits_left : (E : World) → Suits E new → Suits E ended
      suits_left E su = record {
        session = su.session ∙ ap (λ (m : Moment alone). m.session) k.rest;
        pairs = su.pairs ∙ ap (λ (m : Moment alone). m.pairs) k.rest;
        dealt = subst (λ l. AllDealt E.dice 0 l) (ap (λ (m : Moment alone). m.made) k.rest) su.dealt;
      }

      pub ends_absent : p ≡ ended.heap.scope.path → ((nu : Naming) → Fits nu ended.heap.names → EndsAbsent (told nu) (any_gone ended.heap.scope.path (ended.heap.first nu).gone)) → Local (cells before) g
          → Runs (λ nu. Fork (g nu)) (λ nu. Says (Normal Undefined)) before new
      ends_absent is d local = record {
        same = same_left;
        within = λ nu z. within_left;
        added = r.added;
        made = ap (λ (m : Moment alone). m.made) k.rest ∙ made_now o.opens went;
        dealt = dealt_now o.opens went;
        moved = λ nu z. moves_now o.opens went new (ap (λ (m : Moment alone). m.words) k.rest);
        shown = λ nu. ap (λ (m : Moment alone). m.stopped) k.rest ∙ stopped_now o.opens went;
        ran = λ nu fits E su bound l c.
            let s = before.heap.scope.path in
            let fb : Fits nu before.heap.names = fits_before same_left.grows fits in
            let m = its_naming o.opens went in
            let fm : Fits m ended.heap.names = fits_its o.opens went in
            let own : before.heap.first m ≡ before.heap.first nu = own_is o.opens went nu fb in
            let came = branch_came m fm E (suits_left E su) bound l (clear_its o.opens went nu fb c) in
            let e = fork_absent (place E bound before) (g m) (before.heap.first m) (rest_of before) o.here (unfound_is o.opens m) r.added (ended.heap.first m) (rest_of ended) (next_of E (draws_in ended.made) ended.unmade) (told m) came
            (subst (EndsAbsent (told m)) (ap (λ q. any_gone q (ended.heap.first m).gone) (path_is o.opens went m)) (d m fm)) in
            let last : new.heap.first nu ≡ absent (sub (before.heap.first nu).calls s) (next_call (before.heap.first nu)) =
            k.changes.first nu fits ∙ (λ i. absent ((is ∙ path_is o.opens went nu) i) (first_back o.opens went k.leaves k.was k.is nu fb i)) in
            subst (λ x. Comes (place E bound before) (Fork (g nu)) (before.heap.first nu) (rest_of before) r.added (next_of E (draws_in new.made) new.unmade) (Says (Normal Undefined)) (new.heap.first nu) x) (sym rest_left)
            (says (subst (λ t. Ends (place E bound before) (Fork (g nu)) (Normal Undefined) (before.heap.first nu) (rest_of before) t (rest_of ended) r.added) (sym last)
            (subst (λ q. Ends (place E bound before) (Fork (g nu)) (Normal Undefined) q (rest_of before) (absent (sub q.calls s) (next_call q)) (rest_of ended) r.added) own
            (subst (λ q. Ends (place E bound before) (Fork q) (Normal Undefined) (before.heap.first m) (rest_of before) (absent (sub (before.heap.first m).calls s) (next_call (before.heap.first m))) (rest_of ended) r.added) (program_is o.opens went local nu fb) e))));
      }

    -- no branch is absent in it
    module _ {new : Moment alone} (k : LeftKeep ended new) (there_are : (nu : Naming) → Fits nu ended.heap.names → any_gone ended.heap.scope.path (ended.heap.first nu).gone ≡ false) where
      joined_is : (nu : Naming) → Fits nu ended.heap.names → leave (ended.heap.scope.back nu) (cut_all ended.heap.scope.path (ended.heap.first nu))
          ≡ leave (next_call (before.heap.first nu)) (cut_all (sub (before.heap.first nu).calls before.heap.scope.path) (ended.heap.first nu))
      joined_is nu fits = λ i. leave (back_is o.opens went nu (fits_now o.opens went fits) i) (cut_all (path_is o.opens went nu i) (ended.heap.first nu))

      pub ends_joined : (v : Naming → Val) → ((nu : Naming) → told nu ≡ Says (Normal (v nu)))
          → ((nu : Naming) → Fits nu new.heap.names → new.heap.first nu ≡ give_value (v nu) (leave (ended.heap.scope.back nu) (cut_all ended.heap.scope.path (ended.heap.first nu))))
          → Runs (λ nu. Fork (g nu)) (λ nu. Says (Normal Undefined)) before new
      ends_joined v is first = kept_runs o.opens went k (λ nu. Fork (g nu)) (λ nu. Says (Normal Undefined)) (λ nu e. e)
          (λ nu fe fits E su bound l c.
          let next = next_of E (draws_in ended.made) ended.unmade in
          let p = place E bound before in
          let came = subst (λ t. Comes (in_branch p (before.heap.first nu)) (g nu) (enter (next_call (before.heap.first nu))) (forked (rest_of before)) r.added next t (ended.heap.first nu) (rest_of ended)) (is nu) (branch_came nu fe E su bound l c) in
          let e = fork_joined p (g nu) (before.heap.first nu) (rest_of before) o.here (unfound_is o.opens nu) r.added (ended.heap.first nu) (rest_of ended) next (v nu) came (gone_at nu false (there_are nu fe)) in
          says (subst (λ t. Ends p (Fork (g nu)) (Normal Undefined) (before.heap.first nu) (rest_of before) t (rest_of ended) r.added) (sym (first nu fits ∙ ap (give_value (v nu)) (joined_is nu fe))) e))

      pub ends_thrown : (v : Naming → Val) → ((nu : Naming) → told nu ≡ Says (Throw (v nu)))
          → ((nu : Naming) → Fits nu new.heap.names → new.heap.first nu ≡ threw ended.heap.scope.path (leave (ended.heap.scope.back nu) (cut_all ended.heap.scope.path (ended.heap.first nu))))
          → Runs (λ nu. Fork (g nu)) (λ nu. Says (Throw (v nu))) before new
      ends_thrown v is first = kept_runs o.opens went k (λ nu. Fork (g nu)) (λ nu. Says (Throw (v nu))) (λ nu e. e)
          (λ nu fe fits E su bound l c.
          let next = next_of E (draws_in ended.made) ended.unmade in
          let p = place E bound before in
          let came = subst (λ t. Comes (in_branch p (before.heap.first nu)) (g nu) (enter (next_call (before.heap.first nu))) (forked (rest_of before)) r.added next t (ended.heap.first nu) (rest_of ended)) (is nu) (branch_came nu fe E su bound l c) in
          let e = fork_threw p (g nu) (before.heap.first nu) (rest_of before) o.here (unfound_is o.opens nu) r.added (ended.heap.first nu) (rest_of ended) next (v nu) came (gone_at nu false (there_are nu fe)) in
          says (subst (λ t. Ends p (Fork (g nu)) (Throw (v nu)) (before.heap.first nu) (rest_of before) t (rest_of ended) r.added)
          (sym (first nu fits ∙ (λ i. threw (path_is o.opens went nu i) (joined_is nu fe i)))) e))

      pub ends_refused : (y : Refusal) → ((nu : Naming) → told nu ≡ Halts (halt.Refused y))
          → ((nu : Naming) → Fits nu new.heap.names → new.heap.first nu ≡ leave (ended.heap.scope.back nu) (ended.heap.first nu))
          → Runs (λ nu. Fork (g nu)) (λ nu. Halts (halt.Refused y)) before new
      ends_refused y is first = kept_runs o.opens went k (λ nu. Fork (g nu)) (λ nu. Halts (halt.Refused y)) (λ nu e. e)
          (λ nu fe fits E su bound l c.
          let next = next_of E (draws_in ended.made) ended.unmade in
          let p = place E bound before in
          let came = subst (λ t. Comes (in_branch p (before.heap.first nu)) (g nu) (enter (next_call (before.heap.first nu))) (forked (rest_of before)) r.added next t (ended.heap.first nu) (rest_of ended)) (is nu) (branch_came nu fe E su bound l c) in
          let q = sym (first nu fits) in
          halts (fork_refused p (g nu) (before.heap.first nu) (rest_of before) o.here (unfound_is o.opens nu) r.added (ended.heap.first nu) (rest_of ended) next y (new.heap.first nu)
          (record { text = ap (λ (s : St). s.text) q; verdict = ap (λ (s : St). s.verdict) q; gone = ap (λ (s : St). s.gone) q }) came (gone_at nu false (there_are nu fe))))

-- ---- as the functions tell of them

module _ {told : Naming → Told} (goes : (nu : Naming) → GoesOn (told nu)) (old new : Moment alone) where
  pub lost_ends : (x : Exit) → Loses x old new → EndsFork told old (λ nu. told_exit nu x) new
  lost_ends x l g before opened local o run = subst (λ x. Runs (λ nu. Fork (g nu)) (λ nu. told_exit nu x) before new) (sym l.is) (ends_lost o run goes new l.same l.made l.stopped)

  -- the exit that is handed on
  pub exit_ends : (r : Result (Unit {0}) Exit) (e : Exit) → IsErrAnd r (λ y. y ≡ e) → Loses e old new → EndsFork told old (λ nu. told_fork nu r) new
  exit_ends (Ok u) e h l = absurd h
  exit_ends (Err y) e h l = lost_ends y (record { is = h ∙ l.is; same = l.same; made = l.made; stopped = l.stopped })

  pub absent_ends : {p : Path} (r : Result (Unit {0}) Exit) → p ≡ old.heap.scope.path → ((nu : Naming) → Fits nu old.heap.names → EndsAbsent (told nu) (any_gone old.heap.scope.path (old.heap.first nu).gone))
      → OnOk r (LeftBack (absent p) old new) → IfErr r (λ x. Loses x old new) → EndsFork told old (λ nu. told_fork nu r) new
  absent_ends (Ok u) is d k l g before opened local o run = ends_absent o run goes k is d local
  absent_ends (Err x) is d k l g before opened local o run = lost_ends x l g before opened local o run

module _ (old new : Moment alone) (there_are : (nu : Naming) → Fits nu old.heap.names → any_gone old.heap.scope.path (old.heap.first nu).gone ≡ false) where
  pub given_ends : (v : Value) (r : Result (Unit {0}) Exit) → OnOk r (LeftWith (λ nu. give_value (val_in nu v) (joined_in old nu)) old new) → IfErr r (λ x. Loses x old new)
      → EndsFork (λ nu. Says (Normal (val_in nu v))) old (λ nu. told_fork nu r) new
  given_ends v (Ok u) k l g before opened local o run = ends_joined o run (λ nu. tt) k.keeps there_are (λ nu. val_in nu v) (λ nu. refl) k.first_is
  given_ends v (Err x) k l g before opened local o run = lost_ends (λ nu. tt) old new x l g before opened local o run

  pub thrown_ends : (v : Value) → LeftWith (λ nu. threw old.heap.scope.path (joined_in old nu)) old new → EndsFork (λ nu. Says (Throw (val_in nu v))) old (λ nu. told_exit nu (exit.Throw v)) new
  thrown_ends v k g before opened local o run = ends_thrown o run (λ nu. tt) k.keeps there_are (λ nu. val_in nu v) (λ nu. refl) k.first_is

  pub refused_ends : (y : Refusal) → LeftWith (λ nu. leave (old.heap.scope.back nu) (old.heap.first nu)) old new → EndsFork (λ nu. Halts (halt.Refused y)) old (λ nu. told_exit nu (exit.Halted (halt.Refused y))) new
  refused_ends y k g before opened local o run = ends_refused o run (λ nu. tt) k.keeps there_are y (λ nu. refl) k.first_is

-- where the branch ended the run
pub run_ends : {told : Naming → Told} (old : Moment alone) → ((nu : Naming) → EndsRun (told nu)) → EndsFork told old told old
run_ends old d g before opened local o run = ends_run o run d
