-- Scopes that are opened.
use Rattle.std.specs.Prelude.{Bool, true, false, List, Option, Some, None, Result, Ok, Err, OnOk, OnErr, IfErr, IsSome, length, slice_get}
use Rattle.std.proofs.Common.{◌≡◌, IsErrAnd, ◌<◌, ◌+◌, ℕ, zero, suc, length-append, refl, sym, ap, subst, ◌∙◌, arith, [], ◌∷◌, ◌++◌, append-nil, ◌⊎◌, inl, inr}
use Rattle.std.proofs.lemmas.Option.{slice_get_within}
use Rattle.turk_base.specs.Names.{Path, sub, path_in, In}
use Rattle.turk_base.specs.declared.Record.{Record}
use Rattle.turk_base.specs.Values as model
use Rattle.turk_base.specs.Values.{Outcome}
use Rattle.turk_base.specs.Errors.{built_in}
use Rattle.turk_base.specs.Asks.{Rec, find}
use Rattle.turk_base.specs.Prog.{Prog, Fork}
use Rattle.turk_base.specs.State.{St, enter, next_call}
use Rattle.turk_base.specs.Trace as told
use Rattle.turk_base.specs.Told.{records_of}
use Rattle.js_tree.specs.Run.{Out, ended, halted, diverged, bar, Res, res, run, forked, on_fork, unless_body, fork_goes, branch_end}
use Rattle.js_tree.specs.World.{World, Rest, diverges, found_kept, called_fork}
use Rattle.run_laws.proofs.Sequel.{run_at}
use Rattle.run_laws.proofs.Fronts.{front}
use Rattle.meaning_laws.proofs.Tied.{find_tied}
use Rattle.ask_model.specs.declared.AskStop.TheVariants as stop
use Rattle.turk_base.specs.declared.Entry.{Entry}
use Rattle.ask_model.specs.declared.Known.TheVariants.{Here}
use Rattle.ask_model.specs.Asker.{Seen as Asked, known_to, known_at, known_by, asked_at, record_in}
use Rattle.machine_host.specs.declared.AskedRun.{AskedRun}
use Rattle.machine_host.specs.declared.Notes.{Notes as Kept}
use Rattle.machine_host.specs.Moments.{Notes, moment_at}
use Rattle.machine_host.specs.Runs.{heap_of, notes_of, moment_of}
use Rattle.ask_model.proofs.Finds.{at_some}
use Rattle.value_cells.specs.Seen.{Naming, Seen, Fits}
use Rattle.eval_ops.specs.Looks.{IsTold}
use Rattle.eval_ops.specs.Calls.{Enters}
use Rattle.run_host.specs.declared.Exit.{Exit}
use Rattle.run_host.specs.declared.Exit.TheVariants as exit
use Rattle.run_host.specs.declared.Halt.{Halt}
use Rattle.run_host.specs.declared.Halt.TheVariants as halt
use Rattle.run_host.specs.declared.Refusal.TheVariants as refusal
use Rattle.run_host.specs.Moment.{alone, Moment, rest_of, Suits, Clear, place, Same, Within}
use Rattle.run_host.specs.Told as shown
use Rattle.run_host.specs.Told.{told_exit, exit_needs}
use Rattle.run_host.specs.Ends.{Like, halts, fails}
use Rattle.run_host.specs.Did.{Runs}
use Rattle.run_host.specs.Scopes.{OpensFork}
use Rattle.run_host.proofs.Moments.{same_refl, within_refl}
use Rattle.machine_host.specs.Asking.{Indexed, Loses, Tells}
use Rattle.machine_host.specs.Sound.{KnowsBuiltIns, BacksKnow, IsGood, AreOpen}
use Rattle.meaning_laws.specs.Tied.{what_of}
use Rattle.machine_host.proofs.Turns.{moves_same}
use Rattle.machine_host.proofs.Calls.{what_none, what_some, found_is}

-- ---- what holds where a scope was entered

pub good_entered : (s t : Seen) (p : Path) (branch : Bool) → IsGood s → Enters p branch s t → IsTold t → IsGood t
good_entered s t p branch g e told = record {
  told = told;
  named = λ i l. ap (λ ns. slice_get ns i) e.names ∙ g.named i l;
  backs = subst (BacksKnow t.scope) (sym e.outer) (knows, g.backs);
}
  where
    knows : KnowsBuiltIns t.scope.back
    knows nu fits i l =
        let n : i < length s.names = slice_get_within s.names i (built_in i) (g.named i l) in
        subst (λ (σ : St). IsSome (σ.known (built_in i))) (sym (e.back nu)) (subst (λ m. IsSome ((s.first nu).known m)) (fits i l) (g.told.there nu i n))

some_same : {A : Type 0} {x y : A} → Some x ≡ Some y → x ≡ y
some_same e = cc

counted_more : (es : List ℕ) (n base : ℕ) → ((i k : ℕ) → slice_get es i ≡ Some k → k ≡ suc (i + base)) → n ≡ suc (length es + base) → (i k : ℕ) → slice_get (es ++ n ∷ []) i ≡ Some k → k ≡ suc (i + base)
counted_more [] n base h e zero k q = sym (some_same q) ∙ e
counted_more [] n base h e (suc i) k q = let z : ⊥ = cc in absurd z
counted_more (x ∷ es) n base h e zero k q = h zero k q
counted_more (x ∷ es) n base h e (suc i) k q =
    let r = counted_more es n (suc base) (λ j m p. let a = h (suc j) m p in omega (arith, a)) (omega (arith, e)) i k q in
    omega (arith, r)

pub open_entered : (es : List ℕ) (n : ℕ) (s t : Seen) (p : Path) (branch : Bool) → AreOpen es s.outer → Enters p branch s t → n ≡ length t.outer → AreOpen (es ++ n ∷ []) t.outer
open_entered es n s t p branch a e is =
    let out : length t.outer ≡ suc (length s.outer) = ap length e.outer in
    let m = a.many in
    record {
      many = (let l = length-append es (n ∷ []) in omega (arith, l, out, m));
      counted = λ i k q. let r = counted_more es n 0 (λ i k q. let b = a.counted i k q in omega (arith, b)) (omega (arith, is, out, m)) i k q in omega (arith, r);
    }

-- ---- programs that end the run

module _ (f : Naming → Prog) where
  pub program_halts : (m n : Moment alone) (h : Halt) (out : Out) → shown.IsOut h out → Same m n → Within m n → n.made ≡ m.made → n.words ≡ m.words → n.stopped ≡ m.stopped
      → ((nu : Naming) → Fits nu n.heap.names → (E : World) (bound : ℕ) → Suits E n → Clear nu m → (at : St) × (left : ℕ) × Like at (n.heap.first nu) × (left ≡ n.heap.left) × ((k : Outcome → St → Rest → Res) → run_at (place E bound m) (f nu) k (m.heap.first nu) (rest_of m) ≡ res out at (record (rest_of n) { left = left })))
      → Runs f (λ nu. shown.Halts h) m n
  program_halts m n h out is same within made drawn stopped d = record {
    same = same;
    within = λ nu z. within;
    added = [];
    made = made ∙ sym (append-nil m.made);
    dealt = tt;
    moved = λ nu z. moves_same drawn;
    shown = λ nu. stopped;
    ran = λ nu fits E s bound l c. let q = d nu fits E bound s c in halts (record { out = out; is = is; at = q.0; left = q.1; like = q.2; fuel = λ z. q.3; stops = record { holds = q.4 } });
  }

  pub program_lost : (m n : Moment alone) (y : Exit) → Loses y m n → Runs f (λ nu. told_exit nu y) m n
  program_lost m n y l = subst (λ y. Runs f (λ nu. told_exit nu y) m n) (sym l.is) (record {
    same = l.same;
    within = λ nu z. absurd z;
    added = [];
    made = l.made ∙ sym (append-nil m.made);
    dealt = tt;
    moved = λ nu z. absurd z;
    shown = λ nu. inl l.stopped;
    ran = λ nu fits E s bound lo c. fails (record { holds = λ k. front _ refl });
  })

-- ---- forks

pub fork_barred : (g : Naming → Prog) (m : Moment alone) → m.heap.scope.body ≡ true → Runs (λ nu. Fork (g nu)) (λ nu. shown.Halts (halt.Refused refusal.ForkInOnce)) m m
unfolding run
fork_barred g m e = program_halts (λ nu. Fork (g nu)) m m (halt.Refused refusal.ForkInOnce) (ended (bar model.ForkInOnce)) refl same_refl within_refl refl refl refl
    (λ nu fits E bound s c. (
      m.heap.first nu,
      m.heap.left,
      record { text = refl; verdict = refl; gone = refl },
      refl,
      λ k.
          ap (λ b. unless_body b (m.heap.first nu) (rest_of m) (on_fork (find (sub (m.heap.first nu).calls m.heap.scope.path) m.trace) (next_call (m.heap.first nu)) (forked (rest_of m)) (fork_goes k)
          (run (g nu) E m.trace bound (sub (m.heap.first nu).calls m.heap.scope.path) (sub (m.heap.first nu).calls m.heap.scope.path) false branch_end (enter (next_call (m.heap.first nu))) (forked (rest_of m)))
          (sub (m.heap.first nu).calls m.heap.scope.path))) e,
    ))

module _ (s : Asked) (m n : Moment alone) (trace : m.trace ≡ records_of s.trace) (made : m.made ≡ records_of s.made) (p : List ℕ) (x : Indexed p m n) (here : m.heap.scope.body ≡ false) where
  abbrev counted_fork : Moment alone
  counted_fork = record m { heap = n.heap; forks = suc m.forks }

  -- a record stands in the way of the fork
  fork_diverges : (g : Naming → Prog) (r : Record) → told.at (known_to s) p ≡ Some r → (y : Exit) → Tells y (diverges (path_in p) (found_kept r) called_fork) → Runs (λ nu. Fork (g nu)) (λ nu. told_exit nu y) m counted_fork
  unfolding run
  fork_diverges g r at y t = subst (λ y. Runs (λ nu. Fork (g nu)) (λ nu. told_exit nu y) m counted_fork) (sym t.1)
      (program_halts (λ nu. Fork (g nu)) m counted_fork (halt.Diverges t.0) (halted (diverged (diverges (path_in p) (found_kept r) called_fork))) (diverges (path_in p) (found_kept r) called_fork, t.2, refl)
      (record { later = tt; session = refl; trace = refl; pairs = refl; grows = λ i name e. ap (λ l. slice_get l i) x.names ∙ e })
      (record { scope = x.scope; outer = x.outer; below = λ i name e l. let h = slice_get_within n.heap.names i name e in absurd (let q = ap length x.names in omega (arith, h, q, l)); falls = let h = x.left in omega (arith, h) })
      refl
      refl
      refl
      (λ nu fits E bound su c.
      let P = sub (m.heap.first nu).calls m.heap.scope.path in
      let o = what_some (find P m.trace) r (ap (λ T. what_of (find P T)) trace ∙ found_is s p (m.heap.first nu).calls m.heap.scope.path (x.path nu) (λ r i a. c r (subst (λ l. In Rec r l) (sym made) i) a) ∙ at) in
      let first = x.first nu fits in (
        next_call (m.heap.first nu),
        m.heap.left,
        record { text = ap (λ (σ : St). σ.text) (sym first); verdict = ap (λ (σ : St). σ.verdict) (sym first); gone = ap (λ (σ : St). σ.gone) (sym first) },
        sym x.left,
        λ k.
            (λ i. unless_body (here i) (m.heap.first nu) (rest_of m) (on_fork (o.1 i) (next_call (m.heap.first nu)) (forked (rest_of m)) (fork_goes k)
            (run (g nu) E m.trace bound P P false branch_end (enter (next_call (m.heap.first nu))) (forked (rest_of m))) P))
            ∙ (λ i. res (halted (diverged (diverges (sym (x.path nu) i) (found_kept r) called_fork))) (next_call (m.heap.first nu)) (forked (rest_of m))),
      )))

  fork_lost : (g : Naming → Prog) (y : Exit) → y ≡ exit.Stopped stop.Memory → Runs (λ nu. Fork (g nu)) (λ nu. told_exit nu y) m counted_fork
  fork_lost g y e = program_lost (λ nu. Fork (g nu)) m counted_fork y (record { is = e; same = record { later = tt; session = refl; trace = refl; pairs = refl; grows = λ i name e. ap (λ l. slice_get l i) x.names ∙ e }; made = refl; stopped = refl })

  pub fork_out : (l : Moment alone) → l ≡ counted_fork → (g : Naming → Prog) (r : Record) → told.at (known_to s) p ≡ Some r → (y : Exit) → (y ≡ exit.Stopped stop.Memory) ⊎ Tells y (diverges (path_in p) (found_kept r) called_fork) → Runs (λ nu. Fork (g nu)) (λ nu. told_exit nu y) m l
  fork_out l e g r at y t = subst (λ l. Runs (λ nu. Fork (g nu)) (λ nu. told_exit nu y) m l) (sym e) (by t)
    where
      by : (y ≡ exit.Stopped stop.Memory) ⊎ Tells y (diverges (path_in p) (found_kept r) called_fork) → Runs (λ nu. Fork (g nu)) (λ nu. told_exit nu y) m (record m { heap = n.heap; forks = suc m.forks })
      by (inl lost) = fork_lost g y lost
      by (inr d) = fork_diverges g r at y d

  pub fork_lost_at : (l : Moment alone) → l ≡ counted_fork → (g : Naming → Prog) (y : Exit) → y ≡ exit.Stopped stop.Memory → Runs (λ nu. Fork (g nu)) (λ nu. told_exit nu y) m l
  fork_lost_at l e g y lost = subst (λ l. Runs (λ nu. Fork (g nu)) (λ nu. told_exit nu y) m l) (sym e) (fork_lost g y lost)

  -- the branch was opened
  unfound_in : told.at (known_to s) p ≡ None → find (path_in p) m.trace ≡ None
  unfound_in none = what_none (find (path_in p) m.trace) (ap (λ T. what_of (find (path_in p) T)) trace ∙ find_tied s.trace p ∙ front_none (told.at s.trace p) refl)
    where
      front_none : (o : Option Record) → told.at s.trace p ≡ o → told.at s.trace p ≡ None
      front_none None e = e
      front_none (Some r) e = let y = sym (at_some s.trace s.made p r e) ∙ none in let z : ⊥ = cc in absurd z

  pub fork_opened : (l : Moment alone) → IsTold m.heap → told.at (known_to s) p ≡ None → Enters (path_in p) true n.heap l.heap → l ≡ record counted_fork { heap = l.heap } → OpensFork m l
  fork_opened l known none e is = record {
    opens = record {
      later = tt;
      cells = record { own = known.own; there = known.there; only = known.only };
      names = e.names ∙ x.names;
      left = e.left ∙ x.left;
      session = ap (λ (q : Moment alone). q.session) is;
      trace = ap (λ (q : Moment alone). q.trace) is;
      pairs = ap (λ (q : Moment alone). q.pairs) is;
      made = ap (λ (q : Moment alone). q.made) is;
      words = ap (λ (q : Moment alone). q.words) is;
      waits = ap (λ (q : Moment alone). q.waits) is;
      stopped = ap (λ (q : Moment alone). q.stopped) is;
      outer = e.outer ∙ (λ i. x.scope i ∷ x.outer i);
      first = λ nu fits. e.first nu ∙ ap enter (x.first nu (subst (Fits nu) (sym x.names) fits));
      back = λ nu fits. e.back nu ∙ x.first nu (subst (Fits nu) (sym x.names) fits);
      path = λ nu. e.path ∙ x.path nu;
      unfound = ap (λ q. find q m.trace) e.path ∙ unfound_in none;
    };
    here = here;
    branch = e.branch_is ∙ sym e.path;
    body = e.body;
    forks = ap (λ (q : Moment alone). q.forks) is;
  }

-- ---- a fork as its function tells of it

pub not_here : (es : List Entry) (p : List ℕ) → (Here ≡ known_at es p → ⊥) → told.at es p ≡ None
not_here es p n = by (told.at es p) refl
  where
    by : (o : Option Record) → told.at es p ≡ o → told.at es p ≡ None
    by None e = e
    by (Some r) e = absurd (n (ap (λ o. known_by o (told.below es p)) (sym e)))

module _ {X : Type 0} (seen : X → Asked) (words : X → ℕ → ℕ) (old mid : AskedRun X) (known : X) (p : List ℕ) (x : Indexed p (moment_of seen words old) (moment_of seen words mid)) (asker : mid.asker ≡ old.asker) (notes : mid.notes ≡ old.notes) (asked : seen known ≡ asked_at (seen mid.asker) p) (drawn : (k : ℕ) → words known k ≡ words mid.asker k)
    (here : (heap_of old).scope.body ≡ false) (forks : ℕ) (more : forks ≡ mid.notes.forks + 1) where
  abbrev fork_notes : Notes
  fork_notes = record (notes_of mid.notes) { forks = forks }

  abbrev fork_now : Moment alone
  fork_now = moment_at (heap_of mid) (seen known) (words known) fork_notes

  abbrev fork_counted : Moment alone
  fork_counted = record (moment_of seen words old) { heap = heap_of mid; forks = suc old.notes.forks }

  fork_is : fork_now ≡ fork_counted
  fork_is =
      let k : forks ≡ suc old.notes.forks = (let a = ap (λ (n : Kept). n.forks) notes in omega (arith, a, more)) in
      (λ i. moment_at (heap_of mid) (asked i) (λ k. drawn k i) fork_notes) ∙ ap (λ (q : Moment alone). record q { forks = forks }) x.rest ∙ ap (λ j. record (moment_of seen words old) { heap = heap_of mid; forks = j }) k

  pub fork_found : (r : Record) → Some r ≡ record_in (known_to (seen known)) (seen known).asked → (y : Exit) → (y ≡ exit.Stopped stop.Memory) ⊎ Tells y (diverges (path_in p) (found_kept r) called_fork) → (g : Naming → Prog) → Runs (λ nu. Fork (g nu)) (λ nu. told_exit nu y) (moment_of seen words old) fork_now
  fork_found r at y t g = fork_out (seen mid.asker) (moment_of seen words old) (moment_of seen words mid) (λ i. records_of (seen (sym asker i)).trace) (λ i. records_of (seen (sym asker i)).made) p x here fork_now fork_is g r
      (sym (at ∙ ap (λ s. record_in (known_to s) s.asked) asked)) y t

  module _ (new : AskedRun X) (was : new.asker ≡ known) (kept : notes_of new.notes ≡ fork_notes) (known_told : IsTold (heap_of old)) (none : told.at (known_to (seen mid.asker)) p ≡ None) where
    new_is : moment_of seen words new ≡ record fork_counted { heap = heap_of new }
    new_is = (λ i. moment_at (heap_of new) (seen (was i)) (words (was i)) (kept i)) ∙ ap (λ (q : Moment alone). record q { heap = heap_of new }) fork_is

    pub fork_entered : (r : Result (Unit {0}) Exit) → OnOk r (Enters (path_in p) true (heap_of mid) (heap_of new)) → OnErr r (heap_of new ≡ heap_of mid) → IfErr r (λ y. y ≡ exit.Stopped stop.Memory)
        → OnOk r (OpensFork (moment_of seen words old) (moment_of seen words new)) × IfErr r (λ y. (g : Naming → Prog) → Runs (λ nu. Fork (g nu)) (λ nu. told_exit nu y) (moment_of seen words old) (moment_of seen words new)) × IfErr r (λ y. exit_needs y ≡ 0)
    fork_entered (Ok u) e same lost =
        (fork_opened (seen mid.asker) (moment_of seen words old) (moment_of seen words mid) (λ i. records_of (seen (sym asker i)).trace) (λ i. records_of (seen (sym asker i)).made) p x here (moment_of seen words new) known_told none e new_is, tt, tt)
    fork_entered (Err y) e same lost = (
      tt,
      (λ g. fork_lost_at (seen mid.asker) (moment_of seen words old) (moment_of seen words mid) (λ i. records_of (seen (sym asker i)).trace) (λ i. records_of (seen (sym asker i)).made) p x here (moment_of seen words new)
          (new_is ∙ ap (λ s. record fork_counted { heap = s }) same) g y lost),
      subst (λ y. exit_needs y ≡ 0) (sym lost) refl,
    )

pub err_then : {A P Q : Type 0} (r : Result A Exit) → (P → Q) → OnErr r P → OnErr r Q
err_then (Ok a) f h = tt
err_then (Err y) f h = f h

pub fork_exit : {A : Type 0} (r : Result A Exit) (e : Exit) (m n : Moment alone) → IsErrAnd r (λ y. y ≡ e) → Loses e m n → IfErr r (λ y. (g : Naming → Prog) → Runs (λ nu. Fork (g nu)) (λ nu. told_exit nu y) m n)
fork_exit (Ok a) e m n h l = absurd h
fork_exit (Err y) e m n h l = λ g. program_lost (λ nu. Fork (g nu)) m n y (record { is = h ∙ l.is; same = l.same; made = l.made; stopped = l.stopped })
