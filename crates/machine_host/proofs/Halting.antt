-- Requests that end a scope's run, and built-in calls.
use Rattle.std.specs.Prelude.{◌-◌, nat_lt, Bool, true, false, map, Option, Some, None, Result, Ok, Err}
use Rattle.std.proofs.Common.{inl, ◌≡◌, ℕ, refl, sym, ap, subst, ◌∙◌, arith, List, [], ◌∷◌, ◌++◌, append-nil}
use Rattle.std.proofs.lemmas.Bool.Decides.{nat_tests}
use Rattle.turk_base.specs.Names.{Path}
use Rattle.turk_base.specs.Values as model
use Rattle.turk_base.specs.Values.{Val, Outcome, Wait, crashed}
use Rattle.turk_base.specs.Asks.{Rec}
use Rattle.turk_base.specs.Prog.{Prog, Done, Join, MayFork, Crash, ask}
use Rattle.turk_base.specs.State.{St, Op, join, forks_here, crash, AnswerTo, act, act_join, act_forks, op_cost, any_gone, too_many}
use Rattle.turk_base.specs.Steps.{Small, give, step, steps_of, joined}
use Rattle.js_tree.specs.Run.{Out, ended, waits, bar, Res, res, pay_if, on_act, run_steps, run}
use Rattle.js_tree.specs.World.{World, Rest, told_by}
use Rattle.run_laws.proofs.Sequel.{run_at}
use Rattle.builtin_calls.specs.declared.CallEnd.{CallEnd}
use Rattle.builtin_calls.specs.declared.CallEnd.TheVariants as end
use Rattle.builtin_calls.specs.Ended.{end_in}
use Rattle.value_cells.specs.declared.OpStop.{OpStop}
use Rattle.value_cells.specs.declared.OpStop.TheVariants as heap
use Rattle.value_cells.specs.declared.Value.{Value}
use Rattle.value_cells.specs.Seen.{Naming, Seen, Fits, val_in}
use Rattle.value_cells.specs.Comes.{goes, then_goes, acted, charged, comes}
use Rattle.value_cells.specs.Does as does
use Rattle.value_cells.specs.Does.{Stays, Did, Says, Spends, told, comes_from}
use Rattle.run_heap.specs.Works.{Performs}
use Rattle.eval_ops.specs.Run.{Run, seen_of}
use Rattle.eval_ops.specs.Calls.{Joins, join_from}
use Rattle.run_host.specs.declared.Halt.{Halt}
use Rattle.run_host.specs.declared.Halt.TheVariants as halt
use Rattle.run_host.specs.declared.Refusal.TheVariants as refusal
use Rattle.run_host.specs.declared.Exit.{Exit}
use Rattle.run_host.specs.declared.Exit.TheVariants as exit
use Rattle.run_host.specs.Moment.{alone, Moment, rest_of, place, Same, Within}
use Rattle.run_host.specs.Told as shown
use Rattle.run_host.specs.Told.{IsOut, told_value}
use Rattle.run_laws.proofs.Fronts.{front}
use Rattle.ask_model.specs.declared.AskStop.TheVariants as stop
use Rattle.run_host.specs.Ends.{Like, halts, fails}
use Rattle.run_host.specs.Did.{Runs}
use Rattle.run_host.specs.Steps.{Step, Leaves, Gives}
use Rattle.run_host.proofs.Moments.{same_refl, within_refl}
use Rattle.run_host.proofs.Sequence.{ends_with}
use Rattle.machine_host.specs.Exits.{exit_at, value_at}
use Rattle.machine_host.specs.Guards.{guarded}
use Rattle.machine_host.specs.declared.Wait.{Wait as Code}
use Rattle.machine_host.specs.Moments.{wait_in}
use Rattle.machine_host.specs.declared.AskedRun.{AskedRun}
use Rattle.machine_host.specs.Runs.{moment_of}
use Rattle.ask_model.specs.Asker.{Seen as Asked}
use Rattle.machine_host.proofs.Turns.{moves_same, Asks, asks_of, naming, with_heap, same_heap, within_heap, program_came, answered_run, refused_run, spent_run, lost_run, takes_steps, KeepsGone}
use Rattle.machine_host.proofs.Answered.{looked, stays_of, gone_of}
use native.Mathlib.Nat.{le_refl}

-- ---- a step that costs nothing

free_at : (n : ℕ) → (nat_lt n 0 ≡ false) × (n - 0 ≡ n)
free_at n = (grind (arith, nat_tests), omega arith)

module _ {A : Type 0} (o : Op) (go : AnswerTo o → Small A) (s b : Path) (body : Bool) (σ : St) (free : op_cost o σ ≡ 0) where
  pub free_comes : (n : ℕ) → comes (step o go) s b body σ n ≡ then_goes (acted (act o s b body σ) n) (λ a τ m. comes (go a) s b body τ m)
  unfolding comes
  free_comes n =
      let f = free_at n in
      let next = λ (c m : ℕ) (t : Bool). charged t c σ n (then_goes (acted (act o s b body σ) m) (λ a τ m. comes (go a) s b body τ m)) in
      ap (λ c. next c (n - c) (nat_lt n c)) free ∙ (λ i. next 0 (f.1 i) (f.0 i))

  pub free_runs : (E : World) (T : List Rec) (k : A → St → Rest → Res) (w : Rest) → run_steps (step o go) E T s b body k σ w ≡ on_act (act o s b body σ) σ w (λ a τ x. run_steps (go a) E T s b body k τ x)
  unfolding run_steps
  free_runs E T k w =
      let f = free_at w.left in
      let next = λ (c : ℕ) (t : Bool) (m : ℕ). pay_if t c σ w (λ x. on_act (act o s b body σ) σ x (λ a τ x. run_steps (go a) E T s b body k τ x)) in
      ap (λ c. pay_if (nat_lt w.left c) c σ w (λ x. on_act (act o s b body σ) σ x (λ a τ x. run_steps (go a) E T s b body k τ x))) free
      ∙ ap (λ t. pay_if t 0 σ w (λ x. on_act (act o s b body σ) σ x (λ a τ x. run_steps (go a) E T s b body k τ x))) f.0
      ∙ ap (λ n. on_act (act o s b body σ) σ (record w { left = n }) (λ a τ x. run_steps (go a) E T s b body k τ x)) f.1

-- ---- a request that ends the run of its scope

-- what it comes to under a naming
pub record Stopped {A : Type 0} (g : Small A) (m : Moment alone) (E : World) (out : Out) (τ : St) (rest : Rest) (σ : St) : Type 0 where
  pub at : St
  pub left : ℕ
  pub like : Like at τ
  pub fuel : left ≡ rest.left
  pub is : (k : A → St → Rest → Res) → run_steps g E m.trace m.heap.scope.path m.heap.scope.branch m.heap.scope.body k σ (rest_of m) ≡ res out at (record rest { left = left })

module _ {A : Type 0} (f : Naming → Step A) (g : Naming → Small A) (asks : (nu : Naming) → Asks (f nu) (g nu)) where
  pub halts_leave : (m n : Moment alone) (h : Halt) (out : Out) → IsOut h out → Same m n → Within m n → n.made ≡ m.made → n.words ≡ m.words → n.stopped ≡ m.stopped
      → ((nu : Naming) → Fits nu n.heap.names → (E : World) → Stopped (g nu) m E out (n.heap.first nu) (rest_of n) (m.heap.first nu)) → Leaves f (exit.Halted h) m n
  halts_leave m n h out is same within made drawn stopped d = record {
    ends = λ go. record {
      same = same;
      within = λ nu z. within;
      added = [];
      made = made ∙ sym (append-nil m.made);
      dealt = tt;
      moved = λ nu z. moves_same drawn;
      shown = λ nu. stopped;
      ran = λ nu fits E s bound l c.
          let q = d nu fits E in
          halts (record {
            out = out;
            is = is;
            at = q.at;
            left = q.left;
            like = q.like;
            fuel = λ z. q.fuel;
            stops = record { holds = λ k. (asks nu).runs (place E bound m) (go nu) k (m.heap.first nu) (rest_of m) ∙ q.is (λ a τ x. run_at (place E bound m) (go nu a) k τ x) };
          });
    };
  }

-- ---- forks and crashes

pub forks_refused : (m : Moment alone) → m.heap.scope.body ≡ true → Leaves (λ nu. ask MayFork) (exit.Halted (halt.Refused refusal.ForkInOnce)) m m
unfolding steps_of act
forks_refused m e = halts_leave (λ nu. ask MayFork) (λ nu. steps_of MayFork) (λ nu. asks_of MayFork) m m (halt.Refused refusal.ForkInOnce) (ended (bar model.ForkInOnce)) refl same_refl within_refl refl refl refl
    (λ nu fits E. record {
      at = m.heap.first nu;
      left = m.heap.left;
      like = record { text = refl; verdict = refl; gone = refl };
      fuel = refl;
      is = λ k. free_runs forks_here give m.heap.scope.path m.heap.scope.branch m.heap.scope.body (m.heap.first nu) refl E m.trace k (rest_of m)
          ∙ ap (λ b. on_act (act_forks b (m.heap.first nu)) (m.heap.first nu) (rest_of m) (λ a τ x. run_steps (give a) E m.trace m.heap.scope.path m.heap.scope.branch m.heap.scope.body k τ x)) e;
    })

pub forks_allowed : (m : Moment alone) → m.heap.scope.body ≡ false → Gives (λ nu. ask MayFork) (λ nu. tt) m m
unfolding steps_of act comes
forks_allowed m e = looked (λ nu. ask MayFork) (λ nu. steps_of MayFork) (λ nu. asks_of MayFork) (λ nu. tt) m (record {
  stays = record { scope = refl; outer = refl; grows = λ i n q. q; below = (within_refl {m = m}).below };
  did = λ nu fits.
      free_comes forks_here give m.heap.scope.path m.heap.scope.branch m.heap.scope.body (m.heap.first nu) refl m.heap.left
      ∙ ap (λ b. then_goes (acted (act_forks b (m.heap.first nu)) m.heap.left) (λ a τ n. goes a τ n)) e;
})

-- where memory ran out, whatever changed but the records made
pub lost_leaves : {A : Type 0} {f : Naming → Step A} (m n : Moment alone) → Same m n → n.made ≡ m.made → n.stopped ≡ m.stopped → Leaves f (exit.Stopped stop.Memory) m n
lost_leaves m n same made stopped = record {
  ends = λ go. record {
    same = same;
    within = λ nu z. absurd z;
    added = [];
    made = made ∙ sym (append-nil m.made);
    dealt = tt;
    moved = λ nu z. absurd z;
    shown = λ nu. inl stopped;
    ran = λ nu fits E s bound l c. fails (record { holds = λ k. front _ refl });
  };
}

abbrev pub waiting_for : Moment alone → Wait → Moment alone
waiting_for m w = record m { waits = m.waits ++ w ∷ [] }

crash_is : (m : Moment alone) (nu : Naming) (E : World) → Stopped (steps_of Crash) m E waits (m.heap.first nu) (rest_of (waiting_for m (crashed m.heap.scope.path))) (m.heap.first nu)
unfolding steps_of act
crash_is m nu E = record {
  at = m.heap.first nu;
  left = m.heap.left;
  like = record { text = refl; verdict = refl; gone = refl };
  fuel = refl;
  is = λ k. free_runs crash give m.heap.scope.path m.heap.scope.branch m.heap.scope.body (m.heap.first nu) refl E m.trace k (rest_of m);
}

pub crashes : (m n : Moment alone) → n ≡ waiting_for m (crashed m.heap.scope.path) → Leaves (λ nu. ask Crash) (exit.Halted halt.Waits) m n
crashes m n e = subst (λ n. Leaves (λ nu. ask Crash) (exit.Halted halt.Waits) m n) (sym e)
    (halts_leave (λ nu. ask Crash) (λ nu. steps_of Crash) (λ nu. asks_of Crash) m (waiting_for m (crashed m.heap.scope.path)) halt.Waits waits refl
    (record { later = tt; session = refl; trace = refl; pairs = refl; grows = λ i n q. q }) (record { scope = refl; outer = refl; below = (within_refl {m = m}).below; falls = le_refl m.heap.left }) refl refl refl (λ nu fits E. crash_is m nu E))

pub more_waits : (l : List Code) (w : Code) → map wait_in (l ++ w ∷ []) ≡ map wait_in l ++ wait_in w ∷ []
more_waits [] w = refl
more_waits (x ∷ l) w = ap (λ r. wait_in x ∷ r) (more_waits l w)

-- ---- joining

join_comes : (m : Moment alone) (body : Bool) (nu : Naming) → m.heap.scope.body ≡ body → comes_from (steps_of (Join true)) nu m.heap ≡ comes (steps_of (Join true)) m.heap.scope.path m.heap.scope.branch body (m.heap.first nu) m.heap.left
join_comes m body nu e = ap (λ b. comes (steps_of (Join true)) m.heap.scope.path m.heap.scope.branch b (m.heap.first nu) m.heap.left) e

-- what the step of joining comes to, by its tests
join_is : (m : Moment alone) (nu : Naming) (E : World) (k : Val → St → Rest → Res) (body gone many : Bool) → m.heap.scope.body ≡ body → any_gone m.heap.scope.path (m.heap.first nu).gone ≡ gone → too_many true (m.heap.first nu).vals ≡ many →
    run_steps (steps_of (Join true)) E m.trace m.heap.scope.path m.heap.scope.branch m.heap.scope.body k (m.heap.first nu) (rest_of m)
    ≡ on_act (act_join body gone many m.heap.scope.path (m.heap.first nu)) (m.heap.first nu) (rest_of m) (λ vs τ x. run_steps (joined true vs) E m.trace m.heap.scope.path m.heap.scope.branch m.heap.scope.body k τ x)
unfolding steps_of act
join_is m nu E k body gone many b g t =
    free_runs (join true) (λ vs. joined true vs) m.heap.scope.path m.heap.scope.branch m.heap.scope.body (m.heap.first nu) refl E m.trace k (rest_of m)
    ∙ (λ i. on_act (act_join (b i) (g i) (t i) m.heap.scope.path (m.heap.first nu)) (m.heap.first nu) (rest_of m) (λ vs τ x. run_steps (joined true vs) E m.trace m.heap.scope.path m.heap.scope.branch m.heap.scope.body k τ x))

pub join_refused : (m : Moment alone) → m.heap.scope.body ≡ true → Leaves (λ nu. ask (Join true)) (exit.Halted (halt.Refused refusal.ForkInOnce)) m m
join_refused m e = halts_leave (λ nu. ask (Join true)) (λ nu. steps_of (Join true)) (λ nu. asks_of (Join true)) m m (halt.Refused refusal.ForkInOnce) (ended (bar model.ForkInOnce)) refl same_refl within_refl refl refl refl
    (λ nu fits E. record {
      at = m.heap.first nu;
      left = m.heap.left;
      like = record { text = refl; verdict = refl; gone = refl };
      fuel = refl;
      is = λ k. join_is m nu E k true (any_gone m.heap.scope.path (m.heap.first nu).gone) (too_many true (m.heap.first nu).vals) e refl refl;
    })

-- the state is the same
same_like : {σ τ : St} → τ ≡ σ → Like σ τ
same_like e = record { text = ap (λ s. s.text) (sym e); verdict = ap (λ s. s.verdict) (sym e); gone = ap (λ s. s.gone) (sym e) }

module _ (m : Moment alone) (t : Seen) (here : m.heap.scope.body ≡ false) where
  join_stops : (h : Halt) (out : Out) → IsOut h out → Stays m.heap t
      → ((nu : Naming) → Fits nu t.names → (E : World) → (t.first nu ≡ m.heap.first nu) × (t.left ≡ m.heap.left) × ((k : Val → St → Rest → Res) →
      run_steps (steps_of (Join true)) E m.trace m.heap.scope.path m.heap.scope.branch m.heap.scope.body k (m.heap.first nu) (rest_of m) ≡ res out (m.heap.first nu) (rest_of m)))
      → Leaves (λ nu. ask (Join true)) (exit.Halted h) m (with_heap m t)
  join_stops h out is stays d =
      let n = naming t.names in
      let low = (d n.0 n.1 (record { session = m.session; pairs = m.pairs; dice = told_by [] })).1 in
      halts_leave (λ nu. ask (Join true)) (λ nu. steps_of (Join true)) (λ nu. asks_of (Join true)) m (with_heap m t) h out is (same_heap m t stays) (within_heap m t stays (omega (arith, low))) refl refl refl
      (λ nu fits E. let q = d nu fits E in record { at = m.heap.first nu; left = m.heap.left; like = same_like q.0; fuel = sym q.1; is = q.2 })

  pub join_waits : (o : Option Value) → o ≡ None → Joins true (Ok o) m.heap t → Leaves (λ nu. ask (Join true)) (exit.Halted halt.Waits) m (with_heap m t)
  join_waits o e k = let j = subst (λ (o : Option Value). Joins true (Ok o) m.heap t) e k in join_stops halt.Waits waits refl j.stays (λ nu fits E. let q = j.did nu fits in (
    q.1.0,
    q.1.1,
    λ k.
        join_is m nu E k false true (too_many true (m.heap.first nu).vals) here q.0 refl ∙ ap (λ w. res waits (m.heap.first nu) (record (rest_of m) { waits = w })) (append-nil m.waits),
  ))

  join_long : Joins true (Err heap.TooLong) m.heap t → Leaves (λ nu. ask (Join true)) (exit_at heap.TooLong) m (with_heap m t)
  join_long j = join_stops (halt.Refused refusal.TooLong) (ended (bar model.TooLong)) refl j.stays (λ nu fits E. let q = j.did nu fits in (q.2.0, q.2.1, λ k. join_is m nu E k false false true here q.0 q.1))

  join_performs : (r : Result Value OpStop) → Stays m.heap t → ((nu : Naming) → Fits nu t.names → Did (join_from true nu m.heap) (told (val_in nu) r) (t.first nu) t.left) → Performs (λ nu. steps_of (Join true)) (λ nu. told (val_in nu) r) m.heap t
  join_performs r stays d = record {
    stays = stays;
    did = λ nu fits. subst (λ c. Did c (told (val_in nu) r) (t.first nu) t.left) (sym (join_comes m false nu here)) (d nu fits);
  }

  pub join_gives : (o : Option Value) (v : Value) → o ≡ Some v → Joins true (Ok o) m.heap t → KeepsGone m.heap t → Gives (λ nu. ask (Join true)) (λ nu. val_in nu v) m (with_heap m t)
  join_gives o v e k gone = let j = subst (λ (o : Option Value). Joins true (Ok o) m.heap t) e k in takes_steps (λ nu. ask (Join true)) (λ nu. steps_of (Join true)) (λ nu. asks_of (Join true)) val_in m t (Ok v) (join_performs (Ok v) j.stays j.did) gone

  pub join_leaves : (e : OpStop) → Joins true (Err e) m.heap t → KeepsGone m.heap t → Leaves (λ nu. ask (Join true)) (exit_at e) m (with_heap m t)
  join_leaves heap.NotWhole j gone = absurd (let n = naming t.names in j.did n.0 n.1)
  join_leaves heap.NoPrimitive j gone = absurd (let n = naming t.names in j.did n.0 n.1)
  join_leaves heap.TooLong j gone = join_long j
  join_leaves heap.Spent j gone = takes_steps (λ nu. ask (Join true)) (λ nu. steps_of (Join true)) (λ nu. asks_of (Join true)) val_in m t (Err heap.Spent) (join_performs (Err heap.Spent) j.stays j.did) gone
  join_leaves heap.Memory j gone = takes_steps (λ nu. ask (Join true)) (λ nu. steps_of (Join true)) (λ nu. asks_of (Join true)) val_in m t (Err heap.Memory) (join_performs (Err heap.Memory) j.stays (λ nu fits. tt)) gone

-- ---- built-in calls

module _ (g : Naming → Prog) (m : Moment alone) (t : Seen) (stays : Stays m.heap t) where
  said_run : (o : Naming → Outcome) → ((nu : Naming) → Fits nu t.names → does.ends_from (g nu) nu m.heap ≡ goes (o nu) (t.first nu) t.left) → Runs g (λ nu. shown.Says (o nu)) m (with_heap m t)
  unfolding run
  said_run o d = answered_run (program_came g m) t stays {g = λ nu. Done (o nu)} o d (λ nu c k. refl) ends_with

  pub called_run : (r : Result CallEnd OpStop) → ((nu : Naming) → Fits nu t.names → Did (does.ends_from (g nu) nu m.heap) (told (end_in nu) r) (t.first nu) t.left) → KeepsGone m.heap t → Runs g (λ nu. told_value nu (value_at r)) m (with_heap m t)
  called_run (Ok (end.Value v)) d gone = said_run (λ nu. model.Normal (val_in nu v)) d
  called_run (Ok (end.Thrown i)) d gone = said_run (λ nu. model.Throw (model.Object (nu i))) d
  called_run (Err heap.NotWhole) d gone = refused_run (program_came g m) t stays model.NotWhole refusal.NotWhole refl d
  called_run (Err heap.NoPrimitive) d gone = refused_run (program_came g m) t stays model.NoPrimitive refusal.NoPrimitive refl d
  called_run (Err heap.TooLong) d gone = refused_run (program_came g m) t stays model.TooLong refusal.TooLong refl d
  called_run (Err heap.Spent) d gone = spent_run (program_came g m) t stays gone d
  called_run (Err heap.Memory) d gone = lost_run (program_came g m) t stays

pub built_in_run : {X : Type 0} (g : Naming → Prog) (seen : X → Asked) (words : X → ℕ → ℕ) (run : AskedRun X) (n : Run) (r : Result CallEnd OpStop) (x : Result Value Exit) → x ≡ value_at r → does.Runs g (λ nu. told (end_in nu) r) (guarded run.guarded.machine) (guarded n)
    → Runs g (λ nu. told_value nu x) (moment_of seen words run) (with_heap (moment_of seen words run) (seen_of n))
built_in_run g seen words run n r x e d =
    let old = moment_of seen words run in
    subst (λ x. Runs g (λ nu. told_value nu x) old (with_heap old (seen_of n))) (sym e)
    (called_run g old (seen_of n) (stays_of run.guarded.machine n d.stays) r d.ran (gone_of run.guarded.machine n d.stays))
