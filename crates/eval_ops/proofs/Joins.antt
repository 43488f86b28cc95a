-- The branches of the scope that runs are joined.
use Rattle.std.proofs.Common.{◌≡◌, refl, ap, sym, ◌∙◌, subst, ℕ, suc, ◌-◌, ◌<◌, ◌≤◌, nat_lt, Bool, true, false, List, [], ◌∷◌, length, Option, Some, None, map, slice_get, arith, decimal}
use Rattle.std.specs.Result.{IsErrAnd}
use Rattle.std.proofs.lemmas.Bool.Decides.{nat_tests}
use Rattle.std.proofs.lemmas.List.{length-map}
use Rattle.std.specs.Prelude.{Result, Ok, Err}
use Rattle.turk_base.specs.Names.{Path, path_in, Name}
use Rattle.turk_base.specs.Values as model
use Rattle.turk_base.specs.Values.{Val, Refusal, Array}
use Rattle.turk_base.specs.Cells.{put, grow}
use Rattle.turk_base.specs.State.{St, Op, AnswerTo, Act, act, act_join, gives, refused, waiting, stuck, op_cost, make, change, join, any_gone, too_many, join_scope}
use Rattle.turk_base.specs.Prog.{Make}
use Rattle.turk_base.specs.Steps.{Small, give, step, fill, joined, steps_of}
use Rattle.branch_check.specs.Watch.{after_join}
use Rattle.value_cells.specs.declared.Value.{Value}
use Rattle.value_cells.specs.declared.CellKind.TheVariants as Code
use Rattle.value_cells.specs.declared.OpStop.{OpStop}
use Rattle.value_cells.specs.declared.OpStop.TheVariants.{NotWhole, NoPrimitive, TooLong, Spent, Memory}
use Rattle.value_cells.specs.Comes.{Comes, goes, stops, spends, other, then_goes, acted, charged, comes}
use Rattle.value_cells.specs.Seen.{Naming, Seen, Fits, val_in, kind_in}
use Rattle.value_cells.specs.Does.{Told, Says, Refuses, Spends, Fails, told, told_stop, Did, Stays, comes_from}
use Rattle.value_cells.proofs.Turns.{stays_same, stays_then, fits_before}
use Rattle.run_heap.specs.Core as core
use Rattle.run_heap.specs.Core.{Core, names_in, Rests}
use Rattle.run_heap.specs.Placed.{Around, seen_in, known_of, props_of}
use Rattle.run_heap.specs.Works.{Works}
use Rattle.run_heap.specs.Watching.{Watches}
use Rattle.run_heap.proofs.Acts.{comes_bind, step_goes}
use Rattle.run_heap.proofs.Turn.{works_then, works_out}
use Rattle.eval_ops.specs.Run.{Run, around, seen_of}
use Rattle.eval_ops.specs.Stored.{IsRun, HasRoom}
use Rattle.eval_ops.specs.Calls.{join_from, Joins}
use Rattle.eval_ops.proofs.Machines.{SameAround, SameBase, rests_at, rests_base, around_same, stays_of}

-- the scope's values are taken, and its branches are joined
abbrev pub cleared : Run → Core → Run
cleared m h = record m { heap = h; values = [] }

module _ (m : Run) (h : Core) (r : Rests m.heap h) (w : Watches (λ v. after_join (path_in m.heap.place.path) v) m.heap h) where
  same : SameAround m (cleared m h)
  same = record {
    body = refl;
    many = refl;
    alike = record { same = λ i l. rests_at m (cleared m h) i r refl (λ o e. record { printed = refl; absent = refl }) };
  }

  pub stays_joined : Stays (seen_of m) (seen_of (cleared m h))
  unfolding same
  stays_joined = stays_of m (cleared m h) same r.path r.branch (λ i. names_in (w.cells i).now)

  module _ (wanted : Bool) (nu : Naming) (fits : Fits nu (names_in m.heap.cells.now)) (here : any_gone (path_in m.heap.place.path) ((seen_of m).first nu).gone ≡ false) (few : too_many wanted ((seen_of m).first nu).vals ≡ false) where
    first_joined : join_scope (path_in m.heap.place.path) ((seen_of m).first nu) ≡ (seen_of (cleared m h)).first nu
    first_joined =
        let σ = (seen_of m).first nu in
        let v = w.now nu fits in
        sym (λ x. record {
          calls = r.calls x;
          cells = w.made x;
          vals = [];
          known = known_of nu (w.cells x).now;
          props = props_of nu (w.cells x).now;
          text = σ.text;
          opened = (v x).opened;
          verdict = (v x).verdict;
          gone = σ.gone;
        })

    acts : act (join wanted) (path_in m.heap.place.path) (path_in m.heap.place.branch) false ((seen_of m).first nu) ≡ gives (map (val_in nu) m.values) ((seen_of (cleared m h)).first nu)
    unfolding act
    acts =
        (λ x. act_join false (here x) (few x) (path_in m.heap.place.path) ((seen_of m).first nu))
        ∙ ap (gives (map (val_in nu) m.values)) first_joined

    -- what is left to do after the slots are cut
    pub joins_on : join_from wanted nu (seen_of m) ≡ comes (joined wanted (map (val_in nu) m.values)) (path_in m.heap.place.path) (path_in m.heap.place.branch) false ((seen_of (cleared m h)).first nu) h.left
    unfolding steps_of acts
    joins_on =
        let s = path_in m.heap.place.path in
        let b = path_in m.heap.place.branch in
        let σ = (seen_of m).first nu in
        let vs = map (val_in nu) m.values in
        let one = step_goes (join wanted) s b false σ m.heap.left 0 vs ((seen_of (cleared m h)).first nu) refl (omega arith) acts in
        let left : m.heap.left - 0 ≡ h.left = omega (arith, w.left) in
        comes_bind s b false (step (join wanted) give) (λ vs. joined wanted vs) σ m.heap.left
        ∙ ap (λ c. then_goes c (λ a τ n. comes (joined wanted a) s b false τ n)) one
        ∙ ap (comes (joined wanted vs) s b false ((seen_of (cleared m h)).first nu)) left

-- ---- an array of the values

abbrev IsStopped : {A : Type 0} → Comes A → Type 0
IsStopped (goes a σ n) = ⊥
IsStopped (stops why σ n) = Unit {0}
IsStopped (spends σ n) = ⊥
IsStopped other = ⊥

module _ {A : Type 0} (s b : Path) (body : Bool) where
  step_runs : (o : Op) (go : AnswerTo o → Small A) → ((a : AnswerTo o) (τ : St) (n : ℕ) → IsStopped (comes (go a) s b body τ n) → ⊥) → (σ : St) (n : ℕ) → IsStopped (comes (step o go) s b body σ n) → ⊥
  unfolding comes
  step_runs o go r σ n = by (nat_lt n (op_cost o σ)) (act o s b body σ) go r
    where
      by : {C : Type 0} (t : Bool) (x : Act C) (go : C → Small A) → ((a : C) (τ : St) (n : ℕ) → IsStopped (comes (go a) s b body τ n) → ⊥)
          → IsStopped (charged t (op_cost o σ) σ n (then_goes (acted x (n - op_cost o σ)) (λ a τ m. comes (go a) s b body τ m))) → ⊥
      by true x go r = λ z. z
      by false (gives a τ) go r = r a τ (n - op_cost o σ)
      by false (refused why) go r = λ z. z
      by false (waiting w) go r = λ z. z
      by false stuck go r = λ z. z

module _ (s b : Path) (body : Bool) where
  fill_runs : (c : Name) (i : ℕ) (vs : List Val) (σ : St) (n : ℕ) → IsStopped (comes (fill c i vs) s b body σ n) → ⊥
  unfolding comes
  fill_runs c i [] σ n = λ z. z
  fill_runs c i (v ∷ vs) σ n =
      step_runs s b body (change true c (put (decimal i) v)) (λ _. step (change true c (grow i)) (λ _. fill c (suc i) vs))
      (λ a τ n. step_runs s b body (change true c (grow i)) (λ _. fill c (suc i) vs) (λ a τ n. fill_runs c (suc i) vs τ n) τ n) σ n

  joined_runs : (wanted : Bool) (vs : List Val) (σ : St) (n : ℕ) → IsStopped (comes (joined wanted vs) s b body σ n) → ⊥
  unfolding comes
  joined_runs true vs σ n = step_runs s b body (make true Array) (λ c. fill c 0 vs) (λ c τ n. fill_runs c 0 vs τ n) σ n
  joined_runs false vs σ n = λ z. z

-- the array is made, and filled
module _ (vs : List Value) (h : Core) where
  pub array_filled : (cell : ℕ) (r : Result Value OpStop) (mid last : Core) → Works (λ nu. steps_of (Make (kind_in nu Code.Array))) (λ nu. Says (nu cell)) h mid
      → Works (λ nu. fill (nu cell) 0 (map (val_in nu) vs)) (λ nu. told (val_in nu) r) mid last → Works (λ nu. joined true (map (val_in nu) vs)) (λ nu. told (val_in nu) r) h last
  unfolding steps_of
  array_filled cell r mid last x y = works_then (λ nu. step (make true Array) give) (λ nu. nu cell) (λ nu c. fill c 0 (map (val_in nu) vs)) (λ nu. told (val_in nu) r) h mid last x y

  pub array_out : (e : OpStop) (mid : Core) → Works (λ nu. steps_of (Make (kind_in nu Code.Array))) (λ nu. told_stop e) h mid → Works (λ nu. joined true (map (val_in nu) vs)) (λ nu. told_stop e) h mid
  unfolding steps_of
  array_out e mid x = works_out (λ nu. step (make true Array) give) (λ nu c. fill c 0 (map (val_in nu) vs)) e h mid x

-- ---- what was answered

module _ (m : Run) (h : Core) (r : Rests m.heap h) (w : Watches (λ v. after_join (path_in m.heap.place.path) v) m.heap h) (wanted : Bool)
    (here : (nu : Naming) → any_gone (path_in m.heap.place.path) ((seen_of m).first nu).gone ≡ false) (few : (nu : Naming) → too_many wanted ((seen_of m).first nu).vals ≡ false)
    (last : Core) (r2 : Rests h last) where
  abbrev pub ended : Run
  ended = cleared m last

  same_base : SameBase (cleared m h) ended
  same_base = rests_base (cleared m h) last r2

  -- the steps after the cut, in a scope that is in no once body
  abbrev pub outside : Around
  outside = record (around (cleared m h)) { body = false }

  goes_on : (said : Naming → Told Val) → Works (λ nu. joined wanted (map (val_in nu) m.values)) said h last → (nu : Naming) → Fits nu (names_in last.cells.now)
      → Did (join_from wanted nu (seen_of m)) (said nu) ((seen_of ended).first nu) last.left
  unfolding same_base
  goes_on said x nu fits =
      let p = x.all outside in
      let before : Fits nu (names_in h.cells.now) = fits_before nu (names_in h.cells.now) (names_in last.cells.now) p.stays.grows fits in
      let fits_m : Fits nu (names_in m.heap.cells.now) = subst (λ ns. Fits nu ns) (λ i. names_in (w.cells i).now) before in
      let on = joins_on m h r w wanted nu fits_m (here nu) (few nu) in
      let a : around ended ≡ around (cleared m h) = around_same (cleared m h) ended same_base in
      let scope : comes_from (joined wanted (map (val_in nu) m.values)) nu (seen_in outside h) ≡ join_from wanted nu (seen_of m) =
      (λ i. comes (joined wanted (map (val_in nu) m.values)) (path_in (r.path i)) (path_in (r.branch i)) false ((seen_of (cleared m h)).first nu) h.left) ∙ sym on in
      subst (λ (x : Around). Did (join_from wanted nu (seen_of m)) (said nu) ((seen_in x last).first nu) last.left) (sym a)
      (subst (λ c. Did c (said nu) ((seen_in (around (cleared m h)) last).first nu) last.left) scope (p.did nu fits))

  stays_all : (said : Naming → Told Val) → Works (λ nu. joined wanted (map (val_in nu) m.values)) said h last → Stays (seen_of m) (seen_of ended)
  unfolding same_base
  stays_all said x =
      stays_then (seen_of m) (seen_of (cleared m h)) (seen_of ended) (stays_joined m h r w)
      (subst (λ (q : Around). Stays (seen_of (cleared m h)) (seen_in q last)) (sym (around_same (cleared m h) ended same_base)) (x.all (around (cleared m h))).stays)

  pub joins_value : (v : Value) → Works (λ nu. joined wanted (map (val_in nu) m.values)) (λ nu. Says (val_in nu v)) h last → Joins wanted (Ok (Some v)) (seen_of m) (seen_of ended)
  unfolding goes_on stays_all
  joins_value v x = record { stays = stays_all (λ nu. Says (val_in nu v)) x; did = λ nu fits. goes_on (λ nu. Says (val_in nu v)) x nu fits }

  no_stop : (why : Refusal) (nu : Naming) → Fits nu (names_in last.cells.now) → Works (λ nu. joined wanted (map (val_in nu) m.values)) (λ nu. Refuses why) h last → ⊥
  no_stop why nu fits x =
      let p = x.all outside in
      joined_runs (path_in h.place.path) (path_in h.place.branch) false wanted (map (val_in nu) m.values) ((seen_in outside h).first nu) h.left (subst IsStopped (sym (p.did nu fits)) tt)

  pub joins_out : (e : OpStop) → Works (λ nu. joined wanted (map (val_in nu) m.values)) (λ nu. told_stop e) h last → Joins wanted (Err e) (seen_of m) (seen_of ended)
  unfolding goes_on stays_all no_stop
  joins_out NotWhole x = record { stays = stays_all (λ nu. Refuses model.NotWhole) x; did = λ nu fits. absurd (no_stop model.NotWhole nu fits x) }
  joins_out NoPrimitive x = record { stays = stays_all (λ nu. Refuses model.NoPrimitive) x; did = λ nu fits. absurd (no_stop model.NoPrimitive nu fits x) }
  joins_out TooLong x = record { stays = stays_all (λ nu. Refuses model.TooLong) x; did = λ nu fits. absurd (no_stop model.TooLong nu fits x) }
  joins_out Spent x = record { stays = stays_all (λ nu. Spends) x; did = λ nu fits. goes_on (λ nu. Spends) x nu fits }
  joins_out Memory x = record { stays = stays_all (λ nu. Fails) x; did = λ nu fits. tt }

-- ---- nothing was done

pub joins_none : (m : Run) (wanted : Bool) → ((nu : Naming) → any_gone (path_in m.heap.place.path) ((seen_of m).first nu).gone ≡ true) → Joins wanted (Ok None) (seen_of m) (seen_of m)
joins_none m wanted gone = record { stays = stays_same (seen_of m); did = λ nu fits. (gone nu, (refl, refl)) }

pub joins_many : (m : Run) → ((nu : Naming) → any_gone (path_in m.heap.place.path) ((seen_of m).first nu).gone ≡ false) → 1000000 < length m.values → Joins true (Err TooLong) (seen_of m) (seen_of m)
joins_many m here many = record {
  stays = stays_same (seen_of m);
  did = λ nu fits. (here nu, (let t : nat_lt 1000000 (length (map (val_in nu) m.values)) ≡ true = let l = length-map m.values (val_in nu) in grind (arith, nat_tests, l) in t), (refl, refl));
}

pub joins_fails : (m : Run) (wanted : Bool) (t : Seen) → Stays (seen_of m) t → Joins wanted (Err Memory) (seen_of m) t
joins_fails m wanted t h = record { stays = h; did = λ nu fits. tt }

pub few_values : (wanted : Bool) (m : Run) → (wanted ≡ true → length m.values ≤ 1000000) → (nu : Naming) → too_many wanted ((seen_of m).first nu).vals ≡ false
few_values true m h nu = let l = length-map m.values (val_in nu) in let q = h refl in grind (arith, nat_tests, l, q)
few_values false m h nu = refl

pub cleared_run : (m : Run) (h : Core) → IsRun m → Rests m.heap h → core.count m.heap ≤ core.count h → IsRun (cleared m h)
cleared_run m h k r l = record {
  values = omega arith;
  kept_values = λ i o cells e f. k.kept_values i o cells e (ap (λ l. slice_get l i) (sym r.cells) ∙ f);
  as_many = k.as_many ∙ ap length (sym r.outer);
  printed = k.printed;
  absent = k.absent;
  ordered = k.ordered;
}

-- at an exit
pub joins_exit : (wanted : Bool) (r : Result (Option Value) OpStop) (x : OpStop) (s t : Seen) → IsErrAnd r (λ e. e ≡ x) → Joins wanted (Err x) s t → Joins wanted r s t
joins_exit wanted (Ok b) x s t h y = absurd h
joins_exit wanted (Err e) x s t h y = subst (λ e. Joins wanted (Err e) s t) (sym h) y

pub cleared_room : (m : Run) (h : Core) (n : ℕ) → HasRoom m n → HasRoom (cleared m h) n
cleared_room m h n r = record { kept = r.kept; now = r.now }
