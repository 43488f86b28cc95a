-- From what a call on a machine did to what the run does between two moments that differ in the heap alone.
use Rattle.std.specs.Prelude.{List, Option, Some, None, slice_get, Result, Ok, Err}
use Rattle.std.proofs.Common.{inl, ◌≡◌, ◌≤◌, ℕ, refl, sym, ap, subst, ◌∙◌, arith, [], append-nil}
use Rattle.turk_base.specs.Asks.{Rec, path_of}
use Rattle.turk_base.specs.Names.{Name, root, cell}
use Rattle.turk_base.specs.Values as model
use Rattle.turk_base.specs.Values.{Outcome, Normal}
use Rattle.turk_base.specs.Prog.{Prim, Prog, ask}
use Rattle.turk_base.specs.State.{St}
use Rattle.turk_base.specs.Steps.{Small, steps_of}
use Rattle.js_tree.specs.Run.{Res, ended, halted, bar, spent, run_steps, run}
use Rattle.js_tree.specs.World.{World, Rest}
use Rattle.run_laws.proofs.Sequel.{Place, run_at}
use Rattle.run_laws.proofs.Cuts.{Next, Follows}
use Rattle.run_laws.proofs.Fronts.{front}
use Rattle.run_laws.proofs.Within.{After}
use Rattle.ask_model.specs.declared.AskStop.{AskStop}
use Rattle.ask_model.specs.declared.AskStop.TheVariants as stop
use Rattle.value_cells.specs.declared.OpStop.{OpStop}
use Rattle.value_cells.specs.declared.OpStop.TheVariants as heap
use Rattle.value_cells.specs.Seen.{Naming, Seen, Fits, Scope}
use Rattle.value_cells.specs.Comes.{Comes, goes, stops, spends}
use Rattle.value_cells.specs.Does.{Stays, Kept, told, comes_from, ends_from}
use Rattle.run_heap.specs.Works.{Performs}
use Rattle.run_host.specs.declared.Halt.TheVariants as halt
use Rattle.run_host.specs.declared.Refusal.{Refusal}
use Rattle.run_host.specs.declared.Refusal.TheVariants as refusal
use Rattle.run_host.specs.declared.Exit.{Exit}
use Rattle.run_host.specs.Moment.{alone, Moment, rest_of, draws_in, Moves, Clear, place, Same, Within}
use Rattle.run_host.specs.Told.{Told, Halts, Fails, next_of, told_exit, refusal_in}
use Rattle.run_host.specs.Ends.{Comes as Outcomes, says, halts, fails}
use Rattle.run_host.specs.Did.{Runs}
use Rattle.run_host.specs.Steps.{Step, Leaves, Takes}
use Rattle.run_host.proofs.Moments.{fits_before, same_trans, within_trans, place_after}
use Rattle.machine_host.specs.Exits.{exit_at, answer_at}
use Rattle.machine_host.proofs.Bridge.{told_by, IsKnown, steps_are, ends_are, Holds, steps_hold, ends_hold}

-- ---- a naming that fits

abbrev name_of : Option Name → Name
name_of (Some n) = n
name_of None = cell root 0

pub naming : (names : List Name) → (nu : Naming) × Fits nu names
naming names = ((λ i. name_of (slice_get names i)), record { agrees = λ i n e. ap name_of e })

-- ---- the moment with another heap

abbrev pub with_heap : Moment alone → Seen → Moment alone
with_heap m t = record m { heap = t }

module _ (m : Moment alone) (t : Seen) (stays : Stays m.heap t) where
  pub same_heap : Same m (with_heap m t)
  same_heap = record { later = tt; session = refl; trace = refl; pairs = refl; grows = stays.grows }

  pub within_heap : t.left ≤ m.heap.left → Within m (with_heap m t)
  within_heap l = record { scope = stays.scope; outer = stays.outer; below = stays.below; falls = l }

  pub clear_heap : (nu : Naming) → (t.first nu).calls ≡ (m.heap.first nu).calls → Clear nu m → Clear nu (with_heap m t)
  clear_heap nu e c r i a =
      c r i (subst (λ (p : Scope). After p.path (m.heap.first nu).calls (path_of r)) stays.scope (subst (λ n. After t.scope.path n (path_of r)) e a))

-- nothing was drawn
pub moves_same : {m n : Moment alone} → n.words ≡ m.words → Moves m n []
moves_same {m} {n} e = record { on = λ k. ap (λ (w : ℕ → ℕ). w k) e ∙ ap m.words (omega arith) }

-- ---- programs that begin with steps

-- what the one does from the one state is what the other does from the other
pub record Begins (c : Place) (f g : Prog) (σ τ : St) (w x : Rest) : Type 0 where
  pub same : (k : Outcome → St → Rest → Res) → run_at c f k σ w ≡ run_at c g k τ x

pub begins_comes : {c : Place} {f g : Prog} {σ τ υ : St} {w x y : Rest} {l : List Rec} {next : AskStop → Next} {t : Told} → Begins c f g σ τ w x → Outcomes c g τ x l next t υ y → Outcomes c f σ w l next t υ y
begins_comes b (says e) = says (record { holds = λ k. b.same k ∙ e.holds k })
begins_comes b (halts h) = halts (record { out = h.out; is = h.is; at = h.at; left = h.left; like = h.like; fuel = h.fuel; stops = record { holds = λ k. b.same k ∙ h.stops.holds k } })
begins_comes {l = l} {next = next} b (fails {why = why} h) = fails (record { holds = λ k. subst (Follows l (next why)) (sym (b.same k)) (h.holds k) })

-- a step of a program that asks for these steps
pub record Asks {A : Type 0} (f : Step A) (g : Small A) : Type 0 where
  pub runs : (c : Place) (go : A → Prog) (k : Outcome → St → Rest → Res) (σ : St) (w : Rest) → run_at c (f go) k σ w ≡ run_steps g c.world c.trace c.scope c.branch c.body (λ a τ x. run_at c (go a) k τ x) σ w

pub asks_of : (p : Prim) → Asks (ask p) (steps_of p)
unfolding run
asks_of p = record { runs = λ c go k σ w. refl }

-- ---- what programs come to that ask nothing of the outside

-- `next` says how the program goes on where its first part answers.
pub record Came {B : Type 0} (f : Naming → Prog) (m : Moment alone) (come : Naming → Comes B) (next : Naming → Place → (Outcome → St → Rest → Res) → B → St → Rest → Res) : Type 0 where
  pub is : (nu : Naming) (E : World) (bound : ℕ) (k : Outcome → St → Rest → Res) → IsKnown (come nu) →
      run_at (place E bound m) (f nu) k (m.heap.first nu) (rest_of m) ≡ told_by (rest_of m) (next nu (place E bound m) k) (come nu)
  pub holds : (nu : Naming) → Holds (m.heap.first nu) m.heap.left (come nu)

pub steps_came : {A : Type 0} (f : Naming → Step A) (g : Naming → Small A) → ((nu : Naming) → Asks (f nu) (g nu)) → (m : Moment alone) (go : Naming → A → Prog) →
    Came (λ nu. f nu (go nu)) m (λ nu. comes_from (g nu) nu m.heap) (λ nu c k a τ x. run_at c (go nu a) k τ x)
steps_came f g asks m go = record {
  is = λ nu E bound k h.
      let c = place E bound m in
      (asks nu).runs c (go nu) k (m.heap.first nu) (rest_of m)
      ∙ steps_are (g nu) c.world c.trace c.scope c.branch c.body (λ a τ x. run_at c (go nu a) k τ x) (m.heap.first nu) (rest_of m) h;
  holds = λ nu. steps_hold (g nu) m.heap.scope.path m.heap.scope.branch m.heap.scope.body (m.heap.first nu) m.heap.left;
}

pub program_came : (g : Naming → Prog) (m : Moment alone) → Came g m (λ nu. ends_from (g nu) nu m.heap) (λ nu c k o τ x. k o τ x)
program_came g m = record {
  is = λ nu E bound k h. ends_are (g nu) (place E bound m) k (m.heap.first nu) (rest_of m) h;
  holds = λ nu. ends_hold (g nu) m.heap.scope.path m.heap.scope.branch m.heap.scope.body (m.heap.first nu) m.heap.left;
}

module _ {B : Type 0} {f : Naming → Prog} {m : Moment alone} {come : Naming → Comes B} {next : Naming → Place → (Outcome → St → Rest → Res) → B → St → Rest → Res}
    (came : Came f m come next) (t : Seen) (stays : Stays m.heap t) where
  -- what it came to, where that is known
  is_told : (nu : Naming) (E : World) (bound : ℕ) (k : Outcome → St → Rest → Res) (c : Comes B) → come nu ≡ c → IsKnown c →
      run_at (place E bound m) (f nu) k (m.heap.first nu) (rest_of m) ≡ told_by (rest_of m) (next nu (place E bound m) k) c
  is_told nu E bound k c e h = came.is nu E bound k (subst IsKnown (sym e) h) ∙ ap (told_by (rest_of m) (next nu (place E bound m) k)) e

  holds_of : (nu : Naming) (c : Comes B) → come nu ≡ c → Holds (m.heap.first nu) m.heap.left c
  holds_of nu c e = subst (Holds (m.heap.first nu) m.heap.left) e (came.holds nu)

  fell : (c : Naming → Comes B) → ((nu : Naming) → Fits nu t.names → come nu ≡ c nu) → ((nu : Naming) → Holds (m.heap.first nu) m.heap.left (c nu) → t.left ≤ m.heap.left) → t.left ≤ m.heap.left
  fell c d h = let n = naming t.names in h n.0 (holds_of n.0 (c n.0) (d n.0 n.1))

  pub refused_run : (y : model.Refusal) (z : Refusal) → refusal_in z ≡ y → ((nu : Naming) → Fits nu t.names → come nu ≡ stops y (t.first nu) t.left) → Runs f (λ nu. Halts (halt.Refused z)) m (with_heap m t)
  refused_run y z is d = record {
    same = same_heap m t stays;
    within = λ nu g. within_heap m t stays (fell (λ nu. stops y (t.first nu) t.left) d (λ nu h. h.0));
    added = [];
    made = sym (append-nil m.made);
    dealt = tt;
    moved = λ nu z. record { on = λ k. ap m.words (omega arith) };
    shown = λ nu. refl;
    ran = λ nu fits E s bound l c. halts (record {
      out = ended (bar y);
      is = ap (λ y. ended (bar y)) (sym is);
      at = t.first nu;
      left = t.left;
      like = record { text = refl; verdict = refl; gone = refl };
      fuel = λ z. refl;
      stops = record { holds = λ k. is_told nu E bound k (stops y (t.first nu) t.left) (d nu fits) tt };
    });
  }

  pub spent_run : ((nu : Naming) → (t.first nu).gone ≡ (m.heap.first nu).gone) → ((nu : Naming) → Fits nu t.names → (σ : St) × (n : ℕ) × (come nu ≡ spends σ n) × Kept σ (t.first nu))
      → Runs f (λ nu. Halts halt.Spent) m (with_heap m t)
  spent_run gone d = record {
    same = same_heap m t stays;
    within = λ nu g. absurd g;
    added = [];
    made = sym (append-nil m.made);
    dealt = tt;
    moved = λ nu z. record { on = λ k. ap m.words (omega arith) };
    shown = λ nu. refl;
    ran = λ nu fits E s bound l c.
        let q = d nu fits in
        let h = holds_of nu (spends q.0 q.1) q.2 in
        halts (record {
          out = halted spent;
          is = refl;
          at = q.0;
          left = q.1;
          like = record { text = sym q.3.text; verdict = sym q.3.verdict; gone = h.2 ∙ sym (gone nu) };
          fuel = λ z. absurd z;
          stops = record { holds = λ k. is_told nu E bound k (spends q.0 q.1) q.2 tt };
        });
  }

  pub lost_run : Runs f (λ nu. Fails stop.Memory) m (with_heap m t)
  lost_run = record {
    same = same_heap m t stays;
    within = λ nu g. absurd g;
    added = [];
    made = sym (append-nil m.made);
    dealt = tt;
    moved = λ nu z. record { on = λ k. ap m.words (omega arith) };
    shown = λ nu. inl refl;
    ran = λ nu fits E s bound l c. fails (record { holds = λ k. front _ refl });
  }

  -- where it answered, what comes after goes on from there
  pub answered_run : {g : Naming → Prog} {said : Naming → Told} {last : Moment alone} (a : Naming → B) → ((nu : Naming) → Fits nu t.names → come nu ≡ goes (a nu) (t.first nu) t.left)
      → ((nu : Naming) (c : Place) (k : Outcome → St → Rest → Res) → next nu c k (a nu) ≡ run_at c (g nu) k)
      → Runs g said (with_heap m t) last → Runs f said m last
  answered_run {g} {said} {last} a d on r = record {
    same = same_trans (same_heap m t stays) r.same;
    within = λ nu z. within_trans r.same (within_heap m t stays low) (r.within nu z);
    added = r.added;
    made = r.made;
    dealt = r.dealt;
    moved = λ nu z. record { on = (r.moved nu z).on };
    shown = r.shown;
    ran = λ nu fits E s bound l c.
        let e = d nu (fits_before r.same.grows fits) in
        let h = holds_of nu (goes (a nu) (t.first nu) t.left) e in
        begins_comes (record { same = λ k. is_told nu E bound k (goes (a nu) (t.first nu) t.left) e tt ∙ ap (λ (q : St → Rest → Res). q (t.first nu) (rest_of (with_heap m t))) (on nu (place E bound m) k) })
        (subst (λ p. Outcomes p (g nu) (t.first nu) (rest_of (with_heap m t)) r.added (next_of E (draws_in last.made) last.unmade) (said nu) (last.heap.first nu) (rest_of last))
        (place_after (same_heap m t stays) (within_heap m t stays low))
        (r.ran nu fits E s bound (omega (arith, low, l)) (clear_heap m t stays nu h.1 c)));
  }
    where
      low : t.left ≤ m.heap.left
      low = fell (λ nu. goes (a nu) (t.first nu) t.left) d (λ nu h. h.0)

-- ---- a request of a machine

-- what a call on a machine left of the absent branches, where it spent the fuel
abbrev pub KeepsGone : Seen → Seen → Type 0
KeepsGone s t = (nu : Naming) → (t.first nu).gone ≡ (s.first nu).gone

module _ {A B : Type 0} (f : Naming → Step A) (g : Naming → Small A) (asks : (nu : Naming) → Asks (f nu) (g nu)) (h : Naming → B → A) (m : Moment alone) (t : Seen) where
  leaves : (x : Exit) → ((go : Naming → A → Prog) → Runs (λ nu. f nu (go nu)) (λ nu. told_exit nu x) m (with_heap m t)) → Leaves f x m (with_heap m t)
  leaves x r = record { ends = r }

  -- The answer of a call that performed these steps is what the run does at the request.
  pub takes_steps : (r : Result B OpStop) → Performs g (λ nu. told (h nu) r) m.heap t → KeepsGone m.heap t → Takes f h (answer_at r) m (with_heap m t)
  takes_steps (Ok b) p gone = record { goes = λ go. record { goes = λ said last r. answered_run (steps_came f g asks m go) t p.stays (λ nu. h nu b) p.did (λ nu c k. refl) r } }
  takes_steps (Err heap.NotWhole) p gone = leaves (exit_at heap.NotWhole) (λ go. refused_run (steps_came f g asks m go) t p.stays model.NotWhole refusal.NotWhole refl p.did)
  takes_steps (Err heap.NoPrimitive) p gone = leaves (exit_at heap.NoPrimitive) (λ go. refused_run (steps_came f g asks m go) t p.stays model.NoPrimitive refusal.NoPrimitive refl p.did)
  takes_steps (Err heap.TooLong) p gone = leaves (exit_at heap.TooLong) (λ go. refused_run (steps_came f g asks m go) t p.stays model.TooLong refusal.TooLong refl p.did)
  takes_steps (Err heap.Spent) p gone = leaves (exit_at heap.Spent) (λ go. spent_run (steps_came f g asks m go) t p.stays gone p.did)
  takes_steps (Err heap.Memory) p gone = leaves (exit_at heap.Memory) (λ go. lost_run (steps_came f g asks m go) t p.stays)
