-- The count of forks only rises.
use Rattle.std.specs.Prelude.{List, Bool, true, false, Option, Some, None, nat_lt}
use Rattle.std.proofs.Common.{◌≤◌, ℕ, suc, zero, arith}
use Rattle.turk_base.specs.declared.Record.TheVariants as kept
use Rattle.turk_base.specs.Asks.{Question, posts, replies, draws, AnsOf, Rec, rec, find, below}
use Rattle.turk_base.specs.Names.{Path, sub}
use Rattle.turk_base.specs.Prog.{Prog, Done, Ask, Then, Always, Once, Fork, Loop}
use Rattle.turk_base.specs.State.{St, AnswerTo, op_cost, Act, gives, refused, waiting, stuck, act, any_gone, once_call, next_call, enter}
use Rattle.turk_base.specs.Steps.{Small, give, refuse, lost, step, ask, taking, put_data, steps_of}
use Rattle.turk_base.specs.Values.{Val, Undefined, Outcome, Normal, Break, Continue, Return, Throw}
use Rattle.js_tree.specs.Run.{datum, data_in, End, ret, thr, bar, Out, ended, waits, halted, Res, pay_if, on_act, on_kept, on_ask, run_steps, branch_end, body_end, after_body, on_once, once_goes, after_branch, on_fork, fork_goes, forked, on_normal, turns, run}
use Rattle.js_tree.specs.World.{World, Divergence, kept_answer, Fresh, fresh, Rest, drew, noted}
use native.Mathlib.Nat.{le_refl, le_trans}

abbrev pub RisesK : {A : Type 0} → (A → St → Rest → Res) → Type 0
RisesK {A} k = (a : A) (τ : St) (w : Rest) → w.forks ≤ (k a τ w).rest.forks

pub body_rises : (o : Out) (r : Res) (p : Path) (σ : St) (k : End → St → Rest → Res) → RisesK k → r.rest.forks ≤ (after_body o r p σ k).rest.forks
body_rises (ended (ret x)) r p σ k h = h _ _ _
body_rises (ended (thr v)) r p σ k h = h _ _ _
body_rises (ended (bar w)) r p σ k h = le_refl _
body_rises waits r p σ k h = le_refl _
body_rises (halted w) r p σ k h = le_refl _

pub branch_rises : (g : Bool) (o : Out) (r : Res) (p : Path) (σ : St) (k : End → St → Rest → Res) → RisesK k → r.rest.forks ≤ (after_branch g o r p σ k).rest.forks
branch_rises false (ended (ret v)) r p σ k h = h _ _ _
branch_rises false (ended (thr v)) r p σ k h = h _ _ _
branch_rises false (ended (bar w)) r p σ k h = le_refl _
branch_rises true (ended x) r p σ k h = h _ _ _
branch_rises false waits r p σ k h = h _ _ _
branch_rises true waits r p σ k h = h _ _ _
branch_rises false (halted w) r p σ k h = le_refl _
branch_rises true (halted w) r p σ k h = le_refl _

pub drew_rises : (q : Question) (w : Rest) → w.forks ≤ (drew q w).forks
drew_rises (posts t) w = le_refl _
drew_rises (replies t) w = le_refl _
drew_rises (draws m) w = le_refl _

noted_rises : (q : Question) (w : Rest) → w.forks ≤ (noted q w).forks
noted_rises (posts t) w = le_refl _
noted_rises (replies t) w = le_refl _
noted_rises (draws m) w = le_refl _

pub steps_rises : {A : Type 0} (g : Small A) (E : World) (T : List Rec) (s b : Path) (body : Bool) (k : A → St → Rest → Res) → RisesK k →
    (σ : St) (w : Rest) → w.forks ≤ (run_steps g E T s b body k σ w).rest.forks
unfolding run_steps
steps_rises (give a) E T s b body k h σ w = h a σ w
steps_rises (refuse why) E T s b body k h σ w = le_refl _
steps_rises lost E T s b body k h σ w = le_refl _
steps_rises (step o go) E T s b body k h σ w = paid (nat_lt w.left (op_cost o σ)) (λ a τ w'. steps_rises (go a) E T s b body k h τ w')
  where
    inner : (X : Act (AnswerTo o)) (w' : Rest) → ((a : AnswerTo o) (τ : St) (w' : Rest) → w'.forks ≤ (run_steps (go a) E T s b body k τ w').rest.forks) →
        w'.forks ≤ (on_act X σ w' (λ a τ w''. run_steps (go a) E T s b body k τ w'')).rest.forks
    inner (gives a τ) w' ih = ih a τ w'
    inner (refused why) w' ih = le_refl _
    inner (waiting x) w' ih = le_refl _
    inner stuck w' ih = le_refl _

    paid : (t : Bool) → ((a : AnswerTo o) (τ : St) (w' : Rest) → w'.forks ≤ (run_steps (go a) E T s b body k τ w').rest.forks) →
        w.forks ≤ (pay_if t (op_cost o σ) σ w (λ w'. on_act (act o s b body σ) σ w' (λ a τ w''. run_steps (go a) E T s b body k τ w''))).rest.forks
    paid true ih = le_refl _
    paid false ih = inner (act o s b body σ) _ ih
steps_rises (ask q go) E T s b body k h σ w = inner (find (sub σ.calls s) T) (below (sub σ.calls s) T) (fresh q E w.drawn (sub σ.calls s)) (λ a w'. steps_rises (go a) E T s b body k h (next_call σ) w')
  where
    on : (o : Option (AnsOf q)) (d : Divergence) → ((a : AnsOf q) (w' : Rest) → w'.forks ≤ (run_steps (go a) E T s b body k (next_call σ) w').rest.forks) →
        w.forks ≤ (on_kept o d (next_call σ) w (λ a w'. run_steps (go a) E T s b body k (next_call σ) w')).rest.forks
    on (Some a) d ih = ih a w
    on None d ih = le_refl _

    inner : (c : Option Rec) (t : Bool) (n : Option (Fresh q)) → ((a : AnsOf q) (w' : Rest) → w'.forks ≤ (run_steps (go a) E T s b body k (next_call σ) w').rest.forks) →
        w.forks ≤ (on_ask q c t n E (sub σ.calls s) (next_call σ) w (λ a w'. run_steps (go a) E T s b body k (next_call σ) w')).rest.forks
    inner (Some (rec r x)) t n ih = on (kept_answer q E.session (sub σ.calls s) x) _ ih
    inner None true n ih = le_refl _
    inner None false (Some f) ih = le_trans (drew_rises q w) (ih f.answer (drew q w))
    inner None false None ih = noted_rises q w

pub branch_end_rises : RisesK branch_end
branch_end_rises (Normal v) τ w = le_refl _
branch_end_rises Break τ w = le_refl _
branch_end_rises Continue τ w = le_refl _
branch_end_rises (Return v) τ w = le_refl _
branch_end_rises (Throw v) τ w = le_refl _

pub body_end_rises : (E : World) (T : List Rec) (s b : Path) → RisesK (body_end E T s b)
body_end_rises E T s b (Normal v) τ w = steps_rises (taking v) E T s b true _ (λ d τ w. le_refl _) τ w
body_end_rises E T s b Break τ w = steps_rises (taking Undefined) E T s b true _ (λ d τ w. le_refl _) τ w
body_end_rises E T s b Continue τ w = steps_rises (taking Undefined) E T s b true _ (λ d τ w. le_refl _) τ w
body_end_rises E T s b (Return v) τ w = steps_rises (taking v) E T s b true _ (λ d τ w. le_refl _) τ w
body_end_rises E T s b (Throw v) τ w = le_refl _

pub once_goes_rises : (E : World) (T : List Rec) (s b : Path) (body : Bool) (k : Outcome → St → Rest → Res) → RisesK k → RisesK (once_goes E T s b body k)
once_goes_rises E T s b body k h (ret x) τ w = steps_rises (put_data (data_in x)) E T s b body _ (λ v τ w. h (Normal v) τ w) τ w
once_goes_rises E T s b body k h (thr v) τ w = h (Throw v) τ w
once_goes_rises E T s b body k h (bar y) τ w = le_refl _

pub fork_goes_rises : (k : Outcome → St → Rest → Res) → RisesK k → RisesK (fork_goes k)
fork_goes_rises k h (ret x) τ w = h (Normal Undefined) τ w
fork_goes_rises k h (thr v) τ w = h (Throw v) τ w
fork_goes_rises k h (bar y) τ w = le_refl _

pub normal_rises : (g : Val → St → Rest → Res) (k : Outcome → St → Rest → Res) → RisesK g → RisesK k → RisesK (on_normal g k)
normal_rises g k hg hk (Normal v) τ w = hg v τ w
normal_rises g k hg hk Break τ w = hk Break τ w
normal_rises g k hg hk Continue τ w = hk Continue τ w
normal_rises g k hg hk (Return v) τ w = hk (Return v) τ w
normal_rises g k hg hk (Throw v) τ w = hk (Throw v) τ w

pub turns_rises : (turn : (Outcome → St → Rest → Res) → St → Rest → Res) → ((k : Outcome → St → Rest → Res) → RisesK k → (σ : St) (w : Rest) → w.forks ≤ (turn k σ w).rest.forks) →
    (N : ℕ) (k : Outcome → St → Rest → Res) → RisesK k → (σ : St) (w : Rest) → w.forks ≤ (turns N turn k σ w).rest.forks
unfolding turns
turns_rises turn h zero k hk σ w = le_refl _
turns_rises turn h (suc n) k hk σ w = h _ (normal_rises _ k (λ v τ w'. turns_rises turn h n k hk τ w') hk) σ w

less_by_one : {m n : ℕ} → suc m ≤ n → m ≤ n
less_by_one l = omega (arith, l)

pub fork_rises : (g : Prog) (E : World) (T : List Rec) (N : ℕ) (s : Path) (k : Outcome → St → Rest → Res) → RisesK k → (σ : St) (w : Rest) →
    suc w.forks ≤ (run g E T N (sub σ.calls s) (sub σ.calls s) false branch_end (enter (next_call σ)) (forked w)).rest.forks → RisesK (fork_goes k) →
    suc w.forks ≤ (on_fork (find (sub σ.calls s) T) (next_call σ) (forked w) (fork_goes k) (run g E T N (sub σ.calls s) (sub σ.calls s) false branch_end (enter (next_call σ)) (forked w)) (sub σ.calls s)).rest.forks
fork_rises g E T N s k h σ w = inner (find (sub σ.calls s) T)
  where
    inner : (c : Option Rec) → suc w.forks ≤ (run g E T N (sub σ.calls s) (sub σ.calls s) false branch_end (enter (next_call σ)) (forked w)).rest.forks → RisesK (fork_goes k) →
        suc w.forks ≤ (on_fork c (next_call σ) (forked w) (fork_goes k) (run g E T N (sub σ.calls s) (sub σ.calls s) false branch_end (enter (next_call σ)) (forked w)) (sub σ.calls s)).rest.forks
    inner (Some (rec q x)) l ih = le_refl _
    inner None l ih = le_trans l (branch_rises (any_gone (sub σ.calls s) (run g E T N (sub σ.calls s) (sub σ.calls s) false branch_end (enter (next_call σ)) (forked w)).st.gone)
        (run g E T N (sub σ.calls s) (sub σ.calls s) false branch_end (enter (next_call σ)) (forked w)).out _ (sub σ.calls s) (next_call σ) (fork_goes k) ih)

pub run_rises : (g : Prog) (E : World) (T : List Rec) (N : ℕ) (s b : Path) (body : Bool) (k : Outcome → St → Rest → Res) → RisesK k → (σ : St) (w : Rest) → w.forks ≤ (run g E T N s b body k σ w).rest.forks
unfolding run
run_rises (Done o) E T N s b body k h σ w = h o σ w
run_rises (Ask p go) E T N s b body k h σ w = steps_rises (steps_of p) E T s b body _ (λ a τ w'. run_rises (go a) E T N s b body k h τ w') σ w
run_rises (Then g go) E T N s b body k h σ w = run_rises g E T N s b body _ (normal_rises _ k (λ v τ w'. run_rises (go v) E T N s b body k h τ w') h) σ w
run_rises (Always g go) E T N s b body k h σ w = run_rises g E T N s b body _ (λ o τ w'. run_rises (go o) E T N s b body k h τ w') σ w
run_rises (Once g) E T N s b body k h σ w = inner (find (sub σ.calls s) T)
    (run_rises g E T N (sub σ.calls s) b true _ (body_end_rises E T (sub σ.calls s) b) (enter (once_call b (next_call σ))) w) (once_goes_rises E T s b body k h)
  where
    inner : (c : Option Rec) → w.forks ≤ (run g E T N (sub σ.calls s) b true (body_end E T (sub σ.calls s) b) (enter (once_call b (next_call σ))) w).rest.forks → RisesK (once_goes E T s b body k) →
        w.forks ≤ (on_once c (once_call b (next_call σ)) w (once_goes E T s b body k) (run g E T N (sub σ.calls s) b true (body_end E T (sub σ.calls s) b) (enter (once_call b (next_call σ))) w) (sub σ.calls s)).rest.forks
    inner (Some (rec q (kept.Once d))) l ih = ih (ret (datum d)) (once_call b (next_call σ)) w
    inner (Some (rec q (kept.Post t))) l ih = le_refl _
    inner (Some (rec q (kept.Reply t x))) l ih = le_refl _
    inner (Some (rec q (kept.Draw m n))) l ih = le_refl _
    inner None l ih = le_trans l (body_rises (run g E T N (sub σ.calls s) b true (body_end E T (sub σ.calls s) b) (enter (once_call b (next_call σ))) w).out _ (sub σ.calls s) (once_call b (next_call σ)) (once_goes E T s b body k) ih)
run_rises (Fork g) E T N s b true k h σ w = le_refl _
run_rises (Fork g) E T N s b false k h σ w = less_by_one (fork_rises g E T N s k h σ w (run_rises g E T N (sub σ.calls s) (sub σ.calls s) false _ branch_end_rises (enter (next_call σ)) (forked w)) (fork_goes_rises k h))
run_rises (Loop g) E T N s b body k h σ w = turns_rises _ (λ k' h' τ w'. run_rises g E T N s b body k' h' τ w') N k h σ w
