-- Fuel only falls.
use Rattle.std.specs.Prelude.{List, Bool, true, false, Option, Some, None, nat_lt, ◌-◌}
use Rattle.std.proofs.Common.{◌≤◌, ℕ, suc, zero, arith}
use Rattle.turk_base.specs.declared.Record.TheVariants as kept
use Rattle.turk_base.specs.Asks.{Question, posts, replies, draws, AnsOf, Rec, rec, find, below}
use Rattle.turk_base.specs.Names.{Path, sub}
use Rattle.turk_base.specs.Prog.{Prog, Done, Ask, Then, Always, Once, Fork, Loop}
use Rattle.turk_base.specs.State.{St, AnswerTo, op_cost, Act, gives, refused, waiting, stuck, act, any_gone, once_call, next_call, enter}
use Rattle.turk_base.specs.Steps.{Small, give, refuse, lost, step, ask, taking, put_data, steps_of}
use Rattle.turk_base.specs.Values.{Val, Undefined, Outcome, Normal, Break, Continue, Return, Throw}
use Rattle.js_tree.specs.Run.{datum, data_in, End, ret, thr, bar, Out, ended, waits, halted, Res, pay_if, on_act, on_kept, on_ask, run_steps, branch_end, body_end, after_body, on_once, once_goes, after_branch, on_fork, fork_goes, forked, on_normal, turns, run}
use Rattle.js_tree.specs.World.{World, Divergence, kept_answer, Fresh, fresh, Rest, drew, noted}
use native.Mathlib.Nat.{le_refl, le_trans}

-- ---- fuel only falls

abbrev pub FallsK : {A : Type 0} → (A → St → Rest → Res) → Type 0
FallsK {A} k = (a : A) (τ : St) (w : Rest) → (k a τ w).rest.left ≤ w.left

pub body_left : (o : Out) (r : Res) (p : Path) (σ : St) (k : End → St → Rest → Res) → FallsK k → (after_body o r p σ k).rest.left ≤ r.rest.left
body_left (ended (ret x)) r p σ k h = h _ _ _
body_left (ended (thr v)) r p σ k h = h _ _ _
body_left (ended (bar w)) r p σ k h = le_refl _
body_left waits r p σ k h = le_refl _
body_left (halted w) r p σ k h = le_refl _

pub branch_left : (g : Bool) (o : Out) (r : Res) (p : Path) (σ : St) (k : End → St → Rest → Res) → FallsK k → (after_branch g o r p σ k).rest.left ≤ r.rest.left
branch_left false (ended (ret v)) r p σ k h = h _ _ _
branch_left false (ended (thr v)) r p σ k h = h _ _ _
branch_left false (ended (bar w)) r p σ k h = le_refl _
branch_left true (ended x) r p σ k h = h _ _ _
branch_left false waits r p σ k h = h _ _ _
branch_left true waits r p σ k h = h _ _ _
branch_left false (halted w) r p σ k h = le_refl _
branch_left true (halted w) r p σ k h = le_refl _

pub drew_left : (q : Question) (w : Rest) → (drew q w).left ≤ w.left
drew_left (posts t) w = le_refl _
drew_left (replies t) w = le_refl _
drew_left (draws m) w = le_refl _

noted_left : (q : Question) (w : Rest) → (noted q w).left ≤ w.left
noted_left (posts t) w = le_refl _
noted_left (replies t) w = le_refl _
noted_left (draws m) w = le_refl _

pub minus_le : (m n : ℕ) → m - n ≤ m
minus_le m n = omega arith

pub steps_left : {A : Type 0} (g : Small A) (E : World) (T : List Rec) (s b : Path) (body : Bool) (k : A → St → Rest → Res) → FallsK k →
    (σ : St) (w : Rest) → (run_steps g E T s b body k σ w).rest.left ≤ w.left
unfolding run_steps
steps_left (give a) E T s b body k h σ w = h a σ w
steps_left (refuse why) E T s b body k h σ w = le_refl _
steps_left lost E T s b body k h σ w = le_refl _
steps_left (step o go) E T s b body k h σ w = paid (nat_lt w.left (op_cost o σ)) (λ a τ w'. steps_left (go a) E T s b body k h τ w')
  where
    inner : (X : Act (AnswerTo o)) (w' : Rest) → ((a : AnswerTo o) (τ : St) (w' : Rest) → (run_steps (go a) E T s b body k τ w').rest.left ≤ w'.left) →
        (on_act X σ w' (λ a τ w''. run_steps (go a) E T s b body k τ w'')).rest.left ≤ w'.left
    inner (gives a τ) w' ih = ih a τ w'
    inner (refused why) w' ih = le_refl _
    inner (waiting x) w' ih = le_refl _
    inner stuck w' ih = le_refl _

    paid : (t : Bool) → ((a : AnswerTo o) (τ : St) (w' : Rest) → (run_steps (go a) E T s b body k τ w').rest.left ≤ w'.left) →
        (pay_if t (op_cost o σ) σ w (λ w'. on_act (act o s b body σ) σ w' (λ a τ w''. run_steps (go a) E T s b body k τ w''))).rest.left ≤ w.left
    paid true ih = le_refl _
    paid false ih = le_trans (inner (act o s b body σ) _ ih) (minus_le w.left (op_cost o σ))
steps_left (ask q go) E T s b body k h σ w = inner (find (sub σ.calls s) T) (below (sub σ.calls s) T) (fresh q E w.drawn (sub σ.calls s)) (λ a w'. steps_left (go a) E T s b body k h (next_call σ) w')
  where
    on : (o : Option (AnsOf q)) (d : Divergence) → ((a : AnsOf q) (w' : Rest) → (run_steps (go a) E T s b body k (next_call σ) w').rest.left ≤ w'.left) →
        (on_kept o d (next_call σ) w (λ a w'. run_steps (go a) E T s b body k (next_call σ) w')).rest.left ≤ w.left
    on (Some a) d ih = ih a w
    on None d ih = le_refl _

    inner : (c : Option Rec) (t : Bool) (n : Option (Fresh q)) → ((a : AnsOf q) (w' : Rest) → (run_steps (go a) E T s b body k (next_call σ) w').rest.left ≤ w'.left) →
        (on_ask q c t n E (sub σ.calls s) (next_call σ) w (λ a w'. run_steps (go a) E T s b body k (next_call σ) w')).rest.left ≤ w.left
    inner (Some (rec r x)) t n ih = on (kept_answer q E.session (sub σ.calls s) x) _ ih
    inner None true n ih = le_refl _
    inner None false (Some f) ih = le_trans (ih f.answer (drew q w)) (drew_left q w)
    inner None false None ih = noted_left q w

pub branch_end_left : FallsK branch_end
branch_end_left (Normal v) τ w = le_refl _
branch_end_left Break τ w = le_refl _
branch_end_left Continue τ w = le_refl _
branch_end_left (Return v) τ w = le_refl _
branch_end_left (Throw v) τ w = le_refl _

pub body_end_left : (E : World) (T : List Rec) (s b : Path) → FallsK (body_end E T s b)
body_end_left E T s b (Normal v) τ w = steps_left (taking v) E T s b true _ (λ d τ w. le_refl _) τ w
body_end_left E T s b Break τ w = steps_left (taking Undefined) E T s b true _ (λ d τ w. le_refl _) τ w
body_end_left E T s b Continue τ w = steps_left (taking Undefined) E T s b true _ (λ d τ w. le_refl _) τ w
body_end_left E T s b (Return v) τ w = steps_left (taking v) E T s b true _ (λ d τ w. le_refl _) τ w
body_end_left E T s b (Throw v) τ w = le_refl _

pub once_goes_left : (E : World) (T : List Rec) (s b : Path) (body : Bool) (k : Outcome → St → Rest → Res) → FallsK k → FallsK (once_goes E T s b body k)
once_goes_left E T s b body k h (ret x) τ w = steps_left (put_data (data_in x)) E T s b body _ (λ v τ w. h (Normal v) τ w) τ w
once_goes_left E T s b body k h (thr v) τ w = h (Throw v) τ w
once_goes_left E T s b body k h (bar y) τ w = le_refl _

pub fork_goes_left : (k : Outcome → St → Rest → Res) → FallsK k → FallsK (fork_goes k)
fork_goes_left k h (ret x) τ w = h (Normal Undefined) τ w
fork_goes_left k h (thr v) τ w = h (Throw v) τ w
fork_goes_left k h (bar y) τ w = le_refl _

pub normal_left : (g : Val → St → Rest → Res) (k : Outcome → St → Rest → Res) → FallsK g → FallsK k → FallsK (on_normal g k)
normal_left g k hg hk (Normal v) τ w = hg v τ w
normal_left g k hg hk Break τ w = hk Break τ w
normal_left g k hg hk Continue τ w = hk Continue τ w
normal_left g k hg hk (Return v) τ w = hk (Return v) τ w
normal_left g k hg hk (Throw v) τ w = hk (Throw v) τ w

pub turns_left : (turn : (Outcome → St → Rest → Res) → St → Rest → Res) → ((k : Outcome → St → Rest → Res) → FallsK k → (σ : St) (w : Rest) → (turn k σ w).rest.left ≤ w.left) →
    (N : ℕ) (k : Outcome → St → Rest → Res) → FallsK k → (σ : St) (w : Rest) → (turns N turn k σ w).rest.left ≤ w.left
unfolding turns
turns_left turn h zero k hk σ w = le_refl _
turns_left turn h (suc n) k hk σ w = h _ (normal_left _ k (λ v τ w'. turns_left turn h n k hk τ w') hk) σ w

pub run_left : (g : Prog) (E : World) (T : List Rec) (N : ℕ) (s b : Path) (body : Bool) (k : Outcome → St → Rest → Res) → FallsK k → (σ : St) (w : Rest) → (run g E T N s b body k σ w).rest.left ≤ w.left
unfolding run
run_left (Done o) E T N s b body k h σ w = h o σ w
run_left (Ask p go) E T N s b body k h σ w = steps_left (steps_of p) E T s b body _ (λ a τ w'. run_left (go a) E T N s b body k h τ w') σ w
run_left (Then g go) E T N s b body k h σ w = run_left g E T N s b body _ (normal_left _ k (λ v τ w'. run_left (go v) E T N s b body k h τ w') h) σ w
run_left (Always g go) E T N s b body k h σ w = run_left g E T N s b body _ (λ o τ w'. run_left (go o) E T N s b body k h τ w') σ w
run_left (Once g) E T N s b body k h σ w = inner (find (sub σ.calls s) T)
    (run_left g E T N (sub σ.calls s) b true _ (body_end_left E T (sub σ.calls s) b) (enter (once_call b (next_call σ))) w) (once_goes_left E T s b body k h)
  where
    inner : (c : Option Rec) → (run g E T N (sub σ.calls s) b true (body_end E T (sub σ.calls s) b) (enter (once_call b (next_call σ))) w).rest.left ≤ w.left → FallsK (once_goes E T s b body k) →
        (on_once c (once_call b (next_call σ)) w (once_goes E T s b body k) (run g E T N (sub σ.calls s) b true (body_end E T (sub σ.calls s) b) (enter (once_call b (next_call σ))) w) (sub σ.calls s)).rest.left ≤ w.left
    inner (Some (rec q (kept.Once d))) l ih = ih (ret (datum d)) (once_call b (next_call σ)) w
    inner (Some (rec q (kept.Post t))) l ih = le_refl _
    inner (Some (rec q (kept.Reply t x))) l ih = le_refl _
    inner (Some (rec q (kept.Draw m n))) l ih = le_refl _
    inner None l ih = le_trans (body_left (run g E T N (sub σ.calls s) b true (body_end E T (sub σ.calls s) b) (enter (once_call b (next_call σ))) w).out _ (sub σ.calls s) (once_call b (next_call σ)) (once_goes E T s b body k) ih) l
run_left (Fork g) E T N s b true k h σ w = le_refl _
run_left (Fork g) E T N s b false k h σ w = inner (find (sub σ.calls s) T)
    (run_left g E T N (sub σ.calls s) (sub σ.calls s) false _ branch_end_left (enter (next_call σ)) (forked w)) (fork_goes_left k h)
  where
    inner : (c : Option Rec) → (run g E T N (sub σ.calls s) (sub σ.calls s) false branch_end (enter (next_call σ)) (forked w)).rest.left ≤ w.left → FallsK (fork_goes k) →
        (on_fork c (next_call σ) (forked w) (fork_goes k) (run g E T N (sub σ.calls s) (sub σ.calls s) false branch_end (enter (next_call σ)) (forked w)) (sub σ.calls s)).rest.left ≤ w.left
    inner (Some (rec q x)) l ih = le_refl _
    inner None l ih = le_trans (branch_left (any_gone (sub σ.calls s) (run g E T N (sub σ.calls s) (sub σ.calls s) false branch_end (enter (next_call σ)) (forked w)).st.gone)
        (run g E T N (sub σ.calls s) (sub σ.calls s) false branch_end (enter (next_call σ)) (forked w)).out _ (sub σ.calls s) (next_call σ) (fork_goes k) ih) l
run_left (Loop g) E T N s b body k h σ w = turns_left _ (λ k' h' τ w'. run_left g E T N s b body k' h' τ w') N k h σ w
