-- Why a run halts: for no other reasons than its charges and its asks have. One induction over programs.
use Rattle.std.specs.Prelude.{ℤ, List, Bool, true, false, Option, Some, None, nat_lt}
use Rattle.std.proofs.Common.{◌≡◌, ℕ, suc, zero, refl, ap, [], sym, ◌∙◌, subst}
use Rattle.turk_base.specs.declared.Record.TheVariants as kept
use Rattle.turk_base.specs.Asks.{Question, posts, replies, draws, AnsOf, Rec, rec, find, below}
use Rattle.turk_base.specs.Names.{Path, root, sub}
use Rattle.turk_base.specs.Prog.{Prog, Done, Ask, Then, Always, Once, Fork, Loop}
use Rattle.turk_base.specs.Start.{start}
use Rattle.turk_base.specs.State.{St, AnswerTo, op_cost, Act, gives, refused, waiting, stuck, act, any_gone, once_call, next_call, enter, leave, absent, give_value, cut_all, threw}
use Rattle.turk_base.specs.Steps.{Small, give, refuse, lost, step, ask, taking, put_data, steps_of}
use Rattle.turk_base.specs.Values.{Val, Undefined, Outcome, Normal, Break, Continue, Return, Throw}
use Rattle.js_tree.specs.Eval.{fuel, eval, closed}
use Rattle.js_tree.specs.Run.{undrawn, datum, valued, value_in, data_in, End, ret, thr, bar, Out, ended, waits, halted, Why, spent, missing, diverged, Res, pay_if, on_act, on_kept, on_ask, run_steps, branch_end, body_end, after_body, on_once, once_goes, after_branch, on_fork, fork_goes, forked, on_normal, turns, run}
use Rattle.js_tree.specs.World.{World, Divergence, kept_answer, Fresh, fresh, fresh_draw, draw_of, Rest}
use Rattle.std.proofs.lemmas.Bool.{false≢true}
use Rattle.run_laws.proofs.Props.{none_some}
use Rattle.rerun_driver.specs.Laws.{NeverDiverges, NeverUndrawn}

-- an end, or a halt for such a reason
abbrev Allows : (Why → Type 0) → Out → Type 0
Allows P (ended e) = Unit {0}
Allows P waits = Unit {0}
Allows P (halted why) = P why

module _ (P : Why → Type 0) (E : World) (T : List Rec) (spent_is : P spent) (missing_is : P missing) (undrawn_is : (k : ℕ) (p : Path) (m : ℤ) → draw_of E.dice k p m ≡ None → P undrawn)
    (found_is : (p : Path) (r : Rec) → find p T ≡ Some r → (d : Divergence) → P (diverged d)) (below_is : (p : Path) → below p T ≡ true → (d : Divergence) → P (diverged d)) where
  abbrev Goes : {A : Type 0} → (A → St → Rest → Res) → Type 0
  Goes {A} k = (a : A) (σ : St) (w : Rest) → Allows P (k a σ w).out

  lacks : (k : ℕ) (p : Path) (m : ℤ) → fresh (draws m) E k p ≡ None → P undrawn
  unfolding fresh
  lacks k p m e = inner (draw_of E.dice k p m) refl e
    where
      inner : (o : Option ℤ) → draw_of E.dice k p m ≡ o → fresh_draw m o ≡ None → P undrawn
      inner None h z = undrawn_is k p m h
      inner (Some n) h z = absurd (none_some (sym z))

  asks : (q : Question) (p : Path) (σ : St) (w : Rest) (k : AnsOf q → Rest → Res) → ((a : AnsOf q) (w' : Rest) → Allows P (k a w').out) →
      (o : Option Rec) → find p T ≡ o → (t : Bool) → below p T ≡ t → (f : Option (Fresh q)) → fresh q E w.drawn p ≡ f → Allows P (on_ask q o t f E p σ w k).out
  asks q p σ w k h (Some (rec r x)) e t b f n = on (kept_answer q E.session p x) _ (found_is p (rec r x) e)
    where
      on : (o : Option (AnsOf q)) (d : Divergence) → ((d : Divergence) → P (diverged d)) → Allows P (on_kept o d σ w k).out
      on (Some a) d y = h a w
      on None d y = y d
  asks q p σ w k h None e true b f n = below_is p b _
  asks q p σ w k h None e false b (Some f) n = h f.answer _
  asks (posts t) p σ w k h None e false b None n = tt
  asks (replies t) p σ w k h None e false b None n = tt
  asks (draws m) p σ w k h None e false b None n = lacks w.drawn p m n

  steps : {A : Type 0} (g : Small A) (s b : Path) (body : Bool) (k : A → St → Rest → Res) → Goes k → (σ : St) (w : Rest) → Allows P (run_steps g E T s b body k σ w).out
  unfolding run_steps
  steps (give a) s b body k h σ w = h a σ w
  steps (refuse why) s b body k h σ w = tt
  steps lost s b body k h σ w = missing_is
  steps (step o go) s b body k h σ w = paid (nat_lt w.left (op_cost o σ)) (λ a τ w'. steps (go a) s b body k h τ w')
    where
      inner : (X : Act (AnswerTo o)) (w' : Rest) → ((a : AnswerTo o) (τ : St) (w' : Rest) → Allows P (run_steps (go a) E T s b body k τ w').out) →
          Allows P (on_act X σ w' (λ a τ w''. run_steps (go a) E T s b body k τ w'')).out
      inner (gives a τ) w' ih = ih a τ w'
      inner (refused why) w' ih = tt
      inner (waiting y) w' ih = tt
      inner stuck w' ih = missing_is

      paid : (t : Bool) → ((a : AnswerTo o) (τ : St) (w' : Rest) → Allows P (run_steps (go a) E T s b body k τ w').out) →
          Allows P (pay_if t (op_cost o σ) σ w (λ w'. on_act (act o s b body σ) σ w' (λ a τ w''. run_steps (go a) E T s b body k τ w''))).out
      paid true ih = spent_is
      paid false ih = inner (act o s b body σ) _ ih
  steps (ask q go) s b body k h σ w =
      asks q (sub σ.calls s) (next_call σ) w _ (λ a w'. steps (go a) s b body k h (next_call σ) w') (find (sub σ.calls s) T) refl (below (sub σ.calls s) T) refl (fresh q E w.drawn (sub σ.calls s)) refl

  branch_ends : Goes branch_end
  branch_ends (Normal v) σ w = tt
  branch_ends Break σ w = tt
  branch_ends Continue σ w = tt
  branch_ends (Return v) σ w = tt
  branch_ends (Throw v) σ w = tt

  body_ends : (s b : Path) → Goes (body_end E T s b)
  body_ends s b (Normal v) τ w = steps (taking v) s b true _ (λ d τ w. tt) τ w
  body_ends s b Break τ w = steps (taking Undefined) s b true _ (λ d τ w. tt) τ w
  body_ends s b Continue τ w = steps (taking Undefined) s b true _ (λ d τ w. tt) τ w
  body_ends s b (Return v) τ w = steps (taking v) s b true _ (λ d τ w. tt) τ w
  body_ends s b (Throw v) τ w = tt

  once_ends : (s b : Path) (body : Bool) (k : Outcome → St → Rest → Res) → Goes k → Goes (once_goes E T s b body k)
  once_ends s b body k h (ret x) τ w = steps (put_data (data_in x)) s b body _ (λ v τ w. h (Normal v) τ w) τ w
  once_ends s b body k h (thr v) τ w = h (Throw v) τ w
  once_ends s b body k h (bar y) τ w = tt

  fork_ends : (k : Outcome → St → Rest → Res) → Goes k → Goes (fork_goes k)
  fork_ends k h (ret x) τ w = h (Normal Undefined) τ w
  fork_ends k h (thr v) τ w = h (Throw v) τ w
  fork_ends k h (bar y) τ w = tt

  normals : (g : Val → St → Rest → Res) (k : Outcome → St → Rest → Res) → Goes g → Goes k → Goes (on_normal g k)
  normals g k hg hk (Normal v) τ w = hg v τ w
  normals g k hg hk Break τ w = hk Break τ w
  normals g k hg hk Continue τ w = hk Continue τ w
  normals g k hg hk (Return v) τ w = hk (Return v) τ w
  normals g k hg hk (Throw v) τ w = hk (Throw v) τ w

  loops : (turn : (Outcome → St → Rest → Res) → St → Rest → Res) → ((k : Outcome → St → Rest → Res) → Goes k → (σ : St) (w : Rest) → Allows P (turn k σ w).out) →
      (N : ℕ) (k : Outcome → St → Rest → Res) → Goes k → (σ : St) (w : Rest) → Allows P (turns N turn k σ w).out
  unfolding turns
  loops turn h zero k hk σ w = spent_is
  loops turn h (suc n) k hk σ w = h _ (normals _ k (λ v τ w'. loops turn h n k hk τ w') hk) σ w

  bodies : (r : Res) (p : Path) (σ : St) (k : End → St → Rest → Res) → Goes k → (o : Out) → r.out ≡ o → Allows P r.out → Allows P (after_body o r p σ k).out
  bodies r p σ k h (ended (ret x)) e a = h (ret (datum (data_in x))) σ r.rest
  bodies r p σ k h (ended (thr v)) e a = h (thr v) (leave σ r.st) r.rest
  bodies r p σ k h (ended (bar why)) e a = a
  bodies r p σ k h waits e a = a
  bodies r p σ k h (halted why) e a = a

  branches : (r : Res) (p : Path) (σ : St) (k : End → St → Rest → Res) → Goes k → (g : Bool) (o : Out) → r.out ≡ o → Allows P r.out → Allows P (after_branch g o r p σ k).out
  branches r p σ k h false (ended (ret x)) e a = h (ret (valued Undefined)) (give_value (value_in x) (leave σ (cut_all p r.st))) r.rest
  branches r p σ k h false (ended (thr v)) e a = h (thr v) (threw p (leave σ (cut_all p r.st))) r.rest
  branches r p σ k h false (ended (bar why)) e a = a
  branches r p σ k h true (ended x) e a = h (ret (valued Undefined)) (absent p σ) r.rest
  branches r p σ k h false waits e a = h (ret (valued Undefined)) (absent p σ) r.rest
  branches r p σ k h true waits e a = h (ret (valued Undefined)) (absent p σ) r.rest
  branches r p σ k h false (halted why) e a = a
  branches r p σ k h true (halted why) e a = a

  runs : (g : Prog) (N : ℕ) (s b : Path) (body : Bool) (k : Outcome → St → Rest → Res) → Goes k → (σ : St) (w : Rest) → Allows P (run g E T N s b body k σ w).out
  unfolding run
  runs (Done o) N s b body k h σ w = h o σ w
  runs (Ask p go) N s b body k h σ w = steps (steps_of p) s b body _ (λ a τ w'. runs (go a) N s b body k h τ w') σ w
  runs (Then g go) N s b body k h σ w = runs g N s b body _ (normals _ k (λ v τ w'. runs (go v) N s b body k h τ w') h) σ w
  runs (Always g go) N s b body k h σ w = runs g N s b body _ (λ o τ w'. runs (go o) N s b body k h τ w') σ w
  runs (Once g) N s b body k h σ w = inner (find (sub σ.calls s) T) refl (runs g N (sub σ.calls s) b true _ (body_ends (sub σ.calls s) b) (enter (once_call b (next_call σ))) w)
    where
      inner : (o : Option Rec) → find (sub σ.calls s) T ≡ o → Allows P (run g E T N (sub σ.calls s) b true (body_end E T (sub σ.calls s) b) (enter (once_call b (next_call σ))) w).out →
          Allows P (on_once o (once_call b (next_call σ)) w (once_goes E T s b body k) (run g E T N (sub σ.calls s) b true (body_end E T (sub σ.calls s) b) (enter (once_call b (next_call σ))) w) (sub σ.calls s)).out
      inner (Some (rec q (kept.Once d))) e a = once_ends s b body k h (ret (datum d)) (once_call b (next_call σ)) w
      inner (Some (rec q (kept.Post t))) e a = found_is _ _ e _
      inner (Some (rec q (kept.Reply t x))) e a = found_is _ _ e _
      inner (Some (rec q (kept.Draw m n))) e a = found_is _ _ e _
      inner None e a = bodies _ (sub σ.calls s) (once_call b (next_call σ)) _ (once_ends s b body k h) _ refl a
  runs (Fork g) N s b true k h σ w = tt
  runs (Fork g) N s b false k h σ w = inner (find (sub σ.calls s) T) refl (runs g N (sub σ.calls s) (sub σ.calls s) false _ branch_ends (enter (next_call σ)) (forked w))
    where
      inner : (o : Option Rec) → find (sub σ.calls s) T ≡ o → Allows P (run g E T N (sub σ.calls s) (sub σ.calls s) false branch_end (enter (next_call σ)) (forked w)).out →
          Allows P (on_fork o (next_call σ) (forked w) (fork_goes k) (run g E T N (sub σ.calls s) (sub σ.calls s) false branch_end (enter (next_call σ)) (forked w)) (sub σ.calls s)).out
      inner (Some (rec q x)) e a = found_is _ _ e _
      inner None e a = branches _ (sub σ.calls s) (next_call σ) _ (fork_ends k h) (any_gone (sub σ.calls s) _) _ refl a
  runs (Loop g) N s b body k h σ w = loops _ (λ k hk τ w'. runs g N s b body k hk τ w') N k h σ w

  pub whole : (S : Prog) (n : ℕ) → Allows P (eval S E T n).out
  whole S n = inner (any_gone root (run S E T (suc n) root root false branch_end start (fuel n)).st.gone) (run S E T (suc n) root root false branch_end start (fuel n)).out (runs S (suc n) root root false branch_end branch_ends start (fuel n))
    where
      inner : (g : Bool) (o : Out) → Allows P o → Allows P (closed g o)
      inner true (ended e) a = tt
      inner false (ended e) a = tt
      inner true waits a = tt
      inner false waits a = tt
      inner true (halted why) a = a
      inner false (halted why) a = a

-- what is allowed of a halt
allowed : (P : Why → Type 0) (o : Out) (y : Why) → Allows P o → o ≡ halted y → P y
allowed P o y a e = subst (Allows P) e a

abbrev NoDivergence : Why → Type 0
NoDivergence spent = Unit {0}
NoDivergence undrawn = Unit {0}
NoDivergence missing = Unit {0}
NoDivergence (diverged d) = ⊥

abbrev NoLack : Why → Type 0
NoLack spent = Unit {0}
NoLack undrawn = ⊥
NoLack missing = Unit {0}
NoLack (diverged d) = Unit {0}

pub never_diverges : NeverDiverges
never_diverges S E n d e = allowed NoDivergence _ (diverged d) (whole NoDivergence E [] tt tt (λ k p m z. tt) (λ p r z. absurd (none_some z)) (λ p z. absurd (false≢true z)) S n) e

pub never_undrawn : NeverUndrawn
never_undrawn S E T n word is e = allowed NoLack _ undrawn (whole NoLack E T tt tt lack (λ p r z d. tt) (λ p z d. tt) S n) e
  where
    lack : (k : ℕ) (p : Path) (m : ℤ) → draw_of E.dice k p m ≡ None → ⊥
    lack k p m z = none_some (sym (sym (ap (λ d. draw_of d k p m) is) ∙ z))
