-- With fuel that covers the cost of the strict plain run, the plain run is not spent.
use Rattle.std.specs.Prelude.{List, Bool, true, false, Option, Some, None, nat_lt}
use Rattle.std.proofs.Common.{◌≡◌, ℕ, suc, zero, refl, ap, ◌⊎◌, inl, inr, [], ◌∷◌, sym, ◌∙◌, subst, true≢false, ◌≤◌, arith, ◌+◌, ◌-◌}
use Rattle.turk_base.specs.Asks.{Question, posts, replies, draws, AnsOf, Rec, rec}
use Rattle.turk_base.specs.Names.{Path, sub, Under, self, down}
use Rattle.turk_base.specs.Prog.{Prog, Done, Ask, Then, Always, Once, Fork, Loop}
use Rattle.turk_base.specs.State.{St, AnswerTo, op_cost, Act, gives, refused, waiting, stuck, act, any_gone, Verdict, independent, touched_open, once_while_open, branch_threw, once_call, next_call, enter, leave, give_value, cut_all, Op, charge, known_at, make, change, print, join, forks_here, crash, act_known, act_chained, act_change, act_join, act_forks, too_many}
use Rattle.turk_base.specs.Steps.{Small, give, refuse, lost, step, ask, taking, put_data, steps_of}
use Rattle.turk_base.specs.Values.{Val, Undefined, Outcome, Normal, Break, Continue, Return, Throw, ForkInOnce, Known, Frame, Plain, Array, Function, BuiltIn}
use Rattle.js_tree.specs.Run.{valued, datum, value_in, data_in, End, ret, thr, bar, ended, Res, add, pay_if, on_act, on_ask, run_steps, branch_end, body_end, after_body, once_goes, after_branch, fork_goes, forked, on_normal, turns, run}
use Rattle.js_tree.specs.World.{World, Fresh, fresh, Rest, drew}
use Rattle.run_laws.proofs.Frame.{ActFramed, act_framed, plain_within, p_branch_end, p_body_end, PlainK}
use Rattle.run_laws.proofs.Order.{some_end}
use Rattle.run_laws.proofs.Props.{none_some}
use Rattle.run_laws.specs.Strict.{Entry, Strict, note, strict, strict_act, strict_ask, plain_steps, strict_branch_end, strict_body_end, strict_once, strict_once_goes, strict_fork, strict_fork_goes, strict_normal, strict_turns, plain}
use native.Mathlib.Nat.{le_refl, le_trans}
use Rattle.std.proofs.lemmas.Bool.{le-ltb}

pub record Pays (L : ℕ) (e : Res) (r : Strict) : Type 0 where
  pub holds : (x : End) → r.out ≡ Some x → r.cost ≤ L → (e.out ≡ ended x) × (e.st ≡ r.st) × (L ≤ e.rest.left + r.cost)

y_none : {L : ℕ} {e : Res} {r : Strict} → r.out ≡ None → Pays L e r
y_none h = record { holds = λ x z l. absurd (none_some (sym h ∙ z)) }

y_end : {L : ℕ} {e : Res} {r : Strict} (y : End) → e.out ≡ ended y → r.out ≡ Some y → e.st ≡ r.st → L ≤ e.rest.left + r.cost → Pays L e r
y_end y h k q o = record { holds = λ x z l. (h ∙ ap (λ z. ended z) (some_end (sym k ∙ z)), q, o) }

y_strict : {L : ℕ} {e : Res} (body : Bool) (v : Verdict) (τ : St) (r : Strict) → Pays L e r → Pays L e (strict body v τ r)
y_strict true v τ r k = k
y_strict false independent τ r k = k
y_strict false (touched_open y) τ r k = y_none refl
y_strict false (once_while_open y) τ r k = y_none refl
y_strict false (branch_threw y) τ r k = y_none refl

-- What comes after a part that cost n and left M of L.
y_add : {L M : ℕ} {e : Res} {r : Strict} (l : List Rec) (m : List Entry) (l' : List Rec) (n : ℕ) → L ≤ M + n → Pays M e r → Pays L (add l e) (note m l' n r)
y_add {L} {M} {e} {r} l m l' n h k = record { holds = λ x z c. inner (k.holds x z (omega (arith, c, h))) }
  where
    inner : {x : End} → (e.out ≡ ended x) × (e.st ≡ r.st) × (M ≤ e.rest.left + r.cost) → (e.out ≡ ended x) × (e.st ≡ r.st) × (L ≤ e.rest.left + (n + r.cost))
    inner (a, b, c) = (a, b, omega (arith, c, h))

-- A refusal is free.
abbrev pub Free : {A : Type 0} → Act A → ℕ → Type 0
Free (gives a τ) n = Unit {0}
Free (refused w) n = n ≡ 0
Free (waiting x) n = Unit {0}
Free stuck n = Unit {0}

act_free : (o : Op) (s b : Path) (body : Bool) (σ : St) → Free (act o s b body σ) (op_cost o σ)
unfolding act
act_free (charge n) s b body σ = tt
act_free (known_at c) s b body σ = inner (σ.known c)
  where
    inner : (h : Option Known) → Free (act_known h σ) 0
    inner (Some k) = tt
    inner None = tt
act_free (make paid (Frame p)) s b body σ = tt
act_free (make paid (Plain None)) s b body σ = tt
act_free (make paid (Plain (Some p))) s b body σ = inner (σ.known p) (op_cost (make paid (Plain (Some p))) σ)
  where
    inner : (h : Option Known) (n : ℕ) → Free (act_chained h p s (Plain (Some p)) σ) n
    inner (Some k) n = tt
    inner None n = tt
act_free (make paid Array) s b body σ = tt
act_free (make paid (Function n f)) s b body σ = tt
act_free (make paid (BuiltIn w)) s b body σ = tt
act_free (change paid c e) s b body σ = inner (σ.known c) (op_cost (change paid c e) σ)
  where
    inner : (h : Option Known) (n : ℕ) → Free (act_change h b c e σ) n
    inner (Some k) n = tt
    inner None n = tt
act_free (print line) s b body σ = tt
act_free (join wanted) s b body σ = inner body (any_gone s σ.gone) (too_many wanted σ.vals)
  where
    inner : (body g t : Bool) → Free (act_join body g t s σ) 0
    inner true g t = refl
    inner false true t = tt
    inner false false true = refl
    inner false false false = tt
act_free forks_here s b body σ = inner body
  where
    inner : (body : Bool) → Free (act_forks body σ) 0
    inner true = refl
    inner false = tt
act_free crash s b body σ = tt

module _ (s b : Path) (body : Bool) (σ : St) (kE : End → St → Rest → Res) (kP : End → St → Strict)
    (ih : (e : End) (τ : St) (f : Rest) → τ.gone ≡ [] → Pays f.left (kE e τ f) (kP e τ)) (L : ℕ) (sE : Res) (sP : Strict) (w : Pays L sE sP) (n : σ.gone ≡ []) where
  y_go : (e : End) (τ τ' : St) (f : Rest) → τ ≡ τ' → τ'.gone ≡ [] → Pays f.left (kE e τ f) (kP e τ')
  y_go e τ τ' f h z = subst (λ y. Pays f.left (kE e y f) (kP e τ')) (sym h) (ih e τ' f z)

  y_body_end : (x : End) → sE.out ≡ ended x → sP.out ≡ Some x → sE.st ≡ sP.st → L ≤ sE.rest.left + sP.cost → sP.st.gone ≡ [] →
      Pays L (after_body (ended x) sE (sub σ.calls s) (once_call b (next_call σ)) kE) (strict_once (Some x) sP (sub σ.calls s) body (once_call b (next_call σ)) kP)
  y_body_end (ret x) h k q o z = y_add _ _ _ sP.cost o (ih (ret (datum (data_in x))) _ sE.rest n)
  y_body_end (thr v) h k q o z = y_add _ _ _ sP.cost o (y_strict body _ sP.st _ (y_go (thr v) _ _ sE.rest (ap (λ τ. leave (once_call b (next_call σ)) τ) q) z))
  y_body_end (bar y) h k q o z = y_end (bar y) h refl q o

  -- the sub-run's cost is at most the whole's
  once_part : (x : End) → sP.cost ≤ (strict_once (Some x) sP (sub σ.calls s) body (once_call b (next_call σ)) kP).cost
  once_part (ret x) = omega arith
  once_part (thr v) = omega arith
  once_part (bar y) = omega arith

  y_body : (o : Option End) → sP.out ≡ o → sP.st.gone ≡ [] ⊎ (o ≡ None) →
      Pays L (after_body sE.out sE (sub σ.calls s) (once_call b (next_call σ)) kE) (strict_once o sP (sub σ.calls s) body (once_call b (next_call σ)) kP)
  y_body None h z = y_none refl
  y_body (Some x) h (inr z) = absurd (none_some (sym z))
  y_body (Some x) h (inl z) = record { holds = λ y e c. (inner (w.holds x h (le_trans (once_part x) c))).holds y e c }
    where
      inner : (sE.out ≡ ended x) × (sE.st ≡ sP.st) × (L ≤ sE.rest.left + sP.cost) →
          Pays L (after_body sE.out sE (sub σ.calls s) (once_call b (next_call σ)) kE) (strict_once (Some x) sP (sub σ.calls s) body (once_call b (next_call σ)) kP)
      inner (e, q, o) = subst (λ o. Pays L (after_body o sE (sub σ.calls s) (once_call b (next_call σ)) kE) (strict_once (Some x) sP (sub σ.calls s) body (once_call b (next_call σ)) kP)) (sym e) (y_body_end x e h q o z)

  fork_part : (x : End) → sP.cost ≤ (strict_fork (Some x) sP (sub σ.calls s) (next_call σ) kP).cost
  fork_part (ret x) = omega arith
  fork_part (thr v) = le_refl _
  fork_part (bar y) = le_refl _

  y_branch_end : (x : End) → sE.out ≡ ended x → sP.out ≡ Some x → sE.st ≡ sP.st → L ≤ sE.rest.left + sP.cost → sP.st.gone ≡ [] → (g : Bool) → any_gone (sub σ.calls s) sE.st.gone ≡ g →
      Pays L (after_branch g (ended x) sE (sub σ.calls s) (next_call σ) kE) (strict_fork (Some x) sP (sub σ.calls s) (next_call σ) kP)
  y_branch_end (ret v) h k q o z false e = y_add _ _ _ sP.cost o (y_go (ret (valued Undefined)) _ _ sE.rest (ap (λ τ. give_value (value_in v) (leave (next_call σ) (cut_all (sub σ.calls s) τ))) q) z)
  y_branch_end (thr v) h k q o z false e = y_none refl
  y_branch_end (bar y) h k q o z false e = y_end (bar y) h k q o
  y_branch_end x h k q o z true e = absurd (true≢false (sym e ∙ ap (any_gone (sub σ.calls s)) (ap (λ τ. τ.gone) q ∙ z)))

  y_branch : (o : Option End) → sP.out ≡ o → sP.st.gone ≡ [] ⊎ (o ≡ None) →
      Pays L (after_branch (any_gone (sub σ.calls s) sE.st.gone) sE.out sE (sub σ.calls s) (next_call σ) kE) (strict_fork o sP (sub σ.calls s) (next_call σ) kP)
  y_branch None h z = y_none h
  y_branch (Some x) h (inr z) = absurd (none_some (sym z))
  y_branch (Some x) h (inl z) = record { holds = λ y e c. (inner (w.holds x h (le_trans (fork_part x) c))).holds y e c }
    where
      inner : (sE.out ≡ ended x) × (sE.st ≡ sP.st) × (L ≤ sE.rest.left + sP.cost) →
          Pays L (after_branch (any_gone (sub σ.calls s) sE.st.gone) sE.out sE (sub σ.calls s) (next_call σ) kE) (strict_fork (Some x) sP (sub σ.calls s) (next_call σ) kP)
      inner (e, q, o) = subst (λ o. Pays L (after_branch (any_gone (sub σ.calls s) sE.st.gone) o sE (sub σ.calls s) (next_call σ) kE) (strict_fork (Some x) sP (sub σ.calls s) (next_call σ) kP)) (sym e)
          (y_branch_end x e h q o z (any_gone (sub σ.calls s) sE.st.gone) refl)

drew_same : (q : Question) (w : Rest) → w.left ≤ (drew q w).left
drew_same (posts t) w = le_refl _
drew_same (replies t) w = le_refl _
drew_same (draws m) w = le_refl _

abbrev pub PaysK : {A : Type 0} → (A → St → Rest → Res) → (A → St → Strict) → Type 0
PaysK {A} kE kP = (a : A) (τ : St) (w : Rest) → τ.gone ≡ [] → Pays w.left (kE a τ w) (kP a τ)

module _ (E : World) (steady : (q : Question) (k : ℕ) (p : Path) → fresh q E k p ≡ fresh q E 0 p) where
  y_steps : {A : Type 0} (g : Small A) (s b : Path) (body : Bool) (kE : A → St → Rest → Res) (kP : A → St → Strict) → PaysK kE kP → Under b s →
      (σ : St) (w : Rest) → σ.gone ≡ [] → Pays w.left (run_steps g E [] s b body kE σ w) (plain_steps g E s b body kP σ)
  unfolding run_steps plain_steps
  y_steps (give a) s b body kE kP ih u σ w n = ih a σ w n
  y_steps (refuse why) s b body kE kP ih u σ w n = y_end (bar why) refl refl refl (omega arith)
  y_steps lost s b body kE kP ih u σ w n = y_none refl
  y_steps (step o go) s b body kE kP ih u σ w n = paid (nat_lt w.left (op_cost o σ)) refl (act o s b body σ) (act_framed o s b body σ u) (act_free o s b body σ) (λ a τ w' z. y_steps (go a) s b body kE kP ih u τ w' z)
    where
      paid : (t : Bool) → nat_lt w.left (op_cost o σ) ≡ t → (X : Act (AnswerTo o)) → ActFramed s b σ X → Free X (op_cost o σ) → ((a : AnswerTo o) (τ : St) (w' : Rest) → τ.gone ≡ [] → Pays w'.left (run_steps (go a) E [] s b body kE τ w') (plain_steps (go a) E s b body kP τ)) →
          Pays w.left (pay_if t (op_cost o σ) σ w (λ w'. on_act X σ w' (λ a τ w''. run_steps (go a) E [] s b body kE τ w''))) (strict_act X (op_cost o σ) body σ (λ a τ. plain_steps (go a) E s b body kP τ))
      paid true e (gives a τ) k f h = y_strict body τ.verdict τ _ (record { holds = λ x z l. absurd (true≢false (sym e ∙ le-ltb w.left (op_cost o σ) (le_trans (omega arith) l))) })
      paid true e (refused why) k f h = record { holds = λ x z l. absurd (true≢false (sym e ∙ le-ltb w.left (op_cost o σ) (rw f (omega arith)))) }
      paid true e (waiting x) k f h = y_none refl
      paid true e stuck k f h = y_none refl
      paid false e (gives a τ) k f h = y_strict body τ.verdict τ _ (y_add [] [] [] (op_cost o σ) (omega arith) (h a τ (record w { left = w.left - op_cost o σ }) (k.0.gone ∙ n)))
      paid false e (refused why) k f h = y_end (bar why) refl refl refl (rw f (omega arith))
      paid false e (waiting x) k f h = y_none refl
      paid false e stuck k f h = y_none refl
  y_steps (ask q go) s b body kE kP ih u σ w n = rw (steady q w.drawn (sub σ.calls s)) (inner (fresh q E 0 (sub σ.calls s)) (λ a w'. y_steps (go a) s b body kE kP ih u (next_call σ) w' n))
    where
      inner : (o : Option (Fresh q)) → ((a : AnsOf q) (w' : Rest) → Pays w'.left (run_steps (go a) E [] s b body kE (next_call σ) w') (plain_steps (go a) E s b body kP (next_call σ))) →
          Pays w.left (on_ask q None false o E (sub σ.calls s) (next_call σ) w (λ a w'. run_steps (go a) E [] s b body kE (next_call σ) w')) (strict_ask o (sub σ.calls s) σ (λ a. plain_steps (go a) E s b body kP (next_call σ)))
      inner (Some f) h = y_add (rec (sub σ.calls s) f.what ∷ []) [] (rec (sub σ.calls s) f.what ∷ []) 0 (let a = drew_same q w in omega (arith, a)) (h f.answer (drew q w))
      inner None h = y_none refl

  pub y_done : (o : Outcome) (τ : St) (w : Rest) → Pays w.left (branch_end o τ w) (strict_branch_end o τ)
  y_done (Normal v) τ w = y_end _ refl refl refl (omega arith)
  y_done Break τ w = y_end _ refl refl refl (omega arith)
  y_done Continue τ w = y_end _ refl refl refl (omega arith)
  y_done (Return v) τ w = y_end _ refl refl refl (omega arith)
  y_done (Throw v) τ w = y_end _ refl refl refl (omega arith)

  y_body_done : (s b : Path) → Under b s → PaysK (body_end E [] s b) (strict_body_end E s b)
  y_body_done s b u (Normal v) τ w n = y_steps (taking v) s b true _ _ (λ d τ w n. y_end _ refl refl refl (omega arith)) u τ w n
  y_body_done s b u Break τ w n = y_steps (taking Undefined) s b true _ _ (λ d τ w n. y_end _ refl refl refl (omega arith)) u τ w n
  y_body_done s b u Continue τ w n = y_steps (taking Undefined) s b true _ _ (λ d τ w n. y_end _ refl refl refl (omega arith)) u τ w n
  y_body_done s b u (Return v) τ w n = y_steps (taking v) s b true _ _ (λ d τ w n. y_end _ refl refl refl (omega arith)) u τ w n
  y_body_done s b u (Throw v) τ w n = y_end _ refl refl refl (omega arith)

  y_once_goes : (s b : Path) (body : Bool) (kE : Outcome → St → Rest → Res) (kP : Outcome → St → Strict) → PaysK kE kP → Under b s → PaysK (once_goes E [] s b body kE) (strict_once_goes E s b body kP)
  y_once_goes s b body kE kP ih u (ret x) τ w n = y_steps (put_data (data_in x)) s b body _ _ (λ v τ w n. ih (Normal v) τ w n) u τ w n
  y_once_goes s b body kE kP ih u (thr v) τ w n = ih (Throw v) τ w n
  y_once_goes s b body kE kP ih u (bar why) τ w n = y_end _ refl refl refl (omega arith)

  y_fork_goes : (kE : Outcome → St → Rest → Res) (kP : Outcome → St → Strict) → PaysK kE kP → PaysK (fork_goes kE) (strict_fork_goes kP)
  y_fork_goes kE kP ih (ret x) τ w n = ih (Normal Undefined) τ w n
  y_fork_goes kE kP ih (thr v) τ w n = ih (Throw v) τ w n
  y_fork_goes kE kP ih (bar why) τ w n = y_end _ refl refl refl (omega arith)

  y_normal : (gE : Val → St → Rest → Res) (gP : Val → St → Strict) (kE : Outcome → St → Rest → Res) (kP : Outcome → St → Strict) → PaysK gE gP → PaysK kE kP → PaysK (on_normal gE kE) (strict_normal gP kP)
  y_normal gE gP kE kP hg hk (Normal v) τ w n = hg v τ w n
  y_normal gE gP kE kP hg hk Break τ w n = hk Break τ w n
  y_normal gE gP kE kP hg hk Continue τ w n = hk Continue τ w n
  y_normal gE gP kE kP hg hk (Return v) τ w n = hk (Return v) τ w n
  y_normal gE gP kE kP hg hk (Throw v) τ w n = hk (Throw v) τ w n

  no_less : {N : ℕ} → suc N ≤ zero → ⊥
  no_less h = omega arith

  y_turns : (gE : (Outcome → St → Rest → Res) → St → Rest → Res) (gP : (Outcome → St → Strict) → St → Strict) →
      ((kE : Outcome → St → Rest → Res) (kP : Outcome → St → Strict) → PaysK kE kP → (σ : St) (w : Rest) → σ.gone ≡ [] → Pays w.left (gE kE σ w) (gP kP σ)) →
      (M N : ℕ) → N ≤ M → (kE : Outcome → St → Rest → Res) (kP : Outcome → St → Strict) → PaysK kE kP → (σ : St) (w : Rest) → σ.gone ≡ [] → Pays w.left (turns M gE kE σ w) (strict_turns N gP kP σ)
  unfolding turns strict_turns
  y_turns gE gP h zero zero l kE kP c σ w n = y_none refl
  y_turns gE gP h zero (suc N) l kE kP c σ w n = absurd (no_less l)
  y_turns gE gP h (suc M) zero l kE kP c σ w n = y_none refl
  y_turns gE gP h (suc M) (suc N) l kE kP c σ w n = h _ _ (y_normal (λ v τ w'. turns M gE kE τ w') (λ v τ. strict_turns N gP kP τ) kE kP (λ v τ w' z. y_turns gE gP h M N (omega (arith, l)) kE kP c τ w' z) c) σ w n

  -- The strict run's state has no absent branch where it ends.
  sub_none : (N : ℕ) (g : Prog) (p b : Path) (body : Bool) (k : Outcome → St → Strict) → PlainK p b k → (φ : St) → Under b p → φ.gone ≡ [] → (o : Option End) → (plain g E N p b body k φ).out ≡ o →
      ((plain g E N p b body k φ).st.gone ≡ []) ⊎ (o ≡ None)
  sub_none N g p b body k pk φ u n None h = inr refl
  sub_none N g p b body k pk φ u n (Some x) h = inl (((plain_within g E N p b body k pk u φ).ends h).gone ∙ n)

  pub pays : (M N : ℕ) → N ≤ M → (g : Prog) (s b : Path) (body : Bool) (kE : Outcome → St → Rest → Res) (kP : Outcome → St → Strict) → PaysK kE kP → Under b s →
      (σ : St) (w : Rest) → σ.gone ≡ [] → Pays w.left (run g E [] M s b body kE σ w) (plain g E N s b body kP σ)
  unfolding run plain
  pays M N le (Done o) s b body kE kP c u σ w n = c o σ w n
  pays M N le (Ask p go) s b body kE kP c u σ w n = y_steps (steps_of p) s b body _ _ (λ a τ w' z. pays M N le (go a) s b body kE kP c u τ w' z) u σ w n
  pays M N le (Then g go) s b body kE kP c u σ w n = pays M N le g s b body _ _ (y_normal (λ v τ w'. run (go v) E [] M s b body kE τ w') (λ v τ. plain (go v) E N s b body kP τ) kE kP (λ v τ w' z. pays M N le (go v) s b body kE kP c u τ w' z) c) u σ w n
  pays M N le (Always g go) s b body kE kP c u σ w n = pays M N le g s b body _ _ (λ o τ w' z. pays M N le (go o) s b body kE kP c u τ w' z) u σ w n
  pays M N le (Once g) s b body kE kP c u σ w n = y_strict body _ (next_call σ) _
      (y_body s b body σ _ _ (y_once_goes s b body kE kP c u)
      w.left _ _ (pays M N le g (sub σ.calls s) b true _ _ (y_body_done (sub σ.calls s) b (down u)) (down u) (enter (once_call b (next_call σ))) w n) n _ refl
      (sub_none N g (sub σ.calls s) b true _ (p_body_end E (sub σ.calls s) b (down u)) (enter (once_call b (next_call σ))) (down u) n _ refl))
  pays M N le (Fork g) s b true kE kP c u σ w n = y_end (bar ForkInOnce) refl refl refl (omega arith)
  pays M N le (Fork g) s b false kE kP c u σ w n =
      y_branch s b false σ _ _ (y_fork_goes kE kP c)
      w.left _ _ (pays M N le g (sub σ.calls s) (sub σ.calls s) false _ _ (λ o τ w' z. y_done o τ w') self (enter (next_call σ)) (forked w) n) n _ refl
      (sub_none N g (sub σ.calls s) (sub σ.calls s) false _ (p_branch_end (sub σ.calls s) (sub σ.calls s)) (enter (next_call σ)) self n _ refl)
  pays M N le (Loop g) s b body kE kP c u σ w n = y_turns (λ k' τ w'. run g E [] M s b body k' τ w') (λ k' τ. plain g E N s b body k' τ) (λ kE' kP' c' τ w' z. pays M N le g s b body kE' kP' c' u τ w' z) M N le kE kP c σ w n
