-- The run over the empty trace, the history of runs, and the theorem.
use Rattle.std.specs.Prelude.{ℤ, List, Bool, true, false, Option, Some, None, nat_lt}
use Rattle.std.proofs.Common.{◌≡◌, ℕ, suc, zero, refl, ap, ◌⊎◌, inl, inr, [], ◌∷◌, ◌++◌, sym, ◌∙◌, subst, true≢false, ◌≤◌, arith}
use Rattle.turk_base.specs.declared.Record.{Record}
use Rattle.turk_base.specs.declared.Record.TheVariants as kept
use Rattle.turk_base.specs.Asks.{Question, posts, replies, draws, AnsOf, Rec, rec, path_of, find, answer, written}
use Rattle.turk_base.specs.Data.{Data}
use Rattle.turk_base.specs.Names.{Path, root, sub, Units, units_eq, not_root, Under, self, down, In, Name, cell, home, path_eq, pick}
use Rattle.turk_base.specs.Prog.{Prog, Done, Ask, Then, Always, Once, Fork, Loop}
use Rattle.turk_base.specs.Start.{start, first_known}
use Rattle.turk_base.specs.State.{St, AnswerTo, op_cost, Act, gives, refused, waiting, stuck, act, any_gone, Verdict, independent, touched_open, once_while_open, branch_threw, once_call, next_call, enter, leave, give_value, cut_all}
use Rattle.turk_base.specs.Steps.{Small, give, refuse, lost, step, ask, taking, put_data, steps_of}
use Rattle.turk_base.specs.Values.{Val, Undefined, Outcome, Normal, Break, Continue, Return, Throw, ForkInOnce}
use Rattle.js_tree.specs.Eval.{fuel, closed, eval, world, Grown, begun, grew}
use Rattle.js_tree.specs.Run.{valued, datum, value_in, data_in, End, ret, thr, bar, spent, Out, ended, waits, halted, Res, add, pay_if, on_act, on_ask, run_steps, branch_end, body_end, after_body, once_goes, after_branch, fork_goes, forked, on_normal, turns, run}
use Rattle.js_tree.specs.World.{World, drawn_of, kept_answer, Fresh, fresh, fresh_reply, fresh_draw, Rest}
use Rattle.run_laws.proofs.Count.{counts, count_more, mul_le}
use Rattle.run_laws.proofs.Exact.{exact, x_branch_end}
use Rattle.run_laws.proofs.Falls.{branch_end_left}
use Rattle.run_laws.proofs.Frame.{ActFramed, act_framed, plain_within, p_branch_end, p_body_end, PlainK}
use Rattle.run_laws.proofs.Lock.{lock, not_ended, not_ended', some_is, ToldBy, More, Conts, branch_end_lock, Cap}
use Rattle.run_laws.proofs.Props.{none_some, in_left, in_split}
use Rattle.run_laws.proofs.Relation.{Rel}
use Rattle.run_laws.proofs.Sound.{Agree}
use Rattle.run_laws.proofs.Within.{said, Born, asked, done, run_within, branch_end_within}
use Rattle.run_laws.specs.Claim.{OrderVanishes}
use Rattle.run_laws.specs.Strict.{Entry, Strict, note, strict, strict_act, strict_ask, plain_steps, strict_branch_end, strict_body_end, strict_once, strict_once_goes, strict_fork, strict_fork_goes, strict_normal, strict_turns, plain, Noted}
use native.Mathlib.Nat.{le_refl, le_trans}
use Rattle.turk_base.specs.Names.{integer_eq}

-- The run with no trace: spent, or the strict plain run, where that ends.
abbrev pub Plainly : Res → Strict → Type 0
Plainly e r = (x : End) → r.out ≡ Some x → (e.out ≡ halted spent) ⊎ ((e.out ≡ ended x) × (e.st ≡ r.st) × (e.made ≡ r.made))

pub record Follows (e : Res) (r : Strict) : Type 0 where
  pub holds : Plainly e r

follows_none : {e : Res} {r : Strict} → r.out ≡ None → Follows e r
follows_none h = record { holds = λ x z. absurd (none_some (sym h ∙ z)) }

pub some_end : {x y : End} → Some x ≡ Some y → x ≡ y
some_end {x} e = ap (λ o. elim o [ None ↦ x | Some z ↦ z ]) e

follows_end : {e : Res} {r : Strict} (y : End) → e.out ≡ ended y → r.out ≡ Some y → e.st ≡ r.st → e.made ≡ r.made → Follows e r
follows_end y h k q o = record { holds = λ x z. inr (h ∙ ap (λ z. ended z) (some_end (sym k ∙ z)), q, o) }

follows_spent : {e : Res} {r : Strict} → e.out ≡ halted spent → Follows e r
follows_spent h = record { holds = λ x z. inl h }

follows_strict : {e : Res} (body : Bool) (v : Verdict) (τ : St) (r : Strict) → Follows e r → Follows e (strict body v τ r)
follows_strict true v τ r k = k
follows_strict false independent τ r k = k
follows_strict false (touched_open y) τ r k = follows_none refl
follows_strict false (once_while_open y) τ r k = follows_none refl
follows_strict false (branch_threw y) τ r k = follows_none refl

follows_add : {e : Res} {r : Strict} (l : List Rec) (m : List Entry) (l' : List Rec) (n : ℕ) → l ≡ l' → Follows e r → Follows (add l e) (note m l' n r)
follows_add {e} {r} l m l' n q k = record { holds = λ x z. inner (k.holds x z) }
  where
    inner : {x : End} → (e.out ≡ halted spent) ⊎ ((e.out ≡ ended x) × (e.st ≡ r.st) × (e.made ≡ r.made)) → (e.out ≡ halted spent) ⊎ ((e.out ≡ ended x) × (e.st ≡ r.st) × (l ++ e.made ≡ l' ++ r.made))
    inner (inl h) = inl h
    inner (inr (h, d, o)) = inr (h, d, rw (q, o) refl)

module _ (s b : Path) (body : Bool) (σ : St) (kE : End → St → Rest → Res) (kP : End → St → Strict)
    (ih : (e : End) (τ : St) (f : Rest) → τ.gone ≡ [] → Follows (kE e τ f) (kP e τ)) (sE : Res) (sP : Strict) (w : Follows sE sP) (n : σ.gone ≡ []) where
  f_go : (e : End) (τ τ' : St) (f : Rest) → τ ≡ τ' → τ'.gone ≡ [] → Follows (kE e τ f) (kP e τ')
  f_go e τ τ' f h z = subst (λ y. Follows (kE e y f) (kP e τ')) (sym h) (ih e τ' f z)

  f_body_end : (x : End) → sE.st ≡ sP.st → sE.made ≡ sP.made → sE.out ≡ ended x → sP.st.gone ≡ [] →
      Follows (after_body (ended x) sE (sub σ.calls s) (once_call b (next_call σ)) kE) (strict_once (Some x) sP (sub σ.calls s) body (once_call b (next_call σ)) kP)
  f_body_end (ret x) q o h z = follows_add _ _ _ _ (ap (λ l. l ++ (rec (sub σ.calls s) (kept.Once (data_in x)) ∷ [])) o) (ih (ret (datum (data_in x))) _ sE.rest n)
  f_body_end (thr v) q o h z = follows_add _ _ _ _ o (follows_strict body _ sP.st _ (f_go (thr v) _ _ sE.rest (ap (λ τ. leave (once_call b (next_call σ)) τ) q) z))
  f_body_end (bar y) q o h z = follows_end (bar y) h refl q o

  body_follows : (o : Option End) → sP.out ≡ o → sP.st.gone ≡ [] ⊎ (o ≡ None) →
      Follows (after_body sE.out sE (sub σ.calls s) (once_call b (next_call σ)) kE) (strict_once o sP (sub σ.calls s) body (once_call b (next_call σ)) kP)
  body_follows None h z = follows_none refl
  body_follows (Some x) h (inr z) = absurd (none_some (sym z))
  body_follows (Some x) h (inl z) = choose (w.holds x h)
    where
      choose : (sE.out ≡ halted spent) ⊎ ((sE.out ≡ ended x) × (sE.st ≡ sP.st) × (sE.made ≡ sP.made)) →
          Follows (after_body sE.out sE (sub σ.calls s) (once_call b (next_call σ)) kE) (strict_once (Some x) sP (sub σ.calls s) body (once_call b (next_call σ)) kP)
      choose (inl e) = subst (λ o. Follows (after_body o sE (sub σ.calls s) (once_call b (next_call σ)) kE) (strict_once (Some x) sP (sub σ.calls s) body (once_call b (next_call σ)) kP)) (sym e) (follows_spent e)
      choose (inr (e, q, o')) = subst (λ o. Follows (after_body o sE (sub σ.calls s) (once_call b (next_call σ)) kE) (strict_once (Some x) sP (sub σ.calls s) body (once_call b (next_call σ)) kP)) (sym e) (f_body_end x q o' e z)

  f_branch_end : (x : End) → sE.st ≡ sP.st → sE.made ≡ sP.made → sE.out ≡ ended x → sP.out ≡ Some x → sP.st.gone ≡ [] → (g : Bool) → any_gone (sub σ.calls s) sE.st.gone ≡ g →
      Follows (after_branch g (ended x) sE (sub σ.calls s) (next_call σ) kE) (strict_fork (Some x) sP (sub σ.calls s) (next_call σ) kP)
  f_branch_end (ret v) q o h k z false e = follows_add _ _ _ _ o (f_go (ret (valued Undefined)) _ _ sE.rest (ap (λ τ. give_value (value_in v) (leave (next_call σ) (cut_all (sub σ.calls s) τ))) q) z)
  f_branch_end (thr v) q o h k z false e = follows_none refl
  f_branch_end (bar y) q o h k z false e = follows_end (bar y) h k q o
  f_branch_end x q o h k z true e = absurd (true≢false (sym e ∙ ap (any_gone (sub σ.calls s)) (ap (λ τ. τ.gone) q ∙ z)))

  branch_follows : (o : Option End) → sP.out ≡ o → sP.st.gone ≡ [] ⊎ (o ≡ None) →
      Follows (after_branch (any_gone (sub σ.calls s) sE.st.gone) sE.out sE (sub σ.calls s) (next_call σ) kE) (strict_fork o sP (sub σ.calls s) (next_call σ) kP)
  branch_follows None h z = follows_none h
  branch_follows (Some x) h (inr z) = absurd (none_some (sym z))
  branch_follows (Some x) h (inl z) = choose (w.holds x h)
    where
      choose : (sE.out ≡ halted spent) ⊎ ((sE.out ≡ ended x) × (sE.st ≡ sP.st) × (sE.made ≡ sP.made)) →
          Follows (after_branch (any_gone (sub σ.calls s) sE.st.gone) sE.out sE (sub σ.calls s) (next_call σ) kE) (strict_fork (Some x) sP (sub σ.calls s) (next_call σ) kP)
      choose (inl e) = subst (λ o. Follows (after_branch (any_gone (sub σ.calls s) sE.st.gone) o sE (sub σ.calls s) (next_call σ) kE) (strict_fork (Some x) sP (sub σ.calls s) (next_call σ) kP)) (sym e)
          (stopped e (any_gone (sub σ.calls s) sE.st.gone))
        where
          stopped : sE.out ≡ halted spent → (g : Bool) → Follows (after_branch g (halted spent) sE (sub σ.calls s) (next_call σ) kE) (strict_fork (Some x) sP (sub σ.calls s) (next_call σ) kP)
          stopped e true = follows_spent e
          stopped e false = follows_spent e
      choose (inr (e, q, o')) = subst (λ o. Follows (after_branch (any_gone (sub σ.calls s) sE.st.gone) o sE (sub σ.calls s) (next_call σ) kE) (strict_fork (Some x) sP (sub σ.calls s) (next_call σ) kP)) (sym e)
          (f_branch_end x q o' e h z (any_gone (sub σ.calls s) sE.st.gone) refl)

abbrev pub FollowK : {A : Type 0} → (A → St → Rest → Res) → (A → St → Strict) → Type 0
FollowK {A} kE kP = (a : A) (τ : St) (w : Rest) → τ.gone ≡ [] → Follows (kE a τ w) (kP a τ)

module _ (E : World) (steady : (q : Question) (k : ℕ) (p : Path) → fresh q E k p ≡ fresh q E 0 p) where
  f_steps : {A : Type 0} (g : Small A) (s b : Path) (body : Bool) (kE : A → St → Rest → Res) (kP : A → St → Strict) → FollowK kE kP → Under b s →
      (σ : St) (w : Rest) → σ.gone ≡ [] → Follows (run_steps g E [] s b body kE σ w) (plain_steps g E s b body kP σ)
  unfolding run_steps plain_steps
  f_steps (give a) s b body kE kP ih u σ w n = ih a σ w n
  f_steps (refuse why) s b body kE kP ih u σ w n = follows_end (bar why) refl refl refl refl
  f_steps lost s b body kE kP ih u σ w n = follows_none refl
  f_steps (step o go) s b body kE kP ih u σ w n = paid (nat_lt w.left (op_cost o σ)) (λ a τ w' z. f_steps (go a) s b body kE kP ih u τ w' z)
    where
      inner : (X : Act (AnswerTo o)) → ActFramed s b σ X → (w' : Rest) → ((a : AnswerTo o) (τ : St) (w' : Rest) → τ.gone ≡ [] → Follows (run_steps (go a) E [] s b body kE τ w') (plain_steps (go a) E s b body kP τ)) →
          Follows (on_act X σ w' (λ a τ w''. run_steps (go a) E [] s b body kE τ w'')) (strict_act X (op_cost o σ) body σ (λ a τ. plain_steps (go a) E s b body kP τ))
      inner (gives a τ) k w' h = follows_strict body τ.verdict τ _ (follows_add [] [] [] (op_cost o σ) refl (h a τ w' (k.0.gone ∙ n)))
      inner (refused why) k w' h = follows_end (bar why) refl refl refl refl
      inner (waiting x) k w' h = follows_none refl
      inner stuck k w' h = follows_none refl

      paid : (t : Bool) → ((a : AnswerTo o) (τ : St) (w' : Rest) → τ.gone ≡ [] → Follows (run_steps (go a) E [] s b body kE τ w') (plain_steps (go a) E s b body kP τ)) →
          Follows (pay_if t (op_cost o σ) σ w (λ w'. on_act (act o s b body σ) σ w' (λ a τ w''. run_steps (go a) E [] s b body kE τ w''))) (strict_act (act o s b body σ) (op_cost o σ) body σ (λ a τ. plain_steps (go a) E s b body kP τ))
      paid true h = follows_spent refl
      paid false h = inner (act o s b body σ) (act_framed o s b body σ u) _ h
  f_steps (ask q go) s b body kE kP ih u σ w n = rw (steady q w.drawn (sub σ.calls s)) (inner (fresh q E 0 (sub σ.calls s)) (λ a w'. f_steps (go a) s b body kE kP ih u (next_call σ) w' n))
    where
      inner : (o : Option (Fresh q)) → ((a : AnsOf q) (w' : Rest) → Follows (run_steps (go a) E [] s b body kE (next_call σ) w') (plain_steps (go a) E s b body kP (next_call σ))) →
          Follows (on_ask q None false o E (sub σ.calls s) (next_call σ) w (λ a w'. run_steps (go a) E [] s b body kE (next_call σ) w')) (strict_ask o (sub σ.calls s) σ (λ a. plain_steps (go a) E s b body kP (next_call σ)))
      inner (Some f) h = follows_add (rec (sub σ.calls s) f.what ∷ []) [] (rec (sub σ.calls s) f.what ∷ []) 0 refl (h f.answer _)
      inner None h = follows_none refl

  pub f_done : (o : Outcome) (τ : St) (w : Rest) → Follows (branch_end o τ w) (strict_branch_end o τ)
  f_done (Normal v) τ w = follows_end _ refl refl refl refl
  f_done Break τ w = follows_end _ refl refl refl refl
  f_done Continue τ w = follows_end _ refl refl refl refl
  f_done (Return v) τ w = follows_end _ refl refl refl refl
  f_done (Throw v) τ w = follows_end _ refl refl refl refl

  f_body_done : (s b : Path) → Under b s → FollowK (body_end E [] s b) (strict_body_end E s b)
  f_body_done s b u (Normal v) τ w n = f_steps (taking v) s b true _ _ (λ d τ w n. follows_end _ refl refl refl refl) u τ w n
  f_body_done s b u Break τ w n = f_steps (taking Undefined) s b true _ _ (λ d τ w n. follows_end _ refl refl refl refl) u τ w n
  f_body_done s b u Continue τ w n = f_steps (taking Undefined) s b true _ _ (λ d τ w n. follows_end _ refl refl refl refl) u τ w n
  f_body_done s b u (Return v) τ w n = f_steps (taking v) s b true _ _ (λ d τ w n. follows_end _ refl refl refl refl) u τ w n
  f_body_done s b u (Throw v) τ w n = follows_end _ refl refl refl refl

  f_once_goes : (s b : Path) (body : Bool) (kE : Outcome → St → Rest → Res) (kP : Outcome → St → Strict) → FollowK kE kP → Under b s → FollowK (once_goes E [] s b body kE) (strict_once_goes E s b body kP)
  f_once_goes s b body kE kP ih u (ret x) τ w n = f_steps (put_data (data_in x)) s b body _ _ (λ v τ w n. ih (Normal v) τ w n) u τ w n
  f_once_goes s b body kE kP ih u (thr v) τ w n = ih (Throw v) τ w n
  f_once_goes s b body kE kP ih u (bar why) τ w n = follows_end _ refl refl refl refl

  f_fork_goes : (kE : Outcome → St → Rest → Res) (kP : Outcome → St → Strict) → FollowK kE kP → FollowK (fork_goes kE) (strict_fork_goes kP)
  f_fork_goes kE kP ih (ret x) τ w n = ih (Normal Undefined) τ w n
  f_fork_goes kE kP ih (thr v) τ w n = ih (Throw v) τ w n
  f_fork_goes kE kP ih (bar why) τ w n = follows_end _ refl refl refl refl

  f_normal : (gE : Val → St → Rest → Res) (gP : Val → St → Strict) (kE : Outcome → St → Rest → Res) (kP : Outcome → St → Strict) → FollowK gE gP → FollowK kE kP → FollowK (on_normal gE kE) (strict_normal gP kP)
  f_normal gE gP kE kP hg hk (Normal v) τ w n = hg v τ w n
  f_normal gE gP kE kP hg hk Break τ w n = hk Break τ w n
  f_normal gE gP kE kP hg hk Continue τ w n = hk Continue τ w n
  f_normal gE gP kE kP hg hk (Return v) τ w n = hk (Return v) τ w n
  f_normal gE gP kE kP hg hk (Throw v) τ w n = hk (Throw v) τ w n

  f_turns : (gE : (Outcome → St → Rest → Res) → St → Rest → Res) (gP : (Outcome → St → Strict) → St → Strict) →
      ((kE : Outcome → St → Rest → Res) (kP : Outcome → St → Strict) → FollowK kE kP → (σ : St) (w : Rest) → σ.gone ≡ [] → Follows (gE kE σ w) (gP kP σ)) →
      (M N : ℕ) (kE : Outcome → St → Rest → Res) (kP : Outcome → St → Strict) → FollowK kE kP → (σ : St) (w : Rest) → σ.gone ≡ [] → Follows (turns M gE kE σ w) (strict_turns N gP kP σ)
  unfolding turns strict_turns
  f_turns gE gP h zero N kE kP c σ w n = follows_spent refl
  f_turns gE gP h (suc M) zero kE kP c σ w n = follows_none refl
  f_turns gE gP h (suc M) (suc N) kE kP c σ w n = h _ _ (f_normal (λ v τ w'. turns M gE kE τ w') (λ v τ. strict_turns N gP kP τ) kE kP (λ v τ w' z. f_turns gE gP h M N kE kP c τ w' z) c) σ w n

  -- The strict run's state has no absent branch where it ends.
  sub_none : (N : ℕ) (g : Prog) (p b : Path) (body : Bool) (k : Outcome → St → Strict) → PlainK p b k → (φ : St) → Under b p → φ.gone ≡ [] → (o : Option End) → (plain g E N p b body k φ).out ≡ o →
      ((plain g E N p b body k φ).st.gone ≡ []) ⊎ (o ≡ None)
  sub_none N g p b body k pk φ u n None h = inr refl
  sub_none N g p b body k pk φ u n (Some x) h = inl (((plain_within g E N p b body k pk u φ).ends h).gone ∙ n)

  pub follows : (M N : ℕ) (g : Prog) (s b : Path) (body : Bool) (kE : Outcome → St → Rest → Res) (kP : Outcome → St → Strict) → FollowK kE kP → Under b s →
      (σ : St) (w : Rest) → σ.gone ≡ [] → Follows (run g E [] M s b body kE σ w) (plain g E N s b body kP σ)
  unfolding run plain
  follows M N (Done o) s b body kE kP c u σ w n = c o σ w n
  follows M N (Ask p go) s b body kE kP c u σ w n = f_steps (steps_of p) s b body _ _ (λ a τ w' z. follows M N (go a) s b body kE kP c u τ w' z) u σ w n
  follows M N (Then g go) s b body kE kP c u σ w n = follows M N g s b body _ _ (f_normal (λ v τ w'. run (go v) E [] M s b body kE τ w') (λ v τ. plain (go v) E N s b body kP τ) kE kP (λ v τ w' z. follows M N (go v) s b body kE kP c u τ w' z) c) u σ w n
  follows M N (Always g go) s b body kE kP c u σ w n = follows M N g s b body _ _ (λ o τ w' z. follows M N (go o) s b body kE kP c u τ w' z) u σ w n
  follows M N (Once g) s b body kE kP c u σ w n = follows_strict body _ (next_call σ) _
      (body_follows s b body σ _ _ (f_once_goes s b body kE kP c u)
      _ _ (follows M N g (sub σ.calls s) b true _ _ (f_body_done (sub σ.calls s) b (down u)) (down u) (enter (once_call b (next_call σ))) w n) n _ refl
      (sub_none N g (sub σ.calls s) b true _ (p_body_end E (sub σ.calls s) b (down u)) (enter (once_call b (next_call σ))) (down u) n _ refl))
  follows M N (Fork g) s b true kE kP c u σ w n = follows_end (bar ForkInOnce) refl refl refl refl
  follows M N (Fork g) s b false kE kP c u σ w n =
      branch_follows s b false σ _ _ (f_fork_goes kE kP c)
      _ _ (follows M N g (sub σ.calls s) (sub σ.calls s) false _ _ (λ o τ w' z. f_done o τ w') self (enter (next_call σ)) (forked w) n) n _ refl
      (sub_none N g (sub σ.calls s) (sub σ.calls s) false _ (p_branch_end (sub σ.calls s) (sub σ.calls s)) (enter (next_call σ)) self n _ refl)
  follows M N (Loop g) s b body kE kP c u σ w n = f_turns (λ k' τ w'. run g E [] M s b body k' τ w') (λ k' τ. plain g E N s b body k' τ) (λ kE' kP' c' τ w' z. follows M N g s b body kE' kP' c' u τ w' z) M N kE kP c σ w n

-- ---- worlds

pub steady_told : (name : Units) (R : List (Units × Units)) (l : List Rec) (q : Question) (k : ℕ) (p : Path) → fresh q (world name R l) k p ≡ fresh q (world name R l) 0 p
unfolding fresh
steady_told name R l (posts t) k p = refl
steady_told name R l (replies t) k p = refl
steady_told name R l (draws m) k p = refl

-- A longer list of replies answers as the shorter one does.
pub answer_more : (R : List (Units × Units)) (added : List (Units × Units)) (t : Units) (x : Units) → answer R t ≡ Some x → answer (R ++ added) t ≡ Some x
answer_more [] added t x e = absurd (none_some e)
answer_more ((u, v) ∷ R) added t x e = inner (units_eq u t) e (λ z. answer_more R added t x z)
  where
    inner : (d : Dec (u ≡ t)) → pick d (Some v) (answer R t) ≡ Some x → (answer R t ≡ Some x → answer (R ++ added) t ≡ Some x) →
        pick d (Some v) (answer (R ++ added) t) ≡ Some x
    inner (yes d) z h = z
    inner (no d) z h = h z

pub find_more : (l : List Rec) (m : List Rec) (p : Path) (r : Rec) → find p l ≡ Some r → find p (l ++ m) ≡ Some r
find_more [] m p r e = absurd (none_some e)
find_more (d ∷ l) m p r e = inner (path_eq (path_of d) p) e (λ z. find_more l m p r z)
  where
    inner : (x : Dec (path_of d ≡ p)) → pick x (Some d) (find p l) ≡ Some r → (find p l ≡ Some r → find p (l ++ m) ≡ Some r) → pick x (Some d) (find p (l ++ m)) ≡ Some r
    inner (yes x) z h = z
    inner (no x) z h = h z

-- One list of records finds what another finds.
abbrev pub Finds : List Rec → List Rec → Type 0
Finds l l' = (p : Path) (r : Rec) → find p l ≡ Some r → find p l' ≡ Some r

abbrev pub Answers : List (Units × Units) → List (Units × Units) → Type 0
Answers R R' = (t : Units) (x : Units) → answer R t ≡ Some x → answer R' t ≡ Some x

drawn_more : (l l' : List Rec) → Finds l l' → (p : Path) (m n : ℤ) → drawn_of m (find p l) ≡ Some n → drawn_of m (find p l') ≡ Some n
drawn_more l l' h p m n e = inner (find p l) refl e
  where
    inner : (o : Option Rec) → find p l ≡ o → drawn_of m o ≡ Some n → drawn_of m (find p l') ≡ Some n
    inner (Some r) z e = rw (h p r z) e
    inner None z e = absurd (none_some e)

pub world_more : (name : Units) (R R' : List (Units × Units)) (l l' : List Rec) → Answers R R' → Finds l l' → More (world name R l) (world name R' l')
unfolding fresh
world_more name R R' l l' a d (posts t) k p f e = e
world_more name R R' l l' a d (replies t) k p f e = inner (answer R t) refl e
  where
    inner : (o : Option Units) → answer R t ≡ o → fresh_reply t o ≡ Some f → fresh_reply t (answer R' t) ≡ Some f
    inner (Some x) z e = rw (a t x z) e
    inner None z e = absurd (none_some e)
world_more name R R' l l' a d (draws m) k p f e = inner (drawn_of m (find p l)) refl e
  where
    inner : (o : Option ℤ) → drawn_of m (find p l) ≡ o → fresh_draw m o ≡ Some f → fresh_draw m (drawn_of m (find p l')) ≡ Some f
    inner (Some x) z e = rw (drawn_more l l' d p m x z) e
    inner None z e = absurd (none_some e)

-- A record that a run made is answered by each world that answers what the run's world answers.
pub born_told : (name : Units) (R R' : List (Units × Units)) (l l' : List Rec) → Answers R R' → Finds l l' → (p : Path) (x : Record) → Born (world name R l) p x →
    (q : Question) (a : AnsOf q) → kept_answer q name p x ≡ Some a → said (fresh q (world name R' l') 0 p) ≡ Some a
unfolding fresh
born_told name R R' l l' h d p x (done y) (posts t) a e = absurd (none_some e)
born_told name R R' l l' h d p x (done y) (replies t) a e = absurd (none_some e)
born_told name R R' l l' h d p x (done y) (draws m) a e = absurd (none_some e)
born_told name R R' l l' h d p x (asked q' k f z) q a e = inner q' k f z (world_more name R R' l l' h d q' k p f z) q a e
  where
    post_one : (u t : Units) (a : Units) → (c : Dec (u ≡ t)) → pick c (Some (name ++ (47 ∷ written p))) None ≡ Some a → said (fresh (posts t) (world name R' l') 0 p) ≡ Some a
    post_one u t a (yes c) e = e
    post_one u t a (no n) e = absurd (none_some e)

    reply_one : (u t y : Units) → fresh (replies u) (world name R' l') 0 p ≡ Some (record { answer = y; what = kept.Reply u y }) → (a : Units) → (c : Dec (u ≡ t)) → pick c (Some y) None ≡ Some a → said (fresh (replies t) (world name R' l') 0 p) ≡ Some a
    reply_one u t y z a (yes c) e = subst (λ v. said (fresh (replies v) (world name R' l') 0 p) ≡ Some a) c (ap (λ o. said o) z ∙ e)
    reply_one u t y z a (no n) e = absurd (none_some e)

    draw_one : (u m n : ℤ) → fresh (draws u) (world name R' l') 0 p ≡ Some (record { answer = n; what = kept.Draw u n }) → (a : ℤ) → (c : Dec (u ≡ m)) → pick c (Some n) None ≡ Some a → said (fresh (draws m) (world name R' l') 0 p) ≡ Some a
    draw_one u m n z a (yes c) e = subst (λ v. said (fresh (draws v) (world name R' l') 0 p) ≡ Some a) c (ap (λ o. said o) z ∙ e)
    draw_one u m n z a (no c) e = absurd (none_some e)

    posted_one : (u : Units) (q : Question) (a : AnsOf q) → kept_answer q name p (kept.Post u) ≡ Some a → said (fresh q (world name R' l') 0 p) ≡ Some a
    posted_one u (posts t) a e = post_one u t a (units_eq u t) e
    posted_one u (replies t) a e = absurd (none_some e)
    posted_one u (draws m) a e = absurd (none_some e)

    replied_one : (u y : Units) → fresh (replies u) (world name R' l') 0 p ≡ Some (record { answer = y; what = kept.Reply u y }) → (q : Question) (a : AnsOf q) → kept_answer q name p (kept.Reply u y) ≡ Some a → said (fresh q (world name R' l') 0 p) ≡ Some a
    replied_one u y z (posts t) a e = absurd (none_some e)
    replied_one u y z (replies t) a e = reply_one u t y z a (units_eq u t) e
    replied_one u y z (draws m) a e = absurd (none_some e)

    drawn_one : (u n : ℤ) → fresh (draws u) (world name R' l') 0 p ≡ Some (record { answer = n; what = kept.Draw u n }) → (q : Question) (a : AnsOf q) → kept_answer q name p (kept.Draw u n) ≡ Some a → said (fresh q (world name R' l') 0 p) ≡ Some a
    drawn_one u n z (posts t) a e = absurd (none_some e)
    drawn_one u n z (replies t) a e = absurd (none_some e)
    drawn_one u n z (draws m) a e = draw_one u m n z a (integer_eq u m) e

    reply_from : (u : Units) (o : Option Units) (f : Fresh (replies u)) → fresh_reply u o ≡ Some f → fresh (replies u) (world name R' l') 0 p ≡ Some f → (q : Question) (a : AnsOf q) → kept_answer q name p f.what ≡ Some a → said (fresh q (world name R' l') 0 p) ≡ Some a
    reply_from u (Some y) f z more = subst (λ f. fresh (replies u) (world name R' l') 0 p ≡ Some f → (q : Question) (a : AnsOf q) → kept_answer q name p f.what ≡ Some a → said (fresh q (world name R' l') 0 p) ≡ Some a) (some_is z) (λ more'. replied_one u y more') more
    reply_from u None f z more = absurd (none_some z)

    draw_from : (u : ℤ) (o : Option ℤ) (f : Fresh (draws u)) → fresh_draw u o ≡ Some f → fresh (draws u) (world name R' l') 0 p ≡ Some f → (q : Question) (a : AnsOf q) → kept_answer q name p f.what ≡ Some a → said (fresh q (world name R' l') 0 p) ≡ Some a
    draw_from u (Some y) f z more = subst (λ f. fresh (draws u) (world name R' l') 0 p ≡ Some f → (q : Question) (a : AnsOf q) → kept_answer q name p f.what ≡ Some a → said (fresh q (world name R' l') 0 p) ≡ Some a) (some_is z) (λ more'. drawn_one u y more') more
    draw_from u None f z more = absurd (none_some z)

    inner : (q' : Question) (k : ℕ) (f : Fresh q') → fresh q' (world name R l) k p ≡ Some f → fresh q' (world name R' l') 0 p ≡ Some f → (q : Question) (a : AnsOf q) → kept_answer q name p f.what ≡ Some a → said (fresh q (world name R' l') 0 p) ≡ Some a
    inner (posts u) k f z more = subst (λ f. (q : Question) (a : AnsOf q) → kept_answer q name p f.what ≡ Some a → said (fresh q (world name R' l') 0 p) ≡ Some a) (some_is z) (posted_one u)
    inner (replies u) k f z more = reply_from u (answer R u) f z more
    inner (draws u) k f z more = draw_from u (drawn_of u (find p l)) f z more

-- ---- the start, and the history

pub rel_start : Rel root false start start
rel_start = record {
  calls = refl;
  cells = refl;
  vals = λ h. refl;
  none = refl;
  known = λ n o. refl;
  lost = λ n a m. elim m [ ];
  val = λ x o. inl refl;
  fresh = λ i n h u. unknown i n u;
  apart = λ a m. elim m [ ];
  old = λ a i m. elim m [ ];
}
  where
    unknown : (i : ℕ) (n : Name) → Under (sub i root) (home n) → first_known n ≡ None
    unknown i (cell root k) u = absurd (not_root u)
    unknown i (cell (sub j p) k) u = refl

pub record Right (name : Units) (S : Prog) (n : ℕ) (T : List Rec) (E : World) : Type 0 where
  pub told : (p : Path) (x : Record) → In Rec (rec p x) T → (q : Question) (a : AnsOf q) → kept_answer q name p x ≡ Some a → said (fresh q E 0 p) ≡ Some a
  pub agree : Agree (Cap n T) T (plain S E (suc n) root root false strict_branch_end start).log

-- What comes after a whole script.
pub top : (n : ℕ) (T : List Rec) (E' E : World) (told : ToldBy T E' E) (more : More E' E) → Conts n T E' E told more root root false branch_end strict_branch_end
top n T E' E told more = record { left = branch_end_within E' root; falls = branch_end_left; right = p_branch_end root root; both = branch_end_lock n T E' E told more root false }

pub grown_right : {name : Units} {S : Prog} {n : ℕ} {T : List Rec} {R' : List (Units × Units)} → Grown name S n T R' → (R : List (Units × Units)) (l : List Rec) → Answers R' R → Finds T l → Right name S n T (world name R l)
grown_right begun R l a d = record { told = λ p x m. elim m [ ]; agree = λ p n o m k. elim m [ ] }
grown_right {name} {S} {n} (grew {T = T} {T2 = T2} {R = R'} added g (front, rest, z, e)) R l a d =
    one_more (grown_right g R l (λ t x y. a t x (answer_more R' added t x y)) (λ p r y. d p r (rw z (find_more T front p r y))))
  where
    shorter : Answers R' R
    shorter t x y = a t x (answer_more R' added t x y)

    new : {q : Rec} → In Rec q front → In Rec q (run S (world name R' T2) T (suc n) root root false branch_end start (fuel n)).made
    new b = rw e (in_left front rest b)

    told_new : (p : Path) (x : Record) → In Rec (rec p x) front → (q : Question) (a : AnsOf q) → kept_answer q name p x ≡ Some a → said (fresh q (world name R l) 0 p) ≡ Some a
    told_new p x b = born_told name R' R T2 l shorter d p x ((run_within S (world name R' T2) T (suc n) root root false branch_end (branch_end_within (world name R' T2) root) start (fuel n)).made (new b)).1

    two : {p : Path} {x : Record} → In Rec (rec p x) T2 → In Rec (rec p x) T ⊎ In Rec (rec p x) front
    two m = in_split T front (rw z at m)

    wider : (p : Path) (k : Data) (o : Noted) → (o.kept ≡ Some k) × (o.cost ≤ Cap n T p) → (o.kept ≡ Some k) × (o.cost ≤ Cap n T2 p)
    wider p k o (h, c) = (h, le_trans c (rw z (let a = count_more T front p 0 in mul_le n (suc (counts T p 0)) (suc (counts (T ++ front) p 0)) (omega (arith, a)))))

    one_more : Right name S n T (world name R l) → Right name S n T2 (world name R l)
    one_more old = record {
      told = λ p x m. elim (two m) [ inl i ↦ old.told p x i | inr i ↦ told_new p x i ];
      agree = λ p k o m h. elim (two m) [
        | inl i ↦ wider p k o (old.agree p k o i h)
        | inr i ↦ wider p k o ((lock n T (world name R' T2) (world name R l) old.told (world_more name R' R T2 l shorter d) (suc n) S root root false branch_end strict_branch_end
            (top n T (world name R' T2) (world name R l) old.told (world_more name R' R T2 l shorter d)) self start start (fuel n) (le_refl _) rel_start old.agree).logs p k o (new i) h)
      ];
    }

pub closed_ended : (g : Bool) (o : Out) (e : End) → closed g o ≡ ended e → (g ≡ false) × (o ≡ ended e)
closed_ended true (ended x) e z = absurd (not_ended' z)
closed_ended false (ended x) e z = (refl, z)
closed_ended true waits e z = absurd (not_ended' z)
closed_ended false waits e z = absurd (not_ended' z)
closed_ended true (halted w) e z = absurd (not_ended z)
closed_ended false (halted w) e z = absurd (not_ended z)

pub closed_spent : (g : Bool) (o : Out) → o ≡ halted spent → closed g o ≡ halted spent
closed_spent true o e = rw e refl
closed_spent false o e = rw e refl

pub closed_end : (g : Bool) (o : Out) (e : End) → g ≡ false → o ≡ ended e → closed g o ≡ ended e
closed_end g o e k h = rw (k, h) refl

-- The whole strict plain run of a script over the replies and draws that are known at last.
abbrev pub strictly : Units → Prog → ℕ → List (Units × Units) → List Rec → Strict
strictly name S n R l = plain S (world name R l) (suc n) root root false strict_branch_end start

-- The last run is the strict plain run.
pub last_exact : (name : Units) (S : Prog) (n : ℕ) (T : List Rec) (R : List (Units × Units)) → Grown name S n T R → (T2 : List Rec) → T2 ≡ T ++ (eval S (world name R T2) T n).made →
    (e : End) → (eval S (world name R T2) T n).out ≡ ended e → (eval S (world name R T2) T n).st.verdict ≡ independent →
    ((strictly name S n R T2).out ≡ Some e) × ((strictly name S n R T2).st ≡ (eval S (world name R T2) T n).st)
last_exact name S n T R g T2 t e h v = finish (grown_right g R T2 (λ t x z. z) (λ p r z. rw t (find_more T _ p r z))) (closed_ended _ _ e h)
  where
    same : More (world name R T2) (world name R T2)
    same = world_more name R R T2 T2 (λ t x z. z) (λ p r z. z)

    finish : Right name S n T (world name R T2) → (any_gone root (run S (world name R T2) T (suc n) root root false branch_end start (fuel n)).st.gone ≡ false) × ((run S (world name R T2) T (suc n) root root false branch_end start (fuel n)).out ≡ ended e) →
        ((strictly name S n R T2).out ≡ Some e) × ((strictly name S n R T2).st ≡ (eval S (world name R T2) T n).st)
    finish k (z, o) = (exact (Cap n T) T (world name R T2) (world name R T2) k.told same (suc n) S root root false branch_end strict_branch_end
        (record { left = branch_end_within (world name R T2) root; both = x_branch_end (Cap n T) T (world name R T2) (world name R T2) k.told same root false }) start (fuel n)).holds k.agree (λ y. (z, v)) e o

-- The plain run is the strict plain run, or spent.
pub plain_follows : (name : Units) (S : Prog) (n m : ℕ) (R : List (Units × Units)) (l : List Rec) → Follows (run S (world name R l) [] (suc m) root root false branch_end start (fuel m)) (strictly name S n R l)
plain_follows name S n m R l = follows (world name R l) (steady_told name R l) (suc m) (suc n) S root root false branch_end strict_branch_end (λ o τ w z. f_done (world name R l) (steady_told name R l) o τ w) self start (fuel m) refl

pub order_vanishes : OrderVanishes
order_vanishes name S n T R g T2 t e h v m = finish (closed_ended _ _ e h) (last_exact name S n T R g T2 t e h v)
  where
    finish : (any_gone root (run S (world name R T2) T (suc n) root root false branch_end start (fuel n)).st.gone ≡ false) × ((run S (world name R T2) T (suc n) root root false branch_end start (fuel n)).out ≡ ended e) →
        ((strictly name S n R T2).out ≡ Some e) × ((strictly name S n R T2).st ≡ (eval S (world name R T2) T n).st) →
        ((eval S (world name R T2) [] m).out ≡ halted spent) ⊎ (((eval S (world name R T2) [] m).out ≡ ended e) × ((eval S (world name R T2) [] m).st ≡ (eval S (world name R T2) T n).st))
    finish (z, o) (a, b) = last ((plain_follows name S n m R T2).holds e a)
      where
        last : ((run S (world name R T2) [] (suc m) root root false branch_end start (fuel m)).out ≡ halted spent) ⊎ (((run S (world name R T2) [] (suc m) root root false branch_end start (fuel m)).out ≡ ended e) × ((run S (world name R T2) [] (suc m) root root false branch_end start (fuel m)).st ≡ (strictly name S n R T2).st) × ((run S (world name R T2) [] (suc m) root root false branch_end start (fuel m)).made ≡ (strictly name S n R T2).made)) →
            ((eval S (world name R T2) [] m).out ≡ halted spent) ⊎ (((eval S (world name R T2) [] m).out ≡ ended e) × ((eval S (world name R T2) [] m).st ≡ (eval S (world name R T2) T n).st))
        last (inl c) = inl (closed_spent _ _ c)
        last (inr (c, d, o)) = inr (closed_end _ _ e (ap (λ τ. any_gone root τ.gone) (d ∙ b) ∙ z) c, d ∙ b)
