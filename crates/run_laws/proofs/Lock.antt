-- A run over a right trace, with branches absent or not, goes like the strict plain run.
use Rattle.std.specs.Prelude.{ℤ, List, Bool, true, false, Option, Some, None, nat_lt}
use Rattle.std.proofs.Common.{◌≡◌, ℕ, suc, zero, refl, ap, arith, ◌⊎◌, inl, inr, [], ◌∷◌, ◌++◌, sym, ◌∙◌, subst, true≢false, ◌≤◌, ◌+◌, ◌*◌, ◌-◌}
use Rattle.turk_base.specs.declared.Record.{Record}
use Rattle.turk_base.specs.declared.Record.TheVariants as kept
use Rattle.turk_base.specs.Asks.{Question, posts, replies, draws, AnsOf, Rec, rec, path_of, find, below, answer}
use Rattle.turk_base.specs.Data.{Data}
use Rattle.turk_base.specs.Names.{Path, sub, Units, Under, self, down, In, first, later, path_eq, pick}
use Rattle.turk_base.specs.Prog.{Prog, Done, Ask, Then, Always, Once, Fork, Loop}
use Rattle.turk_base.specs.State.{St, AnswerTo, op_cost, Act, gives, refused, waiting, stuck, act, any_gone, Verdict, independent, touched_open, once_while_open, branch_threw, once_call, next_call, enter, leave, absent}
use Rattle.turk_base.specs.Steps.{Small, give, refuse, lost, step, ask, taking, put_data, steps_of}
use Rattle.turk_base.specs.Values.{Val, Undefined, Outcome, Normal, Break, Continue, Return, Throw, ForkInOnce}
use Rattle.js_tree.specs.Run.{Gift, valued, datum, value_in, data_in, End, ret, thr, bar, Why, spent, missing, diverged, Out, ended, waits, halted, Res, res, add, pay_if, on_act, on_kept, unanswered, on_ask, run_steps, branch_end, body_end, after_body, on_once, once_goes, after_branch, on_fork, fork_goes, forked, on_normal, turns, run}
use Rattle.js_tree.specs.World.{World, draw_of, Divergence, kept_answer, Fresh, fresh, fresh_reply, fresh_draw, Rest, drew}
use Rattle.run_laws.proofs.Count.{counts, mul_le, mul_two, mul_own, count_two, count_own, count_step}
use Rattle.run_laws.proofs.Falls.{FallsK, drew_left, minus_le, run_left, branch_end_left, body_end_left, normal_left, turns_left}
use Rattle.run_laws.proofs.Frame.{PlainWithin, PlainK, plain_within, p_branch_end, p_body_end, p_once_goes, p_fork_goes, p_normal, p_turns, ActFramed, act_framed}
use Rattle.run_laws.proofs.Lists.{first_clean, none_gone}
use Rattle.run_laws.proofs.Paths.{up}
use Rattle.run_laws.proofs.Props.{none_some, in_split, in_left, in_right}
use Rattle.run_laws.proofs.Relation.{Rel, at_call, ActRel, act_rel, all_settled, once_pass, CostRel, cost_rel}
use Rattle.run_laws.proofs.Scopes.{rel_next, rel_once, rel_enter, rel_leave, rel_joined, rel_absent}
use Rattle.run_laws.proofs.Sound.{Agree, EndRel, SameEnd, Sound, ended_is, sound_halt, sound_bar, sound_strict, wide, tall, seq, with_entry, with_both, with_own, with_rec}
use Rattle.run_laws.proofs.Within.{After, Within, WithinK, Keeps, keeps_trans, said, run_within, branch_end_within, body_end_within, once_goes_within, fork_goes_within, normal_within, turns_within}
use Rattle.run_laws.specs.Strict.{Entry, entry, Noted, noting, Strict, Completed, note, plain_end, strict, strict_act, strict_ask, plain_steps, strict_branch_end, strict_body_end, kept_data, strict_once, strict_once_goes, strict_fork, strict_fork_goes, strict_normal, strict_turns, plain}
use native.Mathlib.Nat.{le_refl, le_trans}
use Rattle.std.proofs.lemmas.Bool.{ltb-false}

pub not_ended : {x : End} {w : Why} → halted w ≡ ended x → ⊥
not_ended e = cc

pub not_ended' : {x : End} → waits ≡ ended x → ⊥
not_ended' e = cc

pub some_is : {A : Type 0} {x y : A} → Some x ≡ Some y → x ≡ y
some_is {x = x} e = ap (λ o. elim o [ None ↦ x | Some z ↦ z ]) e

-- What a body at p may cost, and what a run from the call c of s on may cost: n is the fuel of a run.
abbrev pub Cap : ℕ → List Rec → Path → ℕ
Cap n T p = n * suc (counts T p 0)

abbrev pub Owe : ℕ → List Rec → Path → ℕ → ℕ → ℕ
Owe n T s c f = f + n * counts T s c

-- a scope's cost and that of what comes after it
owe_two : (n : ℕ) (T : List Rec) (s : Path) (c k l f : ℕ) → k + l ≤ f + n * counts T (sub c s) 0 → k + (l + n * counts T s (suc c)) ≤ f + n * counts T s c
owe_two n T s c k l f h = let a = mul_two n (counts T (sub c s) 0) (counts T s (suc c)) (counts T s c) (count_two T s c) in omega (arith, h, a)

owe_one : (n : ℕ) (T : List Rec) (s : Path) (c k l f : ℕ) → k + l ≤ f + n * counts T (sub c s) 0 → k + l ≤ f + n * counts T s c
owe_one n T s c k l f h = let a = mul_two n (counts T (sub c s) 0) (counts T s (suc c)) (counts T s c) (count_two T s c) in omega (arith, h, a)

owe_own : (n : ℕ) (T : List Rec) (s : Path) (c k f : ℕ) (d : Data) → In Rec (rec (sub c s) (kept.Once d)) T → k ≤ n * suc (counts T (sub c s) 0) → k + (f + n * counts T s (suc c)) ≤ f + n * counts T s c
owe_own n T s c k f d m h = let a = mul_own n (counts T (sub c s) 0) (counts T s (suc c)) (counts T s c) (count_own T s c d m) in omega (arith, h, a)

owe_cap : (n : ℕ) (T : List Rec) (p : Path) (k l f : ℕ) → f ≤ n → k + l ≤ f + n * counts T p 0 → k ≤ n * suc (counts T p 0)
owe_cap n T p k l f h g = omega (arith, h, g)

owe_step : (n : ℕ) (T : List Rec) (s : Path) (c f : ℕ) → f + n * counts T s (suc c) ≤ f + n * counts T s c
owe_step n T s c f = let a = mul_le n (counts T s (suc c)) (counts T s c) (count_step T s c) in omega (arith, a)

-- A scope at the index c of s: sE and sP are its runs, kE and kP what comes after.
module _ (fu : ℕ) (E : World) (T : List Rec) (s b : Path) (body : Bool) (σ φ : St) (v : Under b s) (r : Rel s body σ φ)
    (kE : End → St → Rest → Res) (wkE : WithinK E s kE)
    (kP : End → St → Strict) (wkP : PlainK s b kP)
    (ih : (e : End) (τ τ' : St) (f : Rest) → f.left ≤ fu → Rel s body τ τ' → Agree (Cap fu T) T (kP e τ').log → Sound (Cap fu T) (Owe fu T s τ'.calls f.left) s body (kE e τ f) (kP e τ')) where
  made_after : {e : End} {τ : St} {f : Rest} → τ.calls ≡ suc φ.calls → (q : Rec) → In Rec q (kE e τ f).made → After s (suc φ.calls) (path_of q)
  made_after {e} {τ} {f} z q m = let a = (wkE e τ f).made m in (a.0.0, omega (arith, a.0.1, z), a.0.2)

  log_after : {e : End} {τ : St} → τ.calls ≡ suc φ.calls → (q : Path) (o : Noted) → In Entry (entry q o) (kP e τ).log → After s (suc φ.calls) q
  log_after {e} {τ} z q o m = let a = (wkP e τ).log m in (a.0, omega (arith, a.1, z), a.2)

  -- The once call at the index φ.calls: sE and sP are the runs of its body.
  module _ (w₀ : Rest) (lo : w₀.left ≤ fu) (sE : Res) (sl : sE.rest.left ≤ w₀.left) (wE : Within E (sub φ.calls s) 0 (enter (once_call b (at_call σ (suc φ.calls)))) sE)
      (sP : Strict) (wP : PlainWithin (sub φ.calls s) b 0 (enter (once_call b (next_call φ))) sP) where
    rel₁ : Rel s body (once_call b (at_call σ (suc φ.calls))) (once_call b (next_call φ))
    rel₁ = rel_once b (rel_next r)

    uE : (q : Rec) → In Rec q sE.made → After (sub φ.calls s) 0 (path_of q)
    uE q m = (wE.made m).0

    uP : (q : Path) (o : Noted) → In Entry (entry q o) sP.log → After (sub φ.calls s) 0 q
    uP q o m = wP.log m

    -- The log of the once call: the body's, its own entry, and what comes after.
    once_log : (o : Option End) (q : Path) (o' : Noted) → In Entry (entry q o') (strict_once o sP (sub φ.calls s) body (once_call b (next_call φ)) kP).log →
        In Entry (entry q o') (sP.log ++ (entry (sub φ.calls s) (noting (kept_data o) sP.cost) ∷ [])) ⊎ After s (suc φ.calls) q
    once_log (Some (ret x)) q o' m = elim (in_split (sP.log ++ (entry (sub φ.calls s) (noting (Some (data_in x)) sP.cost) ∷ [])) _ m) [ inl a ↦ inl a | inr z ↦ inr (log_after refl q o' z) ]
    once_log (Some (thr x)) q o' m = elim (in_split (sP.log ++ (entry (sub φ.calls s) (noting None sP.cost) ∷ [])) _ m) [ inl a ↦ inl a | inr z ↦ inr (after_strict body sP.st.verdict z) ]
      where
        after_strict : (body' : Bool) (w : Verdict) → In Entry (entry q o') (strict body' w sP.st (kP (thr x) (leave (once_call b (next_call φ)) sP.st))).log → After s (suc φ.calls) q
        after_strict true w z = log_after refl q o' z
        after_strict false independent z = log_after refl q o' z
        after_strict false (touched_open y) z = elim z [ ]
        after_strict false (once_while_open y) z = elim z [ ]
        after_strict false (branch_threw y) z = elim z [ ]
    once_log (Some (bar w)) q o' m = inl m
    once_log None q o' m = inl m

    once_has : (o : Option End) {x : Entry} → In Entry x (sP.log ++ (entry (sub φ.calls s) (noting (kept_data o) sP.cost) ∷ [])) → In Entry x (strict_once o sP (sub φ.calls s) body (once_call b (next_call φ)) kP).log
    once_has (Some (ret x)) m = in_left _ _ m
    once_has (Some (thr x)) m = in_left _ _ m
    once_has (Some (bar w)) m = m
    once_has None m = m

    once_rest : (x : Gift) → Agree (Cap fu T) T (strict_once (Some (ret x)) sP (sub φ.calls s) body (once_call b (next_call φ)) kP).log → Agree (Cap fu T) T (kP (ret (datum (data_in x))) (once_call b (next_call φ))).log
    once_rest x a p m o i k = a p m o i (in_right _ _ k)

    -- The record is there.
    recorded : (d : Data) → In Rec (rec (sub φ.calls s) (kept.Once d)) T → sP.cost ≤ Cap fu T (sub φ.calls s) → (o : Option End) → kept_data o ≡ Some d → Agree (Cap fu T) T (strict_once o sP (sub φ.calls s) body (once_call b (next_call φ)) kP).log →
        Sound (Cap fu T) (Owe fu T s φ.calls w₀.left) s body (kE (ret (datum d)) (once_call b (at_call σ (suc φ.calls))) w₀) (strict_once o sP (sub φ.calls s) body (once_call b (next_call φ)) kP)
    recorded d m hc (Some (ret x)) e a = subst (λ d. Sound (Cap fu T) (Owe fu T s φ.calls w₀.left) s body (kE (ret (datum d)) (once_call b (at_call σ (suc φ.calls))) w₀) (strict_once (Some (ret x)) sP (sub φ.calls s) body (once_call b (next_call φ)) kP))
        (some_is e)
        (seq s φ.calls [] (sP.log ++ (entry (sub φ.calls s) (noting (Some (data_in x)) sP.cost) ∷ [])) (λ q m. elim m [ ])
        (with_own {C = Cap fu T} (sub φ.calls s) [] sP.log (λ q m. elim m [ ]) uP (λ p n o m k. elim m [ ]) (noting (Some (data_in x)) sP.cost)) (λ p n o m k. elim m [ ])
        (sP.made ++ (rec (sub φ.calls s) (kept.Once (data_in x)) ∷ [])) (λ q m. elim m [ ]) sP.cost
        (kE (ret (datum (data_in x))) _ w₀) (kP (ret (datum (data_in x))) _) (λ y z g. owe_own fu T s φ.calls sP.cost w₀.left d m hc) (made_after refl) (log_after refl)
        (ih (ret (datum (data_in x))) _ _ w₀ lo rel₁ (once_rest x a)))
    recorded d m hc (Some (thr x)) e a = absurd (none_some e)
    recorded d m hc (Some (bar w)) e a = absurd (none_some e)
    recorded d m hc None e a = absurd (none_some e)

    -- The record is not there: the body runs on both sides.
    module _ (w : Sound (Cap fu T) (Owe fu T (sub φ.calls s) 0 w₀.left) (sub φ.calls s) true sE sP) where
      kept_once : Keeps (sub φ.calls s) (enter σ) (enter (once_call b (at_call σ (suc φ.calls))))
      kept_once = record { known = λ n u. refl; more = λ h. h; new = λ h. inl h; clean = first_clean σ.verdict _ }

      body_ended : (x : End) → EndRel (sub φ.calls s) true x sE.st sP.st → sE.out ≡ ended x → sP.out ≡ Some x →
          Agree (Cap fu T) T (strict_once (Some x) sP (sub φ.calls s) body (once_call b (next_call φ)) kP).log →
          Sound (Cap fu T) (Owe fu T s φ.calls w₀.left) s body (after_body (ended x) sE (sub φ.calls s) (once_call b (at_call σ (suc φ.calls))) kE) (strict_once (Some x) sP (sub φ.calls s) body (once_call b (next_call φ)) kP)
      body_ended (ret x) q e e' a = seq s φ.calls (sE.made ++ (rec (sub φ.calls s) (kept.Once (data_in x)) ∷ [])) (sP.log ++ (entry (sub φ.calls s) (noting (Some (data_in x)) sP.cost) ∷ []))
          (with_rec (sub φ.calls s) sE.made sP.log uE uP w.logs (data_in x)) (with_own (sub φ.calls s) sE.made sP.log uE uP w.logs _) (with_both (sub φ.calls s) sE.made sP.log uE uP w.logs (data_in x) sP.cost (owe_cap fu T (sub φ.calls s) sP.cost sE.rest.left w₀.left lo (w.owes (ret x) e (λ z. absurd (true≢false z)) e')))
          (sP.made ++ (rec (sub φ.calls s) (kept.Once (data_in x)) ∷ [])) (λ z m. elim (in_split sE.made _ m) [ inl i ↦ in_left _ _ (w.there (rw e' tt) z i) | inr i ↦ in_right sP.made _ i ])
          sP.cost (kE (ret (datum (data_in x))) _ sE.rest) (kP (ret (datum (data_in x))) _) (λ y z g. owe_two fu T s φ.calls sP.cost sE.rest.left w₀.left (w.owes (ret x) e (λ z. absurd (true≢false z)) e')) (made_after refl) (log_after refl) (ih (ret (datum (data_in x))) _ _ sE.rest (le_trans sl lo) rel₁ (once_rest x a))
      body_ended (thr x) q e e' a = seq s φ.calls sE.made (sP.log ++ (entry (sub φ.calls s) (noting None sP.cost) ∷ []))
          (λ q m. up (uE q m).2) (with_own (sub φ.calls s) sE.made sP.log uE uP w.logs _) (with_entry (sub φ.calls s) sE.made sP.log uE uP w.logs _)
          sP.made (λ z m. w.there (rw e' tt) z m)
          sP.cost (kE (thr x) (leave (once_call b (at_call σ (suc φ.calls))) sE.st) sE.rest) (strict body sP.st.verdict sP.st (kP (thr x) (leave (once_call b (next_call φ)) sP.st)))
          (λ y z g. owe_two fu T s φ.calls sP.cost sE.rest.left w₀.left (w.owes (thr x) e (λ z. absurd (true≢false z)) e'))
          (made_after refl) (after_strict body sP.st.verdict)
          (sound_strict T body sP.st.verdict sP.st _ _ (λ t a'. ih (thr x) _ _ sE.rest (le_trans sl lo) left_rel a') (λ p n o m k. a p n o m (in_right _ _ k)))
        where
          left_rel : Rel s body (leave (at_call σ (suc φ.calls)) sE.st) (leave (next_call φ) sP.st)
          left_rel = rel_leave s body σ φ r true (λ z. absurd (true≢false z)) sE.st sP.st q (keeps_trans kept_once (wE.ends e))

          after_strict : (body' : Bool) (w : Verdict) (q : Path) (o' : Noted) → In Entry (entry q o') (strict body' w sP.st (kP (thr x) (leave (once_call b (next_call φ)) sP.st))).log → After s (suc φ.calls) q
          after_strict true w q o' z = log_after refl q o' z
          after_strict false independent q o' z = log_after refl q o' z
          after_strict false (touched_open y) q o' z = elim z [ ]
          after_strict false (once_while_open y) q o' z = elim z [ ]
          after_strict false (branch_threw y) q o' z = elim z [ ]
      body_ended (bar y) q e e' a = record {
        logs = with_entry (sub φ.calls s) sE.made sP.log uE uP w.logs _;
        there = λ c z m. absurd c;
        owes = λ x z g d. owe_one fu T s φ.calls sP.cost sE.rest.left w₀.left (w.owes (bar y) e (λ z. absurd (true≢false z)) e');
        ends = λ x z g. subst (λ x. SameEnd s body x sE (record { out = Some (bar y); st = sP.st; log = sP.log ++ (entry (sub φ.calls s) (noting None sP.cost) ∷ []); made = sP.made; cost = sP.cost })) (ended_is (sym e ∙ z)) (inl (refl, tt));
      }

      once_there : (o : Option End) → sP.out ≡ o → Completed (strict_once o sP (sub φ.calls s) body (once_call b (next_call φ)) kP).out → (q : Rec) → In Rec q sE.made →
          In Rec q (strict_once o sP (sub φ.calls s) body (once_call b (next_call φ)) kP).made
      once_there (Some (ret x)) e c q m = in_left _ _ (in_left _ _ (w.there (rw e tt) q m))
      once_there (Some (thr x)) e c q m = in_left _ _ (w.there (rw e tt) q m)
      once_there (Some (bar y)) e c q m = absurd c
      once_there None e c q m = absurd c

      body_open : (o : Option End) → sP.out ≡ o → ((x : End) → sE.out ≡ ended x → ⊥) → Sound (Cap fu T) (Owe fu T s φ.calls w₀.left) s body sE (strict_once o sP (sub φ.calls s) body (once_call b (next_call φ)) kP)
      body_open o e h = record {
        owes = λ x z g d. absurd (h x z);
        there = λ c q m. once_there o e c q m;
        logs = wide s φ.calls sE.made (sP.log ++ (entry (sub φ.calls s) (noting (kept_data o) sP.cost) ∷ [])) (λ q m. up (uE q m).2)
            (with_own (sub φ.calls s) sE.made sP.log uE uP w.logs (noting (kept_data o) sP.cost)) (with_entry (sub φ.calls s) sE.made sP.log uE uP w.logs (noting (kept_data o) sP.cost))
            (strict_once o sP (sub φ.calls s) body (once_call b (next_call φ)) kP).log (once_log o);
        ends = λ x z g. absurd (h x z);
      }

      body_lock : (oE : Out) → sE.out ≡ oE → (oP : Option End) → sP.out ≡ oP →
          Agree (Cap fu T) T (strict_once oP sP (sub φ.calls s) body (once_call b (next_call φ)) kP).log →
          Sound (Cap fu T) (Owe fu T s φ.calls w₀.left) s body (after_body oE sE (sub φ.calls s) (once_call b (at_call σ (suc φ.calls))) kE) (strict_once oP sP (sub φ.calls s) body (once_call b (next_call φ)) kP)
      body_lock (ended x) e oP eP a = choose (w.ends x e (λ z. absurd (true≢false z)))
        where
          choose : SameEnd (sub φ.calls s) true x sE sP → Sound (Cap fu T) (Owe fu T s φ.calls w₀.left) s body (after_body (ended x) sE (sub φ.calls s) (once_call b (at_call σ (suc φ.calls))) kE) (strict_once oP sP (sub φ.calls s) body (once_call b (next_call φ)) kP)
          choose (inl (h, q)) = subst (λ o. Agree (Cap fu T) T (strict_once o sP (sub φ.calls s) body (once_call b (next_call φ)) kP).log →
              Sound (Cap fu T) (Owe fu T s φ.calls w₀.left) s body (after_body (ended x) sE (sub φ.calls s) (once_call b (at_call σ (suc φ.calls))) kE) (strict_once o sP (sub φ.calls s) body (once_call b (next_call φ)) kP))
              (sym h ∙ eP) (body_ended x q e h) a
          choose (inr (h, z)) = absurd (true≢false z)
      body_lock waits e oP eP a = body_open oP eP (λ x z. not_ended' (sym e ∙ z))
      body_lock (halted y) e oP eP a = body_open oP eP (λ x z. not_ended (sym e ∙ z))

  -- The fork at the index φ.calls: sE and sP are the runs of its branch.
  module _ (nb : body ≡ false) (w₀ : Rest) (lo : w₀.left ≤ fu) (sE : Res) (sl : sE.rest.left ≤ w₀.left) (wE : Within E (sub φ.calls s) 0 (enter (at_call σ (suc φ.calls))) sE)
      (sP : Strict) (wP : PlainWithin (sub φ.calls s) (sub φ.calls s) 0 (enter (next_call φ)) sP)
      (w : Sound (Cap fu T) (Owe fu T (sub φ.calls s) 0 w₀.left) (sub φ.calls s) false sE sP) where
    vE : (q : Rec) → In Rec q sE.made → Under (sub φ.calls s) (path_of q)
    vE q m = up ((wE.made m).0).2

    vP : (q : Path) (o : Noted) → In Entry (entry q o) sP.log → Under (sub φ.calls s) q
    vP q o m = up (wP.log m).2

    fork_log : (o : Option End) (q : Path) (o' : Noted) → In Entry (entry q o') (strict_fork o sP (sub φ.calls s) (next_call φ) kP).log →
        In Entry (entry q o') sP.log ⊎ After s (suc φ.calls) q
    fork_log (Some (ret x)) q o' m = elim (in_split sP.log _ m) [ inl a ↦ inl a | inr z ↦ inr (log_after refl q o' z) ]
    fork_log (Some (thr x)) q o' m = inl m
    fork_log (Some (bar y)) q o' m = inl m
    fork_log None q o' m = inl m

    -- The right run stops with the branch.
    fork_stop : (e : Res) → ((q : Rec) → In Rec q e.made → After s (suc φ.calls) (path_of q)) → (rP : Strict) → rP.log ≡ sP.log → rP.out ≡ None →
        Sound (Cap fu T) (Owe fu T s φ.calls w₀.left) s body (add sE.made e) rP
    fork_stop e h rP l n = record {
      owes = λ x z g d. absurd (none_some (sym n ∙ d));
      there = λ c q m. absurd (subst (λ o. Completed o) n c);
      logs = λ p n' o m k. tall s φ.calls sE.made sP.log vE vP w.logs e.made h p n' o m (rw l at k);
      ends = λ x z g. inr (n, nb);
    }

    absent_lock : (oP : Option End) → sP.out ≡ oP → Agree (Cap fu T) T (strict_fork oP sP (sub φ.calls s) (next_call φ) kP).log →
        Sound (Cap fu T) (Owe fu T s φ.calls w₀.left) s body (add sE.made (kE (ret (valued Undefined)) (absent (sub φ.calls s) (at_call σ (suc φ.calls))) sE.rest)) (strict_fork oP sP (sub φ.calls s) (next_call φ) kP)
    absent_lock (Some (ret x)) e a = seq s φ.calls sE.made sP.log vE vP w.logs sP.made (λ z m. w.there (rw e tt) z m) sP.cost _ _ (λ y z g. absurd (none_gone s _ (g nb) (((wkE (ret (valued Undefined)) (absent (sub φ.calls s) (at_call σ (suc φ.calls))) sE.rest).ends z).more first) (down self))) (made_after refl) (log_after refl)
        (ih (ret (valued Undefined)) _ _ sE.rest (le_trans sl lo) (rel_absent s body σ φ r nb sP.st (wP.ends e) (value_in x)) (λ p n o m k. a p n o m (in_right _ _ k)))
    absent_lock (Some (thr x)) e a = fork_stop _ (made_after refl) (record sP { out = None }) refl refl
    absent_lock (Some (bar y)) e a = record {
      owes = λ x z g d. absurd (none_gone s _ (g nb) (((wkE (ret (valued Undefined)) (absent (sub φ.calls s) (at_call σ (suc φ.calls))) sE.rest).ends z).more first) (down self));
      there = λ c q m. absurd (subst (λ o. Completed o) e c);
      logs = λ p n o m k. tall s φ.calls sE.made sP.log vE vP w.logs _ (made_after refl) p n o m k;
      ends = λ x z g. absurd (none_gone s _ (g nb) (((wkE (ret (valued Undefined)) (absent (sub φ.calls s) (at_call σ (suc φ.calls))) sE.rest).ends z).more first) (down self));
    }
    absent_lock None e a = fork_stop _ (made_after refl) sP refl e

    joined_ended : (x : End) → EndRel (sub φ.calls s) false x sE.st sP.st → sE.out ≡ ended x → sP.out ≡ Some x → any_gone (sub φ.calls s) sE.st.gone ≡ false →
        Agree (Cap fu T) T (strict_fork (Some x) sP (sub φ.calls s) (next_call φ) kP).log →
        Sound (Cap fu T) (Owe fu T s φ.calls w₀.left) s body (after_branch false (ended x) sE (sub φ.calls s) (at_call σ (suc φ.calls)) kE) (strict_fork (Some x) sP (sub φ.calls s) (next_call φ) kP)
    joined_ended (ret x) q e e' g a = seq s φ.calls sE.made sP.log vE vP w.logs sP.made (λ z m. w.there (rw e' tt) z m) sP.cost _ _ (λ y z h. owe_two fu T s φ.calls sP.cost sE.rest.left w₀.left (w.owes (ret x) e (λ z. g) e')) (made_after refl) (log_after refl)
        (ih (ret (valued Undefined)) _ _ sE.rest (le_trans sl lo) (rel_joined s body σ φ r false (λ z. nb) sE.st sP.st q (wE.ends e) (value_in x) g) (λ p n o m k. a p n o m (in_right _ _ k)))
    joined_ended (thr x) q e e' g a = fork_stop _ (made_after refl) (record sP { out = None }) refl refl
    joined_ended (bar y) q e e' g a = record {
      owes = λ x z h d. owe_one fu T s φ.calls sP.cost sE.rest.left w₀.left (w.owes (bar y) e (λ z. g) e');
      there = λ c q m. absurd (subst (λ o. Completed o) e' c);
      logs = w.logs;
      ends = λ x z h. subst (λ x. SameEnd s body x sE sP) (ended_is (sym e ∙ z)) (inl (e', tt));
    }

    joined_stop : (x : End) → sP.out ≡ None → Sound (Cap fu T) (Owe fu T s φ.calls w₀.left) s body (after_branch false (ended x) sE (sub φ.calls s) (at_call σ (suc φ.calls)) kE) sP
    joined_stop (ret x) e = fork_stop _ (made_after refl) sP refl e
    joined_stop (thr x) e = fork_stop _ (made_after refl) sP refl e
    joined_stop (bar y) e = record { owes = λ x z h d. absurd (none_some (sym e ∙ d)); there = λ c q m. absurd (subst (λ o. Completed o) e c); logs = w.logs; ends = λ x z h. inr (e, nb) }

    fork_there : (o : Option End) → sP.out ≡ o → Completed (strict_fork o sP (sub φ.calls s) (next_call φ) kP).out → (q : Rec) → In Rec q sE.made →
        In Rec q (strict_fork o sP (sub φ.calls s) (next_call φ) kP).made
    fork_there (Some (ret x)) e c q m = in_left _ _ (w.there (rw e tt) q m)
    fork_there (Some (thr x)) e c q m = absurd c
    fork_there (Some (bar y)) e c q m = absurd (subst (λ o. Completed o) e c)
    fork_there None e c q m = absurd (subst (λ o. Completed o) e c)

    branch_halt : (o : Option End) → sP.out ≡ o → ((x : End) → sE.out ≡ ended x → ⊥) → Sound (Cap fu T) (Owe fu T s φ.calls w₀.left) s body sE (strict_fork o sP (sub φ.calls s) (next_call φ) kP)
    branch_halt o e h = record {
      owes = λ x z g d. absurd (h x z);
      there = λ c q m. fork_there o e c q m;
      logs = wide s φ.calls sE.made sP.log vE vP w.logs (strict_fork o sP (sub φ.calls s) (next_call φ) kP).log (fork_log o);
      ends = λ x z g. absurd (h x z);
    }

    fork_lock : (g : Bool) → any_gone (sub φ.calls s) sE.st.gone ≡ g → (oE : Out) → sE.out ≡ oE → (oP : Option End) → sP.out ≡ oP →
        Agree (Cap fu T) T (strict_fork oP sP (sub φ.calls s) (next_call φ) kP).log →
        Sound (Cap fu T) (Owe fu T s φ.calls w₀.left) s body (after_branch g oE sE (sub φ.calls s) (at_call σ (suc φ.calls)) kE) (strict_fork oP sP (sub φ.calls s) (next_call φ) kP)
    fork_lock false eg (ended x) e oP eP a = choose (w.ends x e (λ z. eg))
      where
        choose : SameEnd (sub φ.calls s) false x sE sP → Sound (Cap fu T) (Owe fu T s φ.calls w₀.left) s body (after_branch false (ended x) sE (sub φ.calls s) (at_call σ (suc φ.calls)) kE) (strict_fork oP sP (sub φ.calls s) (next_call φ) kP)
        choose (inl (h, q)) = subst (λ o. Agree (Cap fu T) T (strict_fork o sP (sub φ.calls s) (next_call φ) kP).log →
            Sound (Cap fu T) (Owe fu T s φ.calls w₀.left) s body (after_branch false (ended x) sE (sub φ.calls s) (at_call σ (suc φ.calls)) kE) (strict_fork o sP (sub φ.calls s) (next_call φ) kP))
            (sym h ∙ eP) (joined_ended x q e h eg) a
        choose (inr (h, z)) = subst (λ o. Sound (Cap fu T) (Owe fu T s φ.calls w₀.left) s body (after_branch false (ended x) sE (sub φ.calls s) (at_call σ (suc φ.calls)) kE) (strict_fork o sP (sub φ.calls s) (next_call φ) kP))
            (sym h ∙ eP) (joined_stop x h)
    fork_lock true eg (ended x) e oP eP a = absent_lock oP eP a
    fork_lock false eg waits e oP eP a = absent_lock oP eP a
    fork_lock true eg waits e oP eP a = absent_lock oP eP a
    fork_lock false eg (halted y) e oP eP a = branch_halt oP eP (λ x z. not_ended (sym e ∙ z))
    fork_lock true eg (halted y) e oP eP a = branch_halt oP eP (λ x z. not_ended (sym e ∙ z))

pub fork_has : (sP : Strict) (p : Path) (φ₁ : St) (kP : End → St → Strict) (o : Option End) {x : Entry} → In Entry x sP.log → In Entry x (strict_fork o sP p φ₁ kP).log
fork_has sP p φ₁ kP (Some (ret x)) m = in_left _ _ m
fork_has sP p φ₁ kP (Some (thr x)) m = m
fork_has sP p φ₁ kP (Some (bar y)) m = m
fork_has sP p φ₁ kP None m = m

-- The record that find finds stands in the list, at the path.
pub found_at : {p : Path} (l : List Rec) {c : Rec} → find p l ≡ Some c → In Rec c l × (path_of c ≡ p)
found_at [] e = absurd (none_some e)
found_at {p} (d ∷ l) {c} e = inner (path_eq (path_of d) p) e (λ e'. found_at l e')
  where
    inner : (x : Dec (path_of d ≡ p)) → pick x (Some d) (find p l) ≡ Some c → (find p l ≡ Some c → In Rec c l × (path_of c ≡ p)) → In Rec c (d ∷ l) × (path_of c ≡ p)
    inner (yes x) e h = subst (λ z. In Rec z (d ∷ l) × (path_of z ≡ p)) (some_is e) (first, x)
    inner (no x) e h = let k = h e in (later k.0, k.1)

pub end_rel : {s : Path} {body : Bool} {σ φ : St} (e : End) → Rel s body σ φ → EndRel s body e σ φ
end_rel (ret v) r = r
end_rel (thr v) r = r
end_rel (bar w) r = tt

rel_verdict : (v w : Verdict) {s : Path} {body : Bool} {σ φ : St} → Rel s body σ φ → Rel s body (record σ { verdict = v }) (record φ { verdict = w })
rel_verdict v w r = record {
  calls = r.calls;
  cells = r.cells;
  vals = r.vals;
  none = r.none;
  known = r.known;
  lost = r.lost;
  val = λ x o. r.val x o;
  fresh = r.fresh;
  apart = r.apart;
  old = r.old;
}

-- What the trace tells, the final world answers; and so does what this run's world answers.
abbrev pub ToldBy : List Rec → World → World → Type 0
ToldBy T E' E = (p : Path) (x : Record) → In Rec (rec p x) T → (q : Question) (a : AnsOf q) → kept_answer q E'.session p x ≡ Some a → said (fresh q E 0 p) ≡ Some a

abbrev pub More : World → World → Type 0
More E' E = (q : Question) (k : ℕ) (p : Path) (f : Fresh q) → fresh q E' k p ≡ Some f → fresh q E 0 p ≡ Some f

pub unanswered_not : (q : Question) (x : End) → unanswered q ≡ ended x → ⊥
unanswered_not (posts t) x e = not_ended' e
unanswered_not (replies t) x e = not_ended' e
unanswered_not (draws m) x e = not_ended e

abbrev pub LockK : {A : Type 0} → ℕ → List Rec → Path → Bool → (A → St → Rest → Res) → (A → St → Strict) → Type 0
LockK {A} fu T s body kE kP = (a : A) (τ τ' : St) (w : Rest) → w.left ≤ fu → Rel s body τ τ' → Agree (Cap fu T) T (kP a τ').log → Sound (Cap fu T) (Owe fu T s τ'.calls w.left) s body (kE a τ w) (kP a τ')

sound_less : {C : Path → ℕ} {B B' : ℕ} {s : Path} {body : Bool} {e : Res} {r : Strict} → B ≤ B' → Sound C B s body e r → Sound C B' s body e r
sound_less h w = record { logs = w.logs; there = w.there; owes = λ x z g d. le_trans (w.owes x z g d) h; ends = w.ends }

-- A step is paid first.
sound_pay : {C : Path → ℕ} {B B' : ℕ} {s : Path} {body : Bool} {e : Res} {r : Strict} (n : ℕ) → n + B ≤ B' → Sound C B s body e r → Sound C B' s body e (note [] [] n r)
sound_pay n h w = record { logs = w.logs; there = w.there; owes = λ x z g d. let a = w.owes x z g d in omega (arith, a, h); ends = w.ends }

module _ {A : Type 0} (fu : ℕ) (T : List Rec) (s b : Path) (body : Bool) (σ φ : St) (f : Rest) (m n : ℕ) (lo : f.left ≤ fu) (kE : A → St → Rest → Res) (kP : A → St → Strict) where
  act_lock : (X X' : Act A) → ActRel s body X X' → CostRel body X X' m n → ActFramed s b φ X' → LockK fu T s body kE kP →
      Agree (Cap fu T) T (strict_act X' n body φ kP).log → Sound (Cap fu T) (Owe fu T s φ.calls (m + f.left)) s body (on_act X σ f kE) (strict_act X' n body φ kP)
  act_lock (gives a τ) (gives a' τ') q hc hf ih ag = sound_strict T body τ'.verdict τ' _ _ (λ t ag'. inner (q t) (hc t) ag') ag
    where
      cheap : m ≡ n → τ'.calls ≡ φ.calls → n + Owe fu T s τ'.calls f.left ≤ Owe fu T s φ.calls (m + f.left)
      cheap z c = rw (z, c) (omega arith)

      inner : (a ≡ a') × Rel s body τ τ' → m ≡ n → Agree (Cap fu T) T (kP a' τ').log → Sound (Cap fu T) (Owe fu T s φ.calls (m + f.left)) s body (kE a τ f) (note [] [] n (kP a' τ'))
      inner (e, r) z ag' = sound_pay n (cheap z hf.1) (subst (λ z. Agree (Cap fu T) T (kP z τ').log → Sound (Cap fu T) (Owe fu T s τ'.calls f.left) s body (kE a τ f) (kP z τ')) e (ih a τ τ' f lo r) ag')
  act_lock (gives a τ) (refused w) q hc hf ih ag = absurd q
  act_lock (gives a τ) (waiting x) q hc hf ih ag = absurd q
  act_lock (gives a τ) stuck q hc hf ih ag = absurd q
  act_lock (refused w) (gives a τ) q hc hf ih ag = absurd q
  act_lock (refused w) (refused w') q hc hf ih ag = sound_bar w σ f (ap (λ z. Some (bar z)) (sym q)) (omega arith)
  act_lock (refused w) (waiting x) q hc hf ih ag = absurd q
  act_lock (refused w) stuck q hc hf ih ag = absurd q
  act_lock (waiting x) X' q hc hf ih ag = sound_halt waits σ _ (λ x z. not_ended' z)
  act_lock stuck X' q hc hf ih ag = sound_halt (halted missing) σ f (λ x z. not_ended z)

-- ---- asks

what_of : Rec → Record
what_of (rec p x) = x

AskKind : Record → Type 0
AskKind (kept.Post t) = Unit {0}
AskKind (kept.Reply t x) = Unit {0}
AskKind (kept.Draw m n) = Unit {0}
AskKind (kept.Once d) = ⊥

AskMade : {q : Question} → Option (Fresh q) → Type 0
AskMade (Some f) = AskKind f.what
AskMade None = Unit {0}

ask_made : (q : Question) (E : World) (k : ℕ) (p : Path) → AskMade (fresh q E k p)
unfolding fresh AskKind AskMade
ask_made (posts t) E k p = tt
ask_made (replies t) E k p = inner (answer E.pairs t)
  where
    inner : (o : Option Units) → AskMade (fresh_reply t o)
    inner (Some x) = tt
    inner None = tt
ask_made (draws m) E k p = inner (draw_of E.dice k p m)
  where
    inner : (o : Option ℤ) → AskMade (fresh_draw m o)
    inner (Some x) = tt
    inner None = tt

pub not_kept : (q : Question) (f : Fresh q) (E : World) (k : ℕ) (p : Path) → fresh q E k p ≡ Some f → {d : Data} → kept.Once d ≡ f.what → ⊥
unfolding AskKind AskMade
not_kept q f E k p e {d} z = subst AskKind (sym z) (subst (λ o. AskMade o) e (ask_made q E k p))

in_cons : {A : Type 0} {x y : A} {l : List A} → In A x (y ∷ l) → (x ≡ y) ⊎ In A x l
in_cons first = inl refl
in_cons (later h) = inr h

sound_skip : {C : Path → ℕ} {B : ℕ} (q : Question) (f : Fresh q) (E : World) (k : ℕ) (r : Path) → fresh q E k r ≡ Some f → (p : Path) {s : Path} {body : Bool} {e : Res} {y : Strict} → Sound C B s body e y → Sound C B s body (add (rec p f.what ∷ []) e) (note [] (rec p f.what ∷ []) 0 y)
unfolding what_of
sound_skip {C} q f E k r z p {s} {body} {e} {y} w = record { logs = λ p' n o m h. skip p' n o (in_cons m) h; there = λ c x m. both x c (in_cons m); owes = λ x z g d. let a = w.owes x z g d in omega (arith, a); ends = w.ends }
  where
    both : (x : Rec) → Completed y.out → (x ≡ rec p f.what) ⊎ In Rec x e.made → In Rec x (rec p f.what ∷ y.made)
    both x c (inl d) = rw d first
    both x c (inr m) = later (w.there c x m)

    skip : (p' : Path) (n : Data) (o : Noted) → (rec p' (kept.Once n) ≡ rec p f.what) ⊎ In Rec (rec p' (kept.Once n)) e.made → In Entry (entry p' o) y.log → (o.kept ≡ Some n) × (o.cost ≤ C p')
    skip p' n o (inl d) h = absurd (not_kept q f E k r z (ap what_of d))
    skip p' n o (inr m) h = w.logs p' n o m h

more_made : {C : Path → ℕ} {B : ℕ} (x : Rec) {s : Path} {body : Bool} {e : Res} {y : Strict} → Sound C B s body e y → Sound C B s body e (note [] (x ∷ []) 0 y)
more_made x w = record { logs = w.logs; there = λ c z m. later (w.there c z m); owes = λ x z g d. let a = w.owes x z g d in omega (arith, a); ends = w.ends }

module _ (fu B : ℕ) (T : List Rec) (E' E : World) (told : ToldBy T E' E) (more : More E' E) (s : Path) (body : Bool) (φ : St) (q : Question) (p : Path) (w₀ : Rest)
    (kE : AnsOf q → Rest → Res) (kP : AnsOf q → Strict) (ih : (a : AnsOf q) (w : Rest) → w.left ≤ w₀.left → Agree (Cap fu T) T (kP a).log → Sound (Cap fu T) B s body (kE a w) (kP a)) where
  answered : (a : AnsOf q) (w : Rest) → w.left ≤ w₀.left → (n : Option (Fresh q)) → said n ≡ Some a → Agree (Cap fu T) T (strict_ask n p φ kP).log → Sound (Cap fu T) B s body (kE a w) (strict_ask n p φ kP)
  answered a w l (Some f) e ag = subst (λ z. Sound (Cap fu T) B s body (kE z w) (note [] (rec p f.what ∷ []) 0 (kP f.answer))) (some_is e) (more_made (rec p f.what) (ih f.answer w l ag))
  answered a w l None e ag = absurd (none_some e)

  ask_lock : (τ : St) (c : Option Rec) → find p T ≡ c → (t : Bool) (n : Option (Fresh q)) → fresh q E' w₀.drawn p ≡ n →
      Agree (Cap fu T) T (strict_ask (fresh q E 0 p) p φ kP).log → Sound (Cap fu T) B s body (on_ask q c t n E' p τ w₀ kE) (strict_ask (fresh q E 0 p) p φ kP)
  ask_lock τ (Some (rec r x)) ec t n en a = choose (kept_answer q E'.session p x) refl _
    where
      choose : (o : Option (AnsOf q)) → kept_answer q E'.session p x ≡ o → (d : Divergence) → Sound (Cap fu T) B s body (on_kept o d τ w₀ kE) (strict_ask (fresh q E 0 p) p φ kP)
      choose (Some y) e d = answered y w₀ (le_refl _) (fresh q E 0 p) (told p x (subst (λ z. In Rec (rec z x) T) (found_at T ec).1 (found_at T ec).0) q y e) a
      choose None e d = sound_halt (halted (diverged d)) τ w₀ (λ x z. not_ended z)
  ask_lock τ None ec true n en a = sound_halt _ τ w₀ (λ x z. not_ended z)
  ask_lock τ None ec false (Some f) en a = made_here (fresh q E 0 p) (more q w₀.drawn p f en) a
    where
      made_here : (o : Option (Fresh q)) → o ≡ Some f → Agree (Cap fu T) T (strict_ask o p φ kP).log → Sound (Cap fu T) B s body (add (rec p f.what ∷ []) (kE f.answer (drew q w₀))) (strict_ask o p φ kP)
      made_here o z ag = subst (λ o. Agree (Cap fu T) T (strict_ask o p φ kP).log → Sound (Cap fu T) B s body (add (rec p f.what ∷ []) (kE f.answer (drew q w₀))) (strict_ask o p φ kP)) (sym z) (λ ag'. sound_skip q f E' w₀.drawn p en p (ih f.answer (drew q w₀) (drew_left q w₀) ag')) ag
  ask_lock τ None ec false None en a = sound_halt (unanswered q) τ _ (unanswered_not q)

module _ (fu : ℕ) (T : List Rec) (E' E : World) (told : ToldBy T E' E) (more : More E' E) where
  pub steps_lock : {A : Type 0} (g : Small A) (s b : Path) (body : Bool) (kE : A → St → Rest → Res) (kP : A → St → Strict) → LockK fu T s body kE kP → Under b s →
      (σ φ : St) (w : Rest) → w.left ≤ fu → Rel s body σ φ → Agree (Cap fu T) T (plain_steps g E s b body kP φ).log → Sound (Cap fu T) (Owe fu T s φ.calls w.left) s body (run_steps g E' T s b body kE σ w) (plain_steps g E s b body kP φ)
  unfolding run_steps plain_steps
  steps_lock (give a) s b body kE kP ih v σ φ w lo r ag = ih a σ φ w lo r ag
  steps_lock (refuse why) s b body kE kP ih v σ φ w lo r ag = sound_bar why σ w refl (omega arith)
  steps_lock lost s b body kE kP ih v σ φ w lo r ag = sound_halt (halted missing) σ w (λ x z. not_ended z)
  steps_lock (step o go) s b body kE kP ih v σ φ w lo r ag = paid (nat_lt w.left (op_cost o σ)) refl (act_rel v r o) (cost_rel v r o) (act_framed o s b body φ v)
      (λ a τ τ' w' l q ag'. steps_lock (go a) s b body kE kP ih v τ τ' w' l q ag')
    where
      whole : nat_lt w.left (op_cost o σ) ≡ false → op_cost o σ + (w.left - op_cost o σ) ≡ w.left
      whole e = let h = ltb-false w.left (op_cost o σ) e in omega (arith, h)

      paid : (t : Bool) → nat_lt w.left (op_cost o σ) ≡ t → ActRel s body (act o s b body σ) (act o s b body φ) → CostRel body (act o s b body σ) (act o s b body φ) (op_cost o σ) (op_cost o φ) → ActFramed s b φ (act o s b body φ) →
          ((a : AnswerTo o) (τ τ' : St) (w' : Rest) → w'.left ≤ fu → Rel s body τ τ' → Agree (Cap fu T) T (plain_steps (go a) E s b body kP τ').log → Sound (Cap fu T) (Owe fu T s τ'.calls w'.left) s body (run_steps (go a) E' T s b body kE τ w') (plain_steps (go a) E s b body kP τ')) →
          Sound (Cap fu T) (Owe fu T s φ.calls w.left) s body (pay_if t (op_cost o σ) σ w (λ w'. on_act (act o s b body σ) σ w' (λ a τ w''. run_steps (go a) E' T s b body kE τ w'')))
          (strict_act (act o s b body φ) (op_cost o φ) body φ (λ a τ. plain_steps (go a) E s b body kP τ))
      paid true e q hc hf h = sound_halt (halted spent) σ w (λ x z. not_ended z)
      paid false e q hc hf h = subst (λ f. Sound (Cap fu T) (Owe fu T s φ.calls f) s body (on_act (act o s b body σ) σ (record w { left = w.left - op_cost o σ }) (λ a τ w''. run_steps (go a) E' T s b body kE τ w''))
          (strict_act (act o s b body φ) (op_cost o φ) body φ (λ a τ. plain_steps (go a) E s b body kP τ))) (whole e)
          (act_lock fu T s b body σ φ (record w { left = w.left - op_cost o σ }) (op_cost o σ) (op_cost o φ) (le_trans (minus_le w.left (op_cost o σ)) lo) _ _ (act o s b body σ) (act o s b body φ) q hc hf h ag)
  steps_lock (ask q go) s b body kE kP ih v σ φ w lo r ag = rw r.calls (ask_lock fu (Owe fu T s φ.calls w.left) T E' E told more s body φ q (sub φ.calls s) w
      (λ a w'. run_steps (go a) E' T s b body kE (at_call σ (suc φ.calls)) w') (λ a. plain_steps (go a) E s b body kP (next_call φ))
      (λ a w' l ag'. sound_less (owed w' l) (steps_lock (go a) s b body kE kP ih v (at_call σ (suc φ.calls)) (next_call φ) w' (le_trans l lo) (rel_next r) ag'))
      (at_call σ (suc φ.calls)) (find (sub φ.calls s) T) refl (below (sub φ.calls s) T) (fresh q E' w.drawn (sub φ.calls s)) refl ag)
    where
      owed : (w' : Rest) → w'.left ≤ w.left → Owe fu T s (suc φ.calls) w'.left ≤ Owe fu T s φ.calls w.left
      owed w' l = let a = owe_step fu T s φ.calls w.left in omega (arith, a, l)

  done_lock : {s : Path} {body : Bool} {σ φ : St} (e : End) (w : Rest) → Rel s body σ φ → Sound (Cap fu T) (Owe fu T s φ.calls w.left) s body (res (ended e) σ w) (plain_end (Some e) φ)
  done_lock {s} {body} {σ} {φ} e w r = record {
    there = λ c q m. elim m [ ];
    owes = λ x z g d. omega arith;
    logs = λ p n o m k. elim m [ ];
    ends = λ x z g. subst (λ x. SameEnd s body x (res (ended e) σ w) (plain_end (Some e) φ)) (ended_is z) (inl (refl, end_rel e r));
  }

  pub branch_end_lock : (s : Path) (body : Bool) → LockK fu T s body branch_end strict_branch_end
  branch_end_lock s body (Normal v) τ τ' w lo r ag = done_lock _ w r
  branch_end_lock s body Break τ τ' w lo r ag = done_lock _ w r
  branch_end_lock s body Continue τ τ' w lo r ag = done_lock _ w r
  branch_end_lock s body (Return v) τ τ' w lo r ag = done_lock _ w r
  branch_end_lock s body (Throw v) τ τ' w lo r ag = done_lock _ w r

  body_end_lock : (s b : Path) → Under b s → LockK fu T s true (body_end E' T s b) (strict_body_end E s b)
  body_end_lock s b u (Normal v) τ τ' w lo r ag = steps_lock (taking v) s b true _ _ (λ d τ τ' w lo r a. done_lock _ w r) u τ τ' w lo r ag
  body_end_lock s b u Break τ τ' w lo r ag = steps_lock (taking Undefined) s b true _ _ (λ d τ τ' w lo r a. done_lock _ w r) u τ τ' w lo r ag
  body_end_lock s b u Continue τ τ' w lo r ag = steps_lock (taking Undefined) s b true _ _ (λ d τ τ' w lo r a. done_lock _ w r) u τ τ' w lo r ag
  body_end_lock s b u (Return v) τ τ' w lo r ag = steps_lock (taking v) s b true _ _ (λ d τ τ' w lo r a. done_lock _ w r) u τ τ' w lo r ag
  body_end_lock s b u (Throw v) τ τ' w lo r ag = done_lock _ w r

  once_goes_lock : (s b : Path) (body : Bool) (kE : Outcome → St → Rest → Res) (kP : Outcome → St → Strict) → LockK fu T s body kE kP → Under b s →
      LockK fu T s body (once_goes E' T s b body kE) (strict_once_goes E s b body kP)
  once_goes_lock s b body kE kP ih u (ret x) τ τ' w lo r ag = steps_lock (put_data (data_in x)) s b body _ _ (λ v τ τ' w lo r a. ih (Normal v) τ τ' w lo r a) u τ τ' w lo r ag
  once_goes_lock s b body kE kP ih u (thr v) τ τ' w lo r ag = ih (Throw v) τ τ' w lo r ag
  once_goes_lock s b body kE kP ih u (bar why) τ τ' w lo r ag = done_lock _ w r

  fork_goes_lock : (s : Path) (body : Bool) (kE : Outcome → St → Rest → Res) (kP : Outcome → St → Strict) → LockK fu T s body kE kP → LockK fu T s body (fork_goes kE) (strict_fork_goes kP)
  fork_goes_lock s body kE kP ih (ret x) τ τ' w lo r ag = ih (Normal Undefined) τ τ' w lo r ag
  fork_goes_lock s body kE kP ih (thr v) τ τ' w lo r ag = ih (Throw v) τ τ' w lo r ag
  fork_goes_lock s body kE kP ih (bar why) τ τ' w lo r ag = done_lock _ w r

  normal_lock : (s : Path) (body : Bool) (gE : Val → St → Rest → Res) (gP : Val → St → Strict) (kE : Outcome → St → Rest → Res) (kP : Outcome → St → Strict) →
      LockK fu T s body gE gP → LockK fu T s body kE kP → LockK fu T s body (on_normal gE kE) (strict_normal gP kP)
  normal_lock s body gE gP kE kP hg hk (Normal v) τ τ' w lo r ag = hg v τ τ' w lo r ag
  normal_lock s body gE gP kE kP hg hk Break τ τ' w lo r ag = hk Break τ τ' w lo r ag
  normal_lock s body gE gP kE kP hg hk Continue τ τ' w lo r ag = hk Continue τ τ' w lo r ag
  normal_lock s body gE gP kE kP hg hk (Return v) τ τ' w lo r ag = hk (Return v) τ τ' w lo r ag
  normal_lock s body gE gP kE kP hg hk (Throw v) τ τ' w lo r ag = hk (Throw v) τ τ' w lo r ag

  -- What comes after a program, on both sides.
  pub record Conts (s b : Path) (body : Bool) (kE : Outcome → St → Rest → Res) (kP : Outcome → St → Strict) : Type 0 where
    pub left : WithinK E' s kE
    pub falls : FallsK kE
    pub right : PlainK s b kP
    pub both : LockK fu T s body kE kP

  abbrev Locks : Path → Path → Bool → ((Outcome → St → Rest → Res) → St → Rest → Res) → ((Outcome → St → Strict) → St → Strict) → Type 0
  Locks s b body gE gP = (kE : Outcome → St → Rest → Res) (kP : Outcome → St → Strict) → Conts s b body kE kP →
      (σ φ : St) (w : Rest) → w.left ≤ fu → Rel s body σ φ → Agree (Cap fu T) T (gP kP φ).log → Sound (Cap fu T) (Owe fu T s φ.calls w.left) s body (gE kE σ w) (gP kP φ)

  normal_conts : {s b : Path} {body : Bool} (gE : Val → St → Rest → Res) (gP : Val → St → Strict) {kE : Outcome → St → Rest → Res} {kP : Outcome → St → Strict} →
      WithinK E' s gE → FallsK gE → PlainK s b gP → LockK fu T s body gE gP → Conts s b body kE kP → Conts s b body (on_normal gE kE) (strict_normal gP kP)
  normal_conts {s} {b} {body} gE gP {kE} {kP} wg fg pg lg c = record {
    left = normal_within E' s gE kE wg c.left;
    falls = normal_left gE kE fg c.falls;
    right = p_normal s b gP kP pg c.right;
    both = normal_lock s body gE gP kE kP lg c.both;
  }

  module _ (s b : Path) (body : Bool) (gE : (Outcome → St → Rest → Res) → St → Rest → Res) (gP : (Outcome → St → Strict) → St → Strict)
      (hE : (k : Outcome → St → Rest → Res) → WithinK E' s k → (σ : St) (w : Rest) → Within E' s σ.calls σ (gE k σ w))
      (hF : (k : Outcome → St → Rest → Res) → FallsK k → (σ : St) (w : Rest) → (gE k σ w).rest.left ≤ w.left)
      (hP : (k : Outcome → St → Strict) → PlainK s b k → (φ : St) → PlainWithin s b φ.calls φ (gP k φ))
      (hL : Locks s b body gE gP) where
    turns_lock : (N : ℕ) → Locks s b body (turns N gE) (strict_turns N gP)
    unfolding turns strict_turns
    turns_lock zero kE kP c σ φ w lo r ag = sound_halt (halted spent) σ w (λ x z. not_ended z)
    turns_lock (suc n) kE kP c σ φ w lo r ag = hL _ _
        (normal_conts (λ v τ w'. turns n gE kE τ w') (λ v τ. strict_turns n gP kP τ) (λ v τ w'. turns_within E' s n gE hE kE c.left τ w') (λ v τ w'. turns_left gE hF n kE c.falls τ w') (λ v τ. p_turns s b n gP hP kP c.right τ)
        (λ v τ τ' w' l q ag'. turns_lock n kE kP c τ τ' w' l q ag') c) σ φ w lo r ag

  -- A once call whose body is run by gE and gP, and what comes after it.
  module _ (s b : Path) (body : Bool) (kE : Outcome → St → Rest → Res) (kP : Outcome → St → Strict) (c : Conts s b body kE kP) (v : Under b s) (σ φ : St) (w : Rest) (lo : w.left ≤ fu) (r : Rel s body σ φ) where
    module _ (sE : Res) (sl : sE.rest.left ≤ w.left) (wE : Within E' (sub φ.calls s) 0 (enter (once_call b (at_call σ (suc φ.calls)))) sE)
        (sP : Strict) (wP : PlainWithin (sub φ.calls s) b 0 (enter (once_call b (next_call φ))) sP)
        (ih : Rel (sub φ.calls s) true (enter (once_call b (at_call σ (suc φ.calls)))) (enter (once_call b (next_call φ))) → Agree (Cap fu T) T sP.log → Sound (Cap fu T) (Owe fu T (sub φ.calls s) 0 w.left) (sub φ.calls s) true sE sP) where
      once_lock : (body ≡ false → (once_call b (next_call φ)).verdict ≡ independent) →
          Agree (Cap fu T) T (strict_once sP.out sP (sub φ.calls s) body (once_call b (next_call φ)) (strict_once_goes E s b body kP)).log →
          (o : Option Rec) → find (sub φ.calls s) T ≡ o →
          Sound (Cap fu T) (Owe fu T s φ.calls w.left) s body (on_once o (once_call b (at_call σ (suc φ.calls))) w (once_goes E' T s b body kE) sE (sub φ.calls s))
          (strict_once sP.out sP (sub φ.calls s) body (once_call b (next_call φ)) (strict_once_goes E s b body kP))
      once_lock t a (Some (rec q (kept.Once d))) ec = recorded fu E' T s b body σ φ v r _ (once_goes_within E' T s b body kE c.left) _ (p_once_goes E s b body kP c.right v) (once_goes_lock s b body kE kP c.both v) w lo sE sl wE sP wP
          d (subst (λ z. In Rec (rec z (kept.Once d)) T) (found_at T ec).1 (found_at T ec).0) said_so.1 sP.out said_so.0 a
        where
          said_so : (kept_data sP.out ≡ Some d) × (sP.cost ≤ Cap fu T (sub φ.calls s))
          said_so = (a (sub φ.calls s) d _ (subst (λ z. In Rec (rec z (kept.Once d)) T) (found_at T ec).1 (found_at T ec).0)
              (once_has fu E' T s b body σ φ v r _ (once_goes_within E' T s b body kE c.left) _ (p_once_goes E s b body kP c.right v) (once_goes_lock s b body kE kP c.both v) w lo sE sl wE sP wP sP.out (in_right sP.log _ first)))
      once_lock t a (Some (rec q (kept.Post x))) ec = sound_halt _ _ w (λ x z. not_ended z)
      once_lock t a (Some (rec q (kept.Reply x y))) ec = sound_halt _ _ w (λ x z. not_ended z)
      once_lock t a (Some (rec q (kept.Draw m n))) ec = sound_halt _ _ w (λ x z. not_ended z)
      once_lock t a None ec = body_lock fu E' T s b body σ φ v r _ (once_goes_within E' T s b body kE c.left) _ (p_once_goes E s b body kP c.right v) (once_goes_lock s b body kE kP c.both v) w lo sE sl wE sP wP
          (ih (rel_verdict _ _ (rel_enter true r (all_settled v r (λ z. once_pass b φ (t z)))))
          (λ p n o m k. a p n o m (once_has fu E' T s b body σ φ v r _ (once_goes_within E' T s b body kE c.left) _ (p_once_goes E s b body kP c.right v) (once_goes_lock s b body kE kP c.both v) w lo sE sl wE sP wP sP.out (in_left _ _ k))))
          _ refl _ refl a

    module _ (nb : body ≡ false) (sE : Res) (sl : sE.rest.left ≤ w.left) (wE : Within E' (sub φ.calls s) 0 (enter (at_call σ (suc φ.calls))) sE)
        (sP : Strict) (wP : PlainWithin (sub φ.calls s) (sub φ.calls s) 0 (enter (next_call φ)) sP)
        (ih : Agree (Cap fu T) T sP.log → Sound (Cap fu T) (Owe fu T (sub φ.calls s) 0 w.left) (sub φ.calls s) false sE sP) where
      branch_lock : (o : Option Rec) → Agree (Cap fu T) T (strict_fork sP.out sP (sub φ.calls s) (next_call φ) (strict_fork_goes kP)).log →
          Sound (Cap fu T) (Owe fu T s φ.calls w.left) s body (on_fork o (at_call σ (suc φ.calls)) w (fork_goes kE) sE (sub φ.calls s)) (strict_fork sP.out sP (sub φ.calls s) (next_call φ) (strict_fork_goes kP))
      branch_lock (Some (rec q x)) a = sound_halt _ _ w (λ x z. not_ended z)
      branch_lock None a = fork_lock fu E' T s b body σ φ v r _ (fork_goes_within E' s kE c.left) _ (p_fork_goes s b kP c.right) (fork_goes_lock s body kE kP c.both) nb w lo sE sl wE sP wP
          (ih (λ p n o m k. a p n o m (fork_has _ _ _ _ _ k))) _ refl _ refl _ refl a

  pub lock : (N : ℕ) (g : Prog) (s b : Path) (body : Bool) (kE : Outcome → St → Rest → Res) (kP : Outcome → St → Strict) → Conts s b body kE kP → Under b s →
      (σ φ : St) (w : Rest) → w.left ≤ fu → Rel s body σ φ → Agree (Cap fu T) T (plain g E N s b body kP φ).log → Sound (Cap fu T) (Owe fu T s φ.calls w.left) s body (run g E' T N s b body kE σ w) (plain g E N s b body kP φ)
  unfolding run plain
  lock N (Done o) s b body kE kP c v σ φ w lo r ag = c.both o σ φ w lo r ag
  lock N (Ask p go) s b body kE kP c v σ φ w lo r ag = steps_lock (steps_of p) s b body _ _ (λ a τ τ' w' l q ag'. lock N (go a) s b body kE kP c v τ τ' w' l q ag') v σ φ w lo r ag
  lock N (Then g go) s b body kE kP c v σ φ w lo r ag = lock N g s b body _ _
      (normal_conts (λ x τ w'. run (go x) E' T N s b body kE τ w') (λ x τ. plain (go x) E N s b body kP τ)
      (λ x τ w'. run_within (go x) E' T N s b body kE c.left τ w') (λ x τ w'. run_left (go x) E' T N s b body kE c.falls τ w') (λ x τ. plain_within (go x) E N s b body kP c.right v τ)
      (λ x τ τ' w' l q ag'. lock N (go x) s b body kE kP c v τ τ' w' l q ag') c) v σ φ w lo r ag
  lock N (Always g go) s b body kE kP c v σ φ w lo r ag = lock N g s b body _ _
      (record { left = λ o τ w'. run_within (go o) E' T N s b body kE c.left τ w'; falls = λ o τ w'. run_left (go o) E' T N s b body kE c.falls τ w'; right = λ o τ. plain_within (go o) E N s b body kP c.right v τ; both = λ o τ τ' w' l q ag'. lock N (go o) s b body kE kP c v τ τ' w' l q ag' })
      v σ φ w lo r ag
  lock N (Once g) s b body kE kP c v σ φ w lo r ag = rw r.calls (sound_strict T body _ (next_call φ) _ _
      (λ t a'. once_lock s b body kE kP c v σ φ w lo r
      (run g E' T N (sub φ.calls s) b true (body_end E' T (sub φ.calls s) b) (enter (once_call b (at_call σ (suc φ.calls)))) w)
      (run_left g E' T N (sub φ.calls s) b true _ (body_end_left E' T (sub φ.calls s) b) (enter (once_call b (at_call σ (suc φ.calls)))) w)
      (run_within g E' T N (sub φ.calls s) b true _ (body_end_within E' T (sub φ.calls s) b) (enter (once_call b (at_call σ (suc φ.calls)))) w)
      (plain g E N (sub φ.calls s) b true (strict_body_end E (sub φ.calls s) b) (enter (once_call b (next_call φ))))
      (plain_within g E N (sub φ.calls s) b true _ (p_body_end E (sub φ.calls s) b (down v)) (down v) (enter (once_call b (next_call φ))))
      (λ r' a''. lock N g (sub φ.calls s) b true _ _
      (record { left = body_end_within E' T (sub φ.calls s) b; falls = body_end_left E' T (sub φ.calls s) b; right = p_body_end E (sub φ.calls s) b (down v); both = body_end_lock (sub φ.calls s) b (down v) })
      (down v) (enter (once_call b (at_call σ (suc φ.calls)))) (enter (once_call b (next_call φ))) w lo r' a'')
      t a' (find (sub φ.calls s) T) refl) ag)
  lock N (Fork g) s b true kE kP c v σ φ w lo r ag = sound_bar ForkInOnce σ w refl (omega arith)
  lock N (Fork g) s b false kE kP c v σ φ w lo r ag = rw r.calls (branch_lock s b false kE kP c v σ φ (forked w) lo r refl
      (run g E' T N (sub φ.calls s) (sub φ.calls s) false branch_end (enter (at_call σ (suc φ.calls))) (forked w))
      (run_left g E' T N (sub φ.calls s) (sub φ.calls s) false _ branch_end_left (enter (at_call σ (suc φ.calls))) (forked w))
      (run_within g E' T N (sub φ.calls s) (sub φ.calls s) false _ (branch_end_within E' (sub φ.calls s)) (enter (at_call σ (suc φ.calls))) (forked w))
      (plain g E N (sub φ.calls s) (sub φ.calls s) false strict_branch_end (enter (next_call φ)))
      (plain_within g E N (sub φ.calls s) (sub φ.calls s) false _ (p_branch_end (sub φ.calls s) (sub φ.calls s)) self (enter (next_call φ)))
      (λ a''. lock N g (sub φ.calls s) (sub φ.calls s) false _ _
      (record { left = branch_end_within E' (sub φ.calls s); falls = branch_end_left; right = p_branch_end (sub φ.calls s) (sub φ.calls s); both = branch_end_lock (sub φ.calls s) false })
      self (enter (at_call σ (suc φ.calls))) (enter (next_call φ)) (forked w) lo (rel_enter false r (λ x o. r.val x o)) a'')
      (find (sub φ.calls s) T) ag)
  lock N (Loop g) s b body kE kP c v σ φ w lo r ag = turns_lock s b body (λ k' τ w'. run g E' T N s b body k' τ w') (λ k' τ. plain g E N s b body k' τ)
      (λ k wk τ w'. run_within g E' T N s b body k wk τ w') (λ k fk τ w'. run_left g E' T N s b body k fk τ w') (λ k pk τ. plain_within g E N s b body k pk v τ)
      (λ kE' kP' c' τ τ' w' l q ag'. lock N g s b body kE' kP' c' v τ τ' w' l q ag') N kE kP c σ φ w lo r ag
