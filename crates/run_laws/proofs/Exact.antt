-- A run that ends without a reason and without an absent branch is the strict plain run, where its trace agrees with that run's log.
use Rattle.std.specs.Prelude.{List, Bool, true, false, Option, Some, None, nat_lt}
use Rattle.std.proofs.Common.{◌≡◌, ℕ, suc, zero, refl, ap, [], ◌∷◌, ◌++◌, sym, ◌∙◌, subst, true≢false}
use Rattle.turk_base.specs.declared.Record.TheVariants as kept
use Rattle.turk_base.specs.Asks.{Question, AnsOf, Rec, rec, find, below}
use Rattle.turk_base.specs.Data.{Data}
use Rattle.turk_base.specs.Names.{Path, sub, self, down, In, first}
use Rattle.turk_base.specs.Prog.{Prog, Done, Ask, Then, Always, Once, Fork, Loop}
use Rattle.turk_base.specs.State.{St, AnswerTo, op_cost, Act, gives, refused, waiting, stuck, act, any_gone, Verdict, independent, touched_open, once_while_open, branch_threw, once_call, next_call, enter, leave, give_value, cut_all, absent}
use Rattle.turk_base.specs.Steps.{Small, give, refuse, lost, step, ask, taking, put_data, steps_of}
use Rattle.turk_base.specs.Values.{Val, Undefined, Outcome, Normal, Break, Continue, Return, Throw, ForkInOnce}
use Rattle.js_tree.specs.Run.{valued, datum, value_in, data_in, End, ret, thr, bar, spent, missing, Out, ended, waits, halted, Res, res, add, pay_if, on_act, on_kept, unanswered, on_ask, run_steps, branch_end, body_end, after_body, on_once, once_goes, after_branch, on_fork, fork_goes, forked, on_normal, turns, run}
use Rattle.js_tree.specs.World.{World, Divergence, kept_answer, Fresh, fresh, Rest}
use Rattle.run_laws.proofs.Lists.{none_gone, reason_none}
use Rattle.run_laws.proofs.Lock.{fork_has, found_at, not_ended, not_ended', some_is, unanswered_not, ToldBy, More}
use Rattle.run_laws.proofs.Props.{none_some, in_left, in_right}
use Rattle.run_laws.proofs.Sound.{Agree, ended_is}
use Rattle.run_laws.proofs.Within.{Within, WithinK, within_res, said, steps_within, run_within, branch_end_within, body_end_within, once_goes_within, fork_goes_within, normal_within, turns_within}
use Rattle.run_laws.specs.Strict.{Entry, entry, Strict, plain_end, note, strict, strict_act, strict_ask, plain_steps, strict_branch_end, strict_body_end, kept_data, strict_once, strict_once_goes, strict_fork, strict_fork_goes, strict_normal, strict_turns, plain, noting}

-- nothing is absent, and no reason was given
abbrev pub Clean : Path → Bool → Res → Type 0
Clean s body e = body ≡ false → (any_gone s e.st.gone ≡ false) × (e.st.verdict ≡ independent)

abbrev pub Same : Res → Strict → Type 0
Same e r = (x : End) → e.out ≡ ended x → (r.out ≡ Some x) × (r.st ≡ e.st)

pub record Exact (C : Path → ℕ) (T : List Rec) (s : Path) (body : Bool) (e : Res) (r : Strict) : Type 0 where
  pub holds : Agree C T r.log → Clean s body e → Same e r

exact_halt : {C : Path → ℕ} {T : List Rec} {s : Path} {body : Bool} {r : Strict} (o : Out) (σ : St) (f : Rest) → ((x : End) → o ≡ ended x → ⊥) → Exact C T s body (res o σ f) r
exact_halt o σ f h = record { holds = λ a c x e. absurd (h x e) }

-- The strict test is passed where a clean end says so.
exact_strict : {C : Path → ℕ} {T : List Rec} {s : Path} {e : Res} (body : Bool) (v : Verdict) (τ : St) (r : Strict) →
    (Clean s body e → (x : End) → e.out ≡ ended x → body ≡ false → v ≡ independent) → Exact C T s body e r → Exact C T s body e (strict body v τ r)
exact_strict true v τ r h k = k
exact_strict false independent τ r h k = k
exact_strict false (touched_open y) τ r h k = record { holds = λ a c x z. absurd (let w : touched_open y ≡ independent = h c x z refl in let q : ⊥ = cc in q) }
exact_strict false (once_while_open y) τ r h k = record { holds = λ a c x z. absurd (let w : once_while_open y ≡ independent = h c x z refl in let q : ⊥ = cc in q) }
exact_strict false (branch_threw y) τ r h k = record { holds = λ a c x z. absurd (let w : branch_threw y ≡ independent = h c x z refl in let q : ⊥ = cc in q) }

exact_end : {C : Path → ℕ} {T : List Rec} {s : Path} {body : Bool} {e : Res} {r : Strict} (y : End) → e.out ≡ ended y → r.out ≡ Some y → r.st ≡ e.st → Exact C T s body e r
exact_end {r = r} y h k q = record { holds = λ a c x z. (k ∙ ap (λ z. Some z) (ended_is (sym h ∙ z)), q) }

exact_note : {C : Path → ℕ} {T : List Rec} {s : Path} {body : Bool} {e : Res} {r : Strict} (l : List Rec) (m : List Entry) (m' : List Rec) (n : ℕ) → Exact C T s body e r → Exact C T s body (add l e) (note m m' n r)
exact_note l m m' n k = record { holds = λ a c x z. k.holds (λ p n o i w. a p n o i (in_right _ _ w)) c x z }

-- A scope at the next index of σ, and what comes after it.
module _ {C : Path → ℕ} (E : World) (T : List Rec) (s b : Path) (body : Bool) (σ : St)
    (kE : End → St → Rest → Res) (wkE : WithinK E s kE)
    (kP : End → St → Strict)
    (ih : (e : End) (τ : St) (f : Rest) → Exact C T s body (kE e τ f) (kP e τ)) where
  go_on : (e : End) (τ τ' : St) (f : Rest) → τ' ≡ τ → Exact C T s body (kE e τ f) (kP e τ')
  go_on e τ τ' f h = subst (λ z. Exact C T s body (kE e τ f) (kP e z)) (sym h) (ih e τ f)

  clean_go : (e : End) (τ : St) (f : Rest) (x : End) → (kE e τ f).out ≡ ended x → Clean s body (kE e τ f) → body ≡ false → τ.verdict ≡ independent
  clean_go e τ f x h c z = ((wkE e τ f).ends h).clean (c z).1

  -- Once: sE and sP are the runs of the body.
  module _ (sE : Res) (wE : Within E (sub σ.calls s) 0 (enter (once_call b (next_call σ))) sE) (sP : Strict) where
    o_has : (o : Option End) {x : Entry} → In Entry x (sP.log ++ (entry (sub σ.calls s) (noting (kept_data o) sP.cost) ∷ [])) → In Entry x (strict_once o sP (sub σ.calls s) body (once_call b (next_call σ)) kP).log
    o_has (Some (ret x)) m = in_left _ _ m
    o_has (Some (thr x)) m = in_left _ _ m
    o_has (Some (bar w)) m = m
    o_has None m = m

    o_recorded : (d : Data) (f : Rest) (o : Option End) → kept_data o ≡ Some d →
        Exact C T s body (kE (ret (datum d)) (once_call b (next_call σ)) f) (strict_once o sP (sub σ.calls s) body (once_call b (next_call σ)) kP)
    o_recorded d f (Some (ret x)) e = subst (λ d. Exact C T s body (kE (ret (datum d)) (once_call b (next_call σ)) f) (strict_once (Some (ret x)) sP (sub σ.calls s) body (once_call b (next_call σ)) kP)) (some_is e)
        (exact_note [] _ _ _ (ih (ret (datum (data_in x))) (once_call b (next_call σ)) f))
    o_recorded d f (Some (thr x)) e = absurd (none_some e)
    o_recorded d f (Some (bar x)) e = absurd (none_some e)
    o_recorded d f None e = absurd (none_some e)

    -- The record is there.
    once_recorded : (d : Data) (f : Rest) → In Rec (rec (sub σ.calls s) (kept.Once d)) T →
        Exact C T s body (kE (ret (datum d)) (once_call b (next_call σ)) f) (strict body (once_call b (next_call σ)).verdict (next_call σ) (strict_once sP.out sP (sub σ.calls s) body (once_call b (next_call σ)) kP))
    once_recorded d f m = exact_strict body _ (next_call σ) _ (λ c x z. clean_go _ _ f x z c)
        (record { holds = λ a. (o_recorded d f sP.out (a (sub σ.calls s) d (noting (kept_data sP.out) sP.cost) m (o_has sP.out (in_right _ _ first))).0).holds a })

    o_pass : (x : End) → sE.out ≡ ended x → Clean s body (after_body (ended x) sE (sub σ.calls s) (once_call b (next_call σ)) kE) → (y : End) →
        (after_body (ended x) sE (sub σ.calls s) (once_call b (next_call σ)) kE).out ≡ ended y → body ≡ false → (once_call b (next_call σ)).verdict ≡ independent
    o_pass (ret u) h c x z y = clean_go _ _ sE.rest x z c y
    o_pass (thr v) h c x z y = (wE.ends h).clean (clean_go _ _ sE.rest x z c y)
    o_pass (bar w) h c x z y = (wE.ends h).clean (c y).1

    o_ended : (x : End) → sE.out ≡ ended x → sP.st ≡ sE.st →
        Exact C T s body (after_body (ended x) sE (sub σ.calls s) (once_call b (next_call σ)) kE) (strict_once (Some x) sP (sub σ.calls s) body (once_call b (next_call σ)) kP)
    o_ended (ret x) h q = exact_note _ _ _ _ (ih (ret (datum (data_in x))) (once_call b (next_call σ)) sE.rest)
    o_ended (thr v) h q = exact_note _ _ _ _ (exact_strict body _ sP.st _ (λ c x z y. rw q (clean_go _ _ sE.rest x z c y))
        (go_on (thr v) _ _ sE.rest (ap (λ τ. leave (once_call b (next_call σ)) τ) q)))
    o_ended (bar w) h q = exact_end (bar w) h refl q

    -- The record is not there.
    once_exact : (oE : Out) → sE.out ≡ oE → (Agree C T sP.log → Same sE sP) →
        Exact C T s body (after_body oE sE (sub σ.calls s) (once_call b (next_call σ)) kE)
        (strict body (once_call b (next_call σ)).verdict (next_call σ) (strict_once sP.out sP (sub σ.calls s) body (once_call b (next_call σ)) kP))
    once_exact (ended x) h g = exact_strict body _ (next_call σ) _ (o_pass x h) (record {
      holds = λ a.
          let k = g (λ p n o i w. a p n o i (o_has sP.out (in_left _ _ w))) x h in
          (subst (λ o. Exact C T s body (after_body (ended x) sE (sub σ.calls s) (once_call b (next_call σ)) kE)
          (strict_once o sP (sub σ.calls s) body (once_call b (next_call σ)) kP)) (sym k.0) (o_ended x h k.1)).holds a;
    })
    once_exact waits h g = record { holds = λ a c x z. absurd (not_ended' (sym h ∙ z)) }
    once_exact (halted y) h g = record { holds = λ a c x z. absurd (not_ended (sym h ∙ z)) }

  -- Fork: sE and sP are the runs of the branch.
  module _ (nb : body ≡ false) (sE : Res) (wE : Within E (sub σ.calls s) 0 (enter (next_call σ)) sE) (sP : Strict)
      (g : Agree C T sP.log → Clean (sub σ.calls s) false sE → Same sE sP) where
    f_absent : (r : Strict) → Exact C T s body (add sE.made (kE (ret (valued Undefined)) (absent (sub σ.calls s) (next_call σ)) sE.rest)) r
    f_absent r = record {
      holds = λ a c x z.
          absurd (none_gone s _ (c nb).0 (((wkE (ret (valued Undefined)) (absent (sub σ.calls s) (next_call σ)) sE.rest).ends z).more first) (down self));
    }

    f_ended : (x : End) → sE.out ≡ ended x → any_gone (sub σ.calls s) sE.st.gone ≡ false →
        Exact C T s body (after_branch false (ended x) sE (sub σ.calls s) (next_call σ) kE) (strict_fork sP.out sP (sub σ.calls s) (next_call σ) kP)
    f_ended (ret v) h n = record {
      holds = λ a c x z.
          let k = g (λ p m o i w. a p m o i (fork_has _ _ _ _ _ w)) (λ y. (n, clean_go _ _ sE.rest x z c nb)) (ret v) h in
          (subst (λ o. Exact C T s body (after_branch false (ended (ret v)) sE (sub σ.calls s) (next_call σ) kE) (strict_fork o sP (sub σ.calls s) (next_call σ) kP)) (sym k.0)
          (exact_note _ _ _ _ (go_on (ret (valued Undefined)) _ _ sE.rest (ap (λ τ. give_value (value_in v) (leave (next_call σ) (cut_all (sub σ.calls s) τ))) k.1)))).holds a c x z;
    }
    f_ended (thr v) h n = record { holds = λ a c x z. absurd (threw_not (reason_none sE.st.verdict _ (clean_go _ _ sE.rest x z c nb))) }
      where
        threw_not : branch_threw (sub σ.calls s) ≡ independent → ⊥
        threw_not e = cc
    f_ended (bar w) h n = record {
      holds = λ a c x z.
          let k = g (λ p m o i w. a p m o i (fork_has _ _ _ _ _ w)) (λ y. (n, (c nb).1)) (bar w) h in
          (subst (λ o. Exact C T s body sE (strict_fork o sP (sub σ.calls s) (next_call σ) kP)) (sym k.0) (exact_end (bar w) h k.0 k.1)).holds a c x z;
    }

    fork_exact : (t : Bool) → any_gone (sub σ.calls s) sE.st.gone ≡ t → (oE : Out) → sE.out ≡ oE →
        Exact C T s body (after_branch t oE sE (sub σ.calls s) (next_call σ) kE) (strict_fork sP.out sP (sub σ.calls s) (next_call σ) kP)
    fork_exact false n (ended x) h = f_ended x h n
    fork_exact true n (ended x) h = f_absent _
    fork_exact false n waits h = f_absent _
    fork_exact true n waits h = f_absent _
    fork_exact false n (halted y) h = record { holds = λ a c x z. absurd (not_ended (sym h ∙ z)) }
    fork_exact true n (halted y) h = record { holds = λ a c x z. absurd (not_ended (sym h ∙ z)) }

exact_add : {C : Path → ℕ} {T : List Rec} {s : Path} {body : Bool} {e : Res} {r : Strict} (l : List Rec) → Exact C T s body e r → Exact C T s body (add l e) r
exact_add l k = record { holds = k.holds }

-- ---- what comes after

abbrev pub ExactK : {A : Type 0} → (Path → ℕ) → List Rec → Path → Bool → (A → St → Rest → Res) → (A → St → Strict) → Type 0
ExactK {A} C T s body kE kP = (a : A) (τ : St) (w : Rest) → Exact C T s body (kE a τ w) (kP a τ)

module _ (C : Path → ℕ) (T : List Rec) (E' E : World) (told : ToldBy T E' E) (more : More E' E) where
  x_answered : {q : Question} (s : Path) (body : Bool) (p : Path) (φ : St) (kE : AnsOf q → Rest → Res) (kP : AnsOf q → Strict) → ((a : AnsOf q) (w : Rest) → Exact C T s body (kE a w) (kP a)) →
      (a : AnsOf q) (w : Rest) (n : Option (Fresh q)) → said n ≡ Some a → Exact C T s body (kE a w) (strict_ask n p φ kP)
  x_answered s body p φ kE kP ih a w (Some f) e = subst (λ z. Exact C T s body (kE z w) (note [] (rec p f.what ∷ []) 0 (kP f.answer))) (some_is e) (exact_note [] [] (rec p f.what ∷ []) 0 (ih f.answer w))
  x_answered s body p φ kE kP ih a w None e = absurd (none_some e)

  pub steps_exact : {A : Type 0} (g : Small A) (s b : Path) (body : Bool) (kE : A → St → Rest → Res) (kP : A → St → Strict) → WithinK E' s kE → ExactK C T s body kE kP →
      (σ : St) (w : Rest) → Exact C T s body (run_steps g E' T s b body kE σ w) (plain_steps g E s b body kP σ)
  unfolding run_steps plain_steps
  steps_exact (give a) s b body kE kP wk ih σ w = ih a σ w
  steps_exact (refuse why) s b body kE kP wk ih σ w = exact_end (bar why) refl refl refl
  steps_exact lost s b body kE kP wk ih σ w = exact_halt (halted missing) σ w (λ x z. not_ended z)
  steps_exact (step o go) s b body kE kP wk ih σ w = paid (nat_lt w.left (op_cost o σ)) (λ a τ w'. steps_exact (go a) s b body kE kP wk ih τ w')
    where
      inner : (X : Act (AnswerTo o)) (w' : Rest) → ((a : AnswerTo o) (τ : St) (w' : Rest) → Exact C T s body (run_steps (go a) E' T s b body kE τ w') (plain_steps (go a) E s b body kP τ)) →
          Exact C T s body (on_act X σ w' (λ a τ w''. run_steps (go a) E' T s b body kE τ w'')) (strict_act X (op_cost o σ) body σ (λ a τ. plain_steps (go a) E s b body kP τ))
      inner (gives a τ) w' h = exact_strict body τ.verdict τ _ (λ c x z y. ((steps_within (go a) E' T s b body kE wk τ w').ends z).clean (c y).1) (exact_note [] [] [] (op_cost o σ) (h a τ w'))
      inner (refused why) w' h = exact_end (bar why) refl refl refl
      inner (waiting x) w' h = exact_halt waits σ _ (λ x z. not_ended' z)
      inner stuck w' h = exact_halt (halted missing) σ w' (λ x z. not_ended z)

      paid : (t : Bool) → ((a : AnswerTo o) (τ : St) (w' : Rest) → Exact C T s body (run_steps (go a) E' T s b body kE τ w') (plain_steps (go a) E s b body kP τ)) →
          Exact C T s body (pay_if t (op_cost o σ) σ w (λ w'. on_act (act o s b body σ) σ w' (λ a τ w''. run_steps (go a) E' T s b body kE τ w''))) (strict_act (act o s b body σ) (op_cost o σ) body σ (λ a τ. plain_steps (go a) E s b body kP τ))
      paid true h = exact_halt (halted spent) σ w (λ x z. not_ended z)
      paid false h = inner (act o s b body σ) _ h
  steps_exact (ask q go) s b body kE kP wk ih σ w = inner (find (sub σ.calls s) T) refl (below (sub σ.calls s) T) (fresh q E' w.drawn (sub σ.calls s)) refl
      (λ a w'. steps_exact (go a) s b body kE kP wk ih (next_call σ) w')
    where
      inner : (c : Option Rec) → find (sub σ.calls s) T ≡ c → (t : Bool) (n : Option (Fresh q)) → fresh q E' w.drawn (sub σ.calls s) ≡ n →
          ((a : AnsOf q) (w' : Rest) → Exact C T s body (run_steps (go a) E' T s b body kE (next_call σ) w') (plain_steps (go a) E s b body kP (next_call σ))) →
          Exact C T s body (on_ask q c t n E' (sub σ.calls s) (next_call σ) w (λ a w'. run_steps (go a) E' T s b body kE (next_call σ) w')) (strict_ask (fresh q E 0 (sub σ.calls s)) (sub σ.calls s) σ (λ a. plain_steps (go a) E s b body kP (next_call σ)))
      inner (Some (rec r x)) ec t n en h = choose (kept_answer q E'.session (sub σ.calls s) x) refl _
        where
          choose : (o : Option (AnsOf q)) → kept_answer q E'.session (sub σ.calls s) x ≡ o → (d : Divergence) →
              Exact C T s body (on_kept o d (next_call σ) w (λ a w'. run_steps (go a) E' T s b body kE (next_call σ) w')) (strict_ask (fresh q E 0 (sub σ.calls s)) (sub σ.calls s) σ (λ a. plain_steps (go a) E s b body kP (next_call σ)))
          choose (Some y) e d = x_answered s body (sub σ.calls s) σ _ _ h y w _ (told (sub σ.calls s) x (subst (λ z. In Rec (rec z x) T) (found_at T ec).1 (found_at T ec).0) q y e)
          choose None e d = exact_halt _ _ w (λ x z. not_ended z)
      inner None ec true n en h = exact_halt _ _ w (λ x z. not_ended z)
      inner None ec false (Some f) en h = exact_add (rec (sub σ.calls s) f.what ∷ []) (x_answered s body (sub σ.calls s) σ _ _ h f.answer _ _ (ap (λ z. said z) (more q w.drawn (sub σ.calls s) f en)))
      inner None ec false None en h = exact_halt (unanswered q) _ _ (unanswered_not q)

  pub x_branch_end : (s : Path) (body : Bool) → ExactK C T s body branch_end strict_branch_end
  x_branch_end s body (Normal v) τ w = exact_end _ refl refl refl
  x_branch_end s body Break τ w = exact_end _ refl refl refl
  x_branch_end s body Continue τ w = exact_end _ refl refl refl
  x_branch_end s body (Return v) τ w = exact_end _ refl refl refl
  x_branch_end s body (Throw v) τ w = exact_end _ refl refl refl

  x_taken : (s b : Path) (v : Val) (τ : St) (w : Rest) →
      Exact C T s true (run_steps (taking v) E' T s b true (λ d τ w'. res (ended (ret (datum d))) τ w') τ w) (plain_steps (taking v) E s b true (λ d τ. plain_end (Some (ret (datum d))) τ) τ)
  x_taken s b v τ w = steps_exact (taking v) s b true _ _ (λ d τ w'. within_res _ w') (λ d τ w. exact_end _ refl refl refl) τ w

  x_body_end : (s b : Path) → ExactK C T s true (body_end E' T s b) (strict_body_end E s b)
  x_body_end s b (Normal v) τ w = x_taken s b v τ w
  x_body_end s b Break τ w = x_taken s b Undefined τ w
  x_body_end s b Continue τ w = x_taken s b Undefined τ w
  x_body_end s b (Return v) τ w = x_taken s b v τ w
  x_body_end s b (Throw v) τ w = exact_end _ refl refl refl

  pub record XConts (s : Path) (body : Bool) (kE : Outcome → St → Rest → Res) (kP : Outcome → St → Strict) : Type 0 where
    pub left : WithinK E' s kE
    pub both : ExactK C T s body kE kP

  x_once_goes : (s b : Path) (body : Bool) (kE : Outcome → St → Rest → Res) (kP : Outcome → St → Strict) → XConts s body kE kP → ExactK C T s body (once_goes E' T s b body kE) (strict_once_goes E s b body kP)
  x_once_goes s b body kE kP c (ret x) τ w = steps_exact (put_data (data_in x)) s b body _ _ (λ v τ w'. c.left (Normal v) τ w') (λ v τ w'. c.both (Normal v) τ w') τ w
  x_once_goes s b body kE kP c (thr v) τ w = c.both (Throw v) τ w
  x_once_goes s b body kE kP c (bar why) τ w = exact_end _ refl refl refl

  x_fork_goes : (s : Path) (body : Bool) (kE : Outcome → St → Rest → Res) (kP : Outcome → St → Strict) → XConts s body kE kP → ExactK C T s body (fork_goes kE) (strict_fork_goes kP)
  x_fork_goes s body kE kP c (ret x) τ w = c.both (Normal Undefined) τ w
  x_fork_goes s body kE kP c (thr v) τ w = c.both (Throw v) τ w
  x_fork_goes s body kE kP c (bar why) τ w = exact_end _ refl refl refl

  x_normal : (s : Path) (body : Bool) (gE : Val → St → Rest → Res) (gP : Val → St → Strict) (kE : Outcome → St → Rest → Res) (kP : Outcome → St → Strict) →
      WithinK E' s gE → ExactK C T s body gE gP → XConts s body kE kP → XConts s body (on_normal gE kE) (strict_normal gP kP)
  x_normal s body gE gP kE kP wg hg c = record { left = normal_within E' s gE kE wg c.left; both = λ o τ w. inner o τ w }
    where
      inner : ExactK C T s body (on_normal gE kE) (strict_normal gP kP)
      inner (Normal v) τ w = hg v τ w
      inner Break τ w = c.both Break τ w
      inner Continue τ w = c.both Continue τ w
      inner (Return v) τ w = c.both (Return v) τ w
      inner (Throw v) τ w = c.both (Throw v) τ w

  module _ (s : Path) (body : Bool) (gE : (Outcome → St → Rest → Res) → St → Rest → Res) (gP : (Outcome → St → Strict) → St → Strict)
      (hE : (k : Outcome → St → Rest → Res) → WithinK E' s k → (σ : St) (w : Rest) → Within E' s σ.calls σ (gE k σ w))
      (hX : (kE : Outcome → St → Rest → Res) (kP : Outcome → St → Strict) → XConts s body kE kP → (σ : St) (w : Rest) → Exact C T s body (gE kE σ w) (gP kP σ)) where
    x_turns : (N : ℕ) (kE : Outcome → St → Rest → Res) (kP : Outcome → St → Strict) → XConts s body kE kP → (σ : St) (w : Rest) → Exact C T s body (turns N gE kE σ w) (strict_turns N gP kP σ)
    unfolding turns strict_turns
    x_turns zero kE kP c σ w = exact_halt (halted spent) σ w (λ x z. not_ended z)
    x_turns (suc n) kE kP c σ w = hX _ _ (x_normal s body (λ v τ w'. turns n gE kE τ w') (λ v τ. strict_turns n gP kP τ) kE kP (λ v τ w'. turns_within E' s n gE hE kE c.left τ w') (λ v τ w'. x_turns n kE kP c τ w') c) σ w

  pub exact : (N : ℕ) (g : Prog) (s b : Path) (body : Bool) (kE : Outcome → St → Rest → Res) (kP : Outcome → St → Strict) → XConts s body kE kP →
      (σ : St) (w : Rest) → Exact C T s body (run g E' T N s b body kE σ w) (plain g E N s b body kP σ)
  unfolding run plain
  exact N (Done o) s b body kE kP c σ w = c.both o σ w
  exact N (Ask p go) s b body kE kP c σ w = steps_exact (steps_of p) s b body _ _ (λ a τ w'. run_within (go a) E' T N s b body kE c.left τ w') (λ a τ w'. exact N (go a) s b body kE kP c τ w') σ w
  exact N (Then g go) s b body kE kP c σ w = exact N g s b body _ _ (x_normal s body (λ x τ w'. run (go x) E' T N s b body kE τ w') (λ x τ. plain (go x) E N s b body kP τ) kE kP
      (λ x τ w'. run_within (go x) E' T N s b body kE c.left τ w') (λ x τ w'. exact N (go x) s b body kE kP c τ w') c) σ w
  exact N (Always g go) s b body kE kP c σ w = exact N g s b body _ _ (record { left = λ o τ w'. run_within (go o) E' T N s b body kE c.left τ w'; both = λ o τ w'. exact N (go o) s b body kE kP c τ w' }) σ w
  exact N (Once g) s b body kE kP c σ w = inner (find (sub σ.calls s) T) refl
      (exact N g (sub σ.calls s) b true _ _ (record { left = body_end_within E' T (sub σ.calls s) b; both = x_body_end (sub σ.calls s) b }) (enter (once_call b (next_call σ))) w)
    where
      inner : (o : Option Rec) → find (sub σ.calls s) T ≡ o →
          Exact C T (sub σ.calls s) true (run g E' T N (sub σ.calls s) b true (body_end E' T (sub σ.calls s) b) (enter (once_call b (next_call σ))) w) (plain g E N (sub σ.calls s) b true (strict_body_end E (sub σ.calls s) b) (enter (once_call b (next_call σ)))) →
          Exact C T s body (on_once o (once_call b (next_call σ)) w (once_goes E' T s b body kE)
          (run g E' T N (sub σ.calls s) b true (body_end E' T (sub σ.calls s) b) (enter (once_call b (next_call σ))) w) (sub σ.calls s))
          (strict body (once_call b (next_call σ)).verdict (next_call σ) (strict_once
          (plain g E N (sub σ.calls s) b true (strict_body_end E (sub σ.calls s) b) (enter (once_call b (next_call σ)))).out
          (plain g E N (sub σ.calls s) b true (strict_body_end E (sub σ.calls s) b) (enter (once_call b (next_call σ))))
          (sub σ.calls s) body (once_call b (next_call σ)) (strict_once_goes E s b body kP)))
      inner (Some (rec q (kept.Post x))) ec h = exact_halt _ _ w (λ x z. not_ended z)
      inner (Some (rec q (kept.Reply x y))) ec h = exact_halt _ _ w (λ x z. not_ended z)
      inner (Some (rec q (kept.Draw m n))) ec h = exact_halt _ _ w (λ x z. not_ended z)
      inner (Some (rec q (kept.Once d))) ec h = once_recorded E' T s b body σ _ (once_goes_within E' T s b body kE c.left) _ (x_once_goes s b body kE kP c)
          _ (run_within g E' T N (sub σ.calls s) b true _ (body_end_within E' T (sub σ.calls s) b) (enter (once_call b (next_call σ))) w) _ d w
          (subst (λ z. In Rec (rec z (kept.Once d)) T) (found_at T ec).1 (found_at T ec).0)
      inner None ec h = once_exact E' T s b body σ _ (once_goes_within E' T s b body kE c.left) _ (x_once_goes s b body kE kP c)
          _ (run_within g E' T N (sub σ.calls s) b true _ (body_end_within E' T (sub σ.calls s) b) (enter (once_call b (next_call σ))) w) _ _ refl
          (λ a. h.holds a (λ z. absurd (true≢false z)))
  exact N (Fork g) s b true kE kP c σ w = exact_end (bar ForkInOnce) refl refl refl
  exact N (Fork g) s b false kE kP c σ w = inner (find (sub σ.calls s) T)
      (exact N g (sub σ.calls s) (sub σ.calls s) false _ _ (record { left = branch_end_within E' (sub σ.calls s); both = x_branch_end (sub σ.calls s) false }) (enter (next_call σ)) (forked w))
    where
      inner : (o : Option Rec) →
          Exact C T (sub σ.calls s) false (run g E' T N (sub σ.calls s) (sub σ.calls s) false branch_end (enter (next_call σ)) (forked w)) (plain g E N (sub σ.calls s) (sub σ.calls s) false strict_branch_end (enter (next_call σ))) →
          Exact C T s false (on_fork o (next_call σ) (forked w) (fork_goes kE)
          (run g E' T N (sub σ.calls s) (sub σ.calls s) false branch_end (enter (next_call σ)) (forked w)) (sub σ.calls s))
          (strict_fork (plain g E N (sub σ.calls s) (sub σ.calls s) false strict_branch_end (enter (next_call σ))).out
          (plain g E N (sub σ.calls s) (sub σ.calls s) false strict_branch_end (enter (next_call σ)))
          (sub σ.calls s) (next_call σ) (strict_fork_goes kP))
      inner (Some (rec q x)) h = exact_halt _ _ _ (λ x z. not_ended z)
      inner None h = fork_exact E' T s b false σ _ (fork_goes_within E' s kE c.left) _ (x_fork_goes s false kE kP c) refl _
          (run_within g E' T N (sub σ.calls s) (sub σ.calls s) false _ (branch_end_within E' (sub σ.calls s)) (enter (next_call σ)) (forked w)) _ (λ a z. h.holds a z) _ refl _ refl
  exact N (Loop g) s b body kE kP c σ w = x_turns s body (λ k' τ w'. run g E' T N s b body k' τ w') (λ k' τ. plain g E N s b body k' τ)
      (λ k wk τ w'. run_within g E' T N s b body k wk τ w') (λ kE' kP' c' τ w'. exact N g s b body kE' kP' c' τ w') N kE kP c σ w
