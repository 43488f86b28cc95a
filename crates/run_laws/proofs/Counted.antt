-- Where a scope ends with a value or a throw, each record made in it stands at or below a call that its count passed.
use Rattle.std.specs.Prelude.{List, Bool, true, false, Option, Some, None, nat_lt}
use Rattle.std.proofs.Common.{◌≡◌, ◌≤◌, ℕ, suc, zero, refl, arith, inl, inr, [], ◌∷◌, ◌++◌, sym, subst}
use Rattle.turk_base.specs.declared.Record.{Record}
use Rattle.turk_base.specs.declared.Record.TheVariants as kept
use Rattle.turk_base.specs.Asks.{Question, posts, replies, draws, AnsOf, Rec, rec, path_of, find, below}
use Rattle.turk_base.specs.Names.{Path, sub, Under, self, In}
use Rattle.turk_base.specs.Prog.{Prog, Done, Ask, Then, Always, Once, Fork, Loop}
use Rattle.turk_base.specs.State.{St, AnswerTo, op_cost, Act, gives, refused, waiting, stuck, act, once_call, next_call, enter, leave, absent, give_value, cut_all, threw}
use Rattle.turk_base.specs.Steps.{Small, give, refuse, lost, step, ask, taking, put_data, steps_of}
use Rattle.turk_base.specs.Values.{Val, Undefined, Outcome, Normal, Break, Continue, Return, Throw}
use Rattle.js_tree.specs.Run.{datum, value_in, data_in, End, ret, thr, bar, Out, ended, waits, halted, Res, res, add, pay_if, on_act, on_kept, on_ask, run_steps, branch_end, body_end, after_body, on_once, once_goes, after_branch, on_fork, fork_goes, forked, on_normal, turns, run}
use Rattle.js_tree.specs.World.{World, Divergence, kept_answer, Fresh, fresh, Rest, drew}
use Rattle.run_laws.proofs.Paths.{up}
use Rattle.run_laws.proofs.Props.{in_split, in_one}
use Rattle.run_laws.proofs.Within.{ActKept, act_kept, run_within, branch_end_within, body_end_within}
use Rattle.run_laws.specs.Claim.{completed}
use native.Mathlib.Nat.{le_refl, le_trans}

-- What a run in the scope s from the call c on has counted, where it ended with a value or a throw.
pub record Counted (s : Path) (c : ℕ) (r : Res) : Type 0 where
  pub rises : (e : End) → completed e → r.out ≡ ended e → c ≤ r.st.calls
  pub passed : (e : End) → completed e → r.out ≡ ended e → (q : Rec) → In Rec q r.made → (i : ℕ) × (c ≤ i) × (suc i ≤ r.st.calls) × Under (sub i s) (path_of q)

-- it did not end so
abbrev Undone : Out → Type 0
Undone (ended (ret x)) = ⊥
Undone (ended (thr v)) = ⊥
Undone (ended (bar y)) = Unit {0}
Undone waits = Unit {0}
Undone (halted y) = Unit {0}

no_end : (e : End) → completed e → Undone (ended e) → ⊥
no_end (ret x) c u = u
no_end (thr v) c u = u
no_end (bar y) c u = c

undone : {s : Path} {c : ℕ} {r : Res} → Undone r.out → Counted s c r
undone u = record { rises = λ e k z. absurd (no_end e k (subst Undone z u)); passed = λ e k z. absurd (no_end e k (subst Undone z u)) }

pub here : {s : Path} (o : Out) (σ : St) (w : Rest) → Counted s σ.calls (res o σ w)
here o σ w = record { rises = λ e k z. le_refl σ.calls; passed = λ e k z q m. elim m [ ] }

counted_from : {s : Path} {c d : ℕ} {r : Res} → c ≤ d → Counted s d r → Counted s c r
counted_from h a = record { rises = λ e k z. le_trans h (a.rises e k z); passed = λ e k z q m. let p = a.passed e k z q m in (p.0, le_trans h p.1, p.2, p.3) }

counted_add : {s : Path} {c : ℕ} {r : Res} (l : List Rec) → ((q : Rec) → In Rec q l → Under (sub c s) (path_of q)) → Counted s (suc c) r → Counted s c (add l r)
counted_add {s} {c} {r} l u a = record {
  rises = λ e k z. let h = a.rises e k z in omega (arith, h);
  passed = λ e k z q m. elim (in_split l r.made m) [
    | inl i ↦ (c, le_refl c, a.rises e k z, u q i)
    | inr j ↦ later e k z q j
  ];
}
  where
    later : (e : End) → completed e → r.out ≡ ended e → (q : Rec) → In Rec q r.made → (i : ℕ) × (c ≤ i) × (suc i ≤ r.st.calls) × Under (sub i s) (path_of q)
    later e k z q j = let p = a.passed e k z q j in (p.0, omega (arith, p.1), p.2, p.3)

abbrev pub CountedK : {A : Type 0} → Path → (A → St → Rest → Res) → Type 0
CountedK {A} s k = (a : A) (τ : St) (w : Rest) → Counted s τ.calls (k a τ w)

steps_counted : {A : Type 0} (g : Small A) (E : World) (T : List Rec) (s b : Path) (body : Bool) (k : A → St → Rest → Res) → CountedK s k →
    (σ : St) (w : Rest) → Counted s σ.calls (run_steps g E T s b body k σ w)
unfolding run_steps
steps_counted (give a) E T s b body k h σ w = h a σ w
steps_counted (refuse why) E T s b body k h σ w = undone tt
steps_counted lost E T s b body k h σ w = undone tt
steps_counted (step o go) E T s b body k h σ w = paid (nat_lt w.left (op_cost o σ)) (act_kept o s b body σ) (λ a τ w'. steps_counted (go a) E T s b body k h τ w')
  where
    inner : (X : Act (AnswerTo o)) → ActKept s σ X → (w' : Rest) → ((a : AnswerTo o) (τ : St) (w' : Rest) → Counted s τ.calls (run_steps (go a) E T s b body k τ w')) →
        Counted s σ.calls (on_act X σ w' (λ a τ w''. run_steps (go a) E T s b body k τ w''))
    inner (gives a τ) x w' ih = subst (λ c. Counted s c (run_steps (go a) E T s b body k τ w')) x.1 (ih a τ w')
    inner (refused why) x w' ih = undone tt
    inner (waiting y) x w' ih = undone tt
    inner stuck x w' ih = undone tt

    paid : (t : Bool) → ActKept s σ (act o s b body σ) → ((a : AnswerTo o) (τ : St) (w' : Rest) → Counted s τ.calls (run_steps (go a) E T s b body k τ w')) →
        Counted s σ.calls (pay_if t (op_cost o σ) σ w (λ w'. on_act (act o s b body σ) σ w' (λ a τ w''. run_steps (go a) E T s b body k τ w'')))
    paid true x ih = undone tt
    paid false x ih = inner (act o s b body σ) x _ ih
steps_counted (ask q go) E T s b body k h σ w = inner (find (sub σ.calls s) T) (below (sub σ.calls s) T) (fresh q E w.drawn (sub σ.calls s)) (λ a w'. steps_counted (go a) E T s b body k h (next_call σ) w')
  where
    on : (o : Option (AnsOf q)) (d : Divergence) → ((a : AnsOf q) (w' : Rest) → Counted s (suc σ.calls) (run_steps (go a) E T s b body k (next_call σ) w')) →
        Counted s σ.calls (on_kept o d (next_call σ) w (λ a w'. run_steps (go a) E T s b body k (next_call σ) w'))
    on (Some a) d ih = counted_from (omega arith) (ih a w)
    on None d ih = undone tt

    none : (q : Question) → Counted s σ.calls (on_ask q None false None E (sub σ.calls s) (next_call σ) w (λ a w'. res waits σ w'))
    none (posts t) = undone tt
    none (replies t) = undone tt
    none (draws m) = undone tt

    inner : (c : Option Rec) (t : Bool) (n : Option (Fresh q)) → ((a : AnsOf q) (w' : Rest) → Counted s (suc σ.calls) (run_steps (go a) E T s b body k (next_call σ) w')) →
        Counted s σ.calls (on_ask q c t n E (sub σ.calls s) (next_call σ) w (λ a w'. run_steps (go a) E T s b body k (next_call σ) w'))
    inner (Some (rec r x)) t n ih = on (kept_answer q E.session (sub σ.calls s) x) _ ih
    inner None true n ih = undone tt
    inner None false (Some f) ih = counted_add (rec (sub σ.calls s) f.what ∷ []) (λ q m. rw (in_one m) self) (ih f.answer (drew q w))
    inner None false None ih = none q

pub branch_end_counted : (s : Path) → CountedK s branch_end
branch_end_counted s (Normal v) τ w = here _ τ w
branch_end_counted s Break τ w = here _ τ w
branch_end_counted s Continue τ w = here _ τ w
branch_end_counted s (Return v) τ w = here _ τ w
branch_end_counted s (Throw v) τ w = here _ τ w

pub body_end_counted : (E : World) (T : List Rec) (s b : Path) → CountedK s (body_end E T s b)
body_end_counted E T s b (Normal v) τ w = steps_counted (taking v) E T s b true _ (λ d τ w. here _ τ w) τ w
body_end_counted E T s b Break τ w = steps_counted (taking Undefined) E T s b true _ (λ d τ w. here _ τ w) τ w
body_end_counted E T s b Continue τ w = steps_counted (taking Undefined) E T s b true _ (λ d τ w. here _ τ w) τ w
body_end_counted E T s b (Return v) τ w = steps_counted (taking v) E T s b true _ (λ d τ w. here _ τ w) τ w
body_end_counted E T s b (Throw v) τ w = here _ τ w

once_goes_counted : (E : World) (T : List Rec) (s b : Path) (body : Bool) (k : Outcome → St → Rest → Res) → CountedK s k → CountedK s (once_goes E T s b body k)
once_goes_counted E T s b body k h (ret x) τ w = steps_counted (put_data (data_in x)) E T s b body _ (λ v τ w. h (Normal v) τ w) τ w
once_goes_counted E T s b body k h (thr v) τ w = h (Throw v) τ w
once_goes_counted E T s b body k h (bar y) τ w = undone tt

fork_goes_counted : (s : Path) (k : Outcome → St → Rest → Res) → CountedK s k → CountedK s (fork_goes k)
fork_goes_counted s k h (ret x) τ w = h (Normal Undefined) τ w
fork_goes_counted s k h (thr v) τ w = h (Throw v) τ w
fork_goes_counted s k h (bar y) τ w = undone tt

normal_counted : (s : Path) (g : Val → St → Rest → Res) (k : Outcome → St → Rest → Res) → CountedK s g → CountedK s k → CountedK s (on_normal g k)
normal_counted s g k hg hk (Normal v) τ w = hg v τ w
normal_counted s g k hg hk Break τ w = hk Break τ w
normal_counted s g k hg hk Continue τ w = hk Continue τ w
normal_counted s g k hg hk (Return v) τ w = hk (Return v) τ w
normal_counted s g k hg hk (Throw v) τ w = hk (Throw v) τ w

turns_counted : (s : Path) (turn : (Outcome → St → Rest → Res) → St → Rest → Res) →
    ((k : Outcome → St → Rest → Res) → CountedK s k → (σ : St) (w : Rest) → Counted s σ.calls (turn k σ w)) →
    (N : ℕ) (k : Outcome → St → Rest → Res) → CountedK s k → (σ : St) (w : Rest) → Counted s σ.calls (turns N turn k σ w)
unfolding turns
turns_counted s turn h zero k hk σ w = undone tt
turns_counted s turn h (suc n) k hk σ w = h _ (normal_counted s _ k (λ v τ w'. turns_counted s turn h n k hk τ w') hk) σ w

-- After a scope at the call c that gave r; the script goes on from the state σ₁, where that call was counted.
module _ (s : Path) (c : ℕ) (σ₁ : St) (n : σ₁.calls ≡ suc c) (r : Res) (u : (q : Rec) → In Rec q r.made → Under (sub c s) (path_of q)) (k : End → St → Rest → Res) (h : CountedK s k) where
  goes_counted : (l : List Rec) → ((q : Rec) → In Rec q l → Under (sub c s) (path_of q)) → (e : End) (τ : St) (w : Rest) → τ.calls ≡ suc c → Counted s c (add l (k e τ w))
  goes_counted l v e τ w z = counted_add l v (subst (λ m. Counted s m (k e τ w)) z (h e τ w))

  own : (x : Record) (q : Rec) → In Rec q (r.made ++ (rec (sub c s) x ∷ [])) → Under (sub c s) (path_of q)
  own x q m = elim (in_split r.made _ m) [ inl i ↦ u q i | inr j ↦ rw (in_one j) self ]

  body_counted : (o : Out) → r.out ≡ o → Counted s c (after_body o r (sub c s) σ₁ k)
  body_counted (ended (ret x)) e = goes_counted (r.made ++ (rec (sub c s) (kept.Once (data_in x)) ∷ [])) (own (kept.Once (data_in x))) _ σ₁ r.rest n
  body_counted (ended (thr v)) e = goes_counted r.made u _ (leave σ₁ r.st) r.rest n
  body_counted (ended (bar y)) e = undone (subst Undone (sym e) tt)
  body_counted waits e = undone (subst Undone (sym e) tt)
  body_counted (halted y) e = undone (subst Undone (sym e) tt)

  branch_counted : (g : Bool) (o : Out) → r.out ≡ o → Counted s c (after_branch g o r (sub c s) σ₁ k)
  branch_counted false (ended (ret x)) e = goes_counted r.made u _ (give_value (value_in x) (leave σ₁ (cut_all (sub c s) r.st))) r.rest n
  branch_counted false (ended (thr v)) e = goes_counted r.made u _ (threw (sub c s) (leave σ₁ (cut_all (sub c s) r.st))) r.rest n
  branch_counted false (ended (bar y)) e = undone (subst Undone (sym e) tt)
  branch_counted true (ended x) e = goes_counted r.made u _ (absent (sub c s) σ₁) r.rest n
  branch_counted false waits e = goes_counted r.made u _ (absent (sub c s) σ₁) r.rest n
  branch_counted true waits e = goes_counted r.made u _ (absent (sub c s) σ₁) r.rest n
  branch_counted false (halted y) e = undone (subst Undone (sym e) tt)
  branch_counted true (halted y) e = undone (subst Undone (sym e) tt)

pub run_counted : (g : Prog) (E : World) (T : List Rec) (N : ℕ) (s b : Path) (body : Bool) (k : Outcome → St → Rest → Res) → CountedK s k →
    (σ : St) (w : Rest) → Counted s σ.calls (run g E T N s b body k σ w)
unfolding run
run_counted (Done o) E T N s b body k h σ w = h o σ w
run_counted (Ask p go) E T N s b body k h σ w = steps_counted (steps_of p) E T s b body _ (λ a τ w'. run_counted (go a) E T N s b body k h τ w') σ w
run_counted (Then g go) E T N s b body k h σ w = run_counted g E T N s b body _ (normal_counted s _ k (λ v τ w'. run_counted (go v) E T N s b body k h τ w') h) σ w
run_counted (Always g go) E T N s b body k h σ w = run_counted g E T N s b body _ (λ o τ w'. run_counted (go o) E T N s b body k h τ w') σ w
run_counted (Once g) E T N s b body k h σ w = inner (find (sub σ.calls s) T) (once_goes_counted E T s b body k h)
  where
    inner : (c : Option Rec) → CountedK s (once_goes E T s b body k) →
        Counted s σ.calls (on_once c (once_call b (next_call σ)) w (once_goes E T s b body k) (run g E T N (sub σ.calls s) b true (body_end E T (sub σ.calls s) b) (enter (once_call b (next_call σ))) w) (sub σ.calls s))
    inner (Some (rec q (kept.Once d))) ih = counted_from (omega arith) (ih (ret (datum d)) (once_call b (next_call σ)) w)
    inner (Some (rec q (kept.Post t))) ih = undone tt
    inner (Some (rec q (kept.Reply t x))) ih = undone tt
    inner (Some (rec q (kept.Draw m n))) ih = undone tt
    inner None ih = body_counted s σ.calls (once_call b (next_call σ)) refl (run g E T N (sub σ.calls s) b true (body_end E T (sub σ.calls s) b) (enter (once_call b (next_call σ))) w)
        (λ q m. up ((run_within g E T N (sub σ.calls s) b true _ (body_end_within E T (sub σ.calls s) b) (enter (once_call b (next_call σ))) w).made m).0.2) _ ih _ refl
run_counted (Fork g) E T N s b true k h σ w = undone tt
run_counted (Fork g) E T N s b false k h σ w = inner (find (sub σ.calls s) T) (fork_goes_counted s k h)
  where
    inner : (c : Option Rec) → CountedK s (fork_goes k) →
        Counted s σ.calls (on_fork c (next_call σ) (forked w) (fork_goes k) (run g E T N (sub σ.calls s) (sub σ.calls s) false branch_end (enter (next_call σ)) (forked w)) (sub σ.calls s))
    inner (Some (rec q x)) ih = undone tt
    inner None ih = branch_counted s σ.calls (next_call σ) refl (run g E T N (sub σ.calls s) (sub σ.calls s) false branch_end (enter (next_call σ)) (forked w))
        (λ q m. up ((run_within g E T N (sub σ.calls s) (sub σ.calls s) false _ (branch_end_within E (sub σ.calls s)) (enter (next_call σ)) (forked w)).made m).0.2) _ ih _ _ refl
run_counted (Loop g) E T N s b body k h σ w = turns_counted s _ (λ k hk τ w'. run_counted g E T N s b body k hk τ w') N k h σ w
