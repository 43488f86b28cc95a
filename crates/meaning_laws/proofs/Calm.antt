-- A run without a fork: no slot is opened, so no reason against independence is found.
use Rattle.std.specs.Prelude.{List, Bool, true, false, Option, Some, None, nat_lt}
use Rattle.std.proofs.Common.{◌≡◌, ◌≤◌, ℕ, suc, zero, refl, arith, [], ◌∷◌, sym, ◌∙◌}
use Rattle.turk_base.specs.declared.Record.TheVariants as kept
use Rattle.turk_base.specs.Asks.{Question, posts, replies, draws, AnsOf, Rec, rec, find, below}
use Rattle.turk_base.specs.Names.{Path, root, sub, Under, self, down, under, pick, Part, Name, home}
use Rattle.turk_base.specs.Prog.{Prog, Done, Ask, Then, Always, Once, Fork, Loop}
use Rattle.turk_base.specs.Cells.{touches, writes}
use Rattle.turk_base.specs.State.{St, Op, charge, known_at, make, change, print, join, forks_here, crash, AnswerTo, op_cost, Act, gives, refused, waiting, stuck, act, act_known, act_chained, act_change, act_join, act_forks, any_gone, too_many, once_call, next_call, enter, leave, Opening, independent, touch_all, write_all}
use Rattle.turk_base.specs.Steps.{Small, give, refuse, lost, step, ask, taking, put_data, steps_of}
use Rattle.turk_base.specs.Values.{Val, Undefined, Frame, Plain, Array, Function, BuiltIn, Known, Outcome, Normal, Break, Continue, Return, Throw}
use Rattle.js_tree.specs.Run.{datum, data_in, End, ret, thr, bar, Out, ended, waits, halted, Res, pay_if, on_act, on_kept, on_ask, run_steps, body_end, after_body, on_once, once_goes, forked, on_normal, turns, run}
use Rattle.js_tree.specs.World.{World, Divergence, kept_answer, Fresh, fresh, Rest, drew}
use Rattle.meaning_laws.proofs.Rises.{RisesK, once_goes_rises, normal_rises, turns_rises, body_end_rises, branch_end_rises, fork_goes_rises, fork_rises, run_rises}

-- No slot is open, and no reason was found.
pub record Calm (σ : St) : Type 0 where
  pub opened : σ.opened ≡ []
  pub verdict : σ.verdict ≡ independent

calm_like : {σ τ : St} → τ.opened ≡ σ.opened → τ.verdict ≡ σ.verdict → Calm σ → Calm τ
calm_like o v h = record { opened = o ∙ h.opened; verdict = v ∙ h.verdict }

root_under : (p : Path) → Under root p
root_under root = self
root_under (sub i p) = down (root_under p)

none_touched : (b : Path) (c : Name) (ys : List Part) → touch_all b c ys [] independent ≡ independent
none_touched b c [] = refl
none_touched b c (y ∷ ys) = none_touched b c ys

not_opened : (q : Path) (l m : List Opening) → pick (under root q) l m ≡ l
not_opened q l m = inner (under root q)
  where
    inner : (d : Dec (Under root q)) → pick d l m ≡ l
    inner (yes u) = refl
    inner (no n) = absurd (n (root_under q))

abbrev CalmAct : {A : Type 0} → Act A → Type 0
CalmAct (gives a τ) = Calm τ
CalmAct (refused why) = Unit {0}
CalmAct (waiting x) = Unit {0}
CalmAct stuck = Unit {0}

act_calm : (o : Op) (s : Path) (body : Bool) (σ : St) → Calm σ → CalmAct (act o s root body σ)
unfolding act
act_calm (charge n) s body σ h = h
act_calm (known_at c) s body σ h = inner (σ.known c)
  where
    inner : (k : Option Known) → CalmAct (act_known k σ)
    inner (Some k) = h
    inner None = tt
act_calm (make paid (Frame p)) s body σ h = calm_like refl refl h
act_calm (make paid (Plain None)) s body σ h = calm_like refl refl h
act_calm (make paid (Plain (Some p))) s body σ h = inner (σ.known p)
  where
    inner : (k : Option Known) → CalmAct (act_chained k p s (Plain (Some p)) σ)
    inner (Some k) = calm_like refl refl h
    inner None = tt
act_calm (make paid Array) s body σ h = calm_like refl refl h
act_calm (make paid (Function n f)) s body σ h = calm_like refl refl h
act_calm (make paid (BuiltIn w)) s body σ h = calm_like refl refl h
act_calm (change paid c e) s body σ h = inner (σ.known c)
  where
    inner : (k : Option Known) → CalmAct (act_change k root c e σ)
    inner (Some k) = record {
      opened = not_opened (home c) σ.opened (write_all root c (writes e (σ.props c)) σ.opened) ∙ h.opened;
      verdict = rw (h.opened, h.verdict) (none_touched root c (touches e (σ.props c)));
    }
    inner None = tt
act_calm (print line) s body σ h = calm_like refl refl h
act_calm (join wanted) s body σ h = inner body (any_gone s σ.gone) (too_many wanted σ.vals)
  where
    inner : (body g t : Bool) → CalmAct (act_join body g t s σ)
    inner true g t = tt
    inner false true t = tt
    inner false false true = tt
    inner false false false = record { opened = rw h.opened refl; verdict = h.verdict }
act_calm forks_here s body σ h = inner body
  where
    inner : (body : Bool) → CalmAct (act_forks body σ)
    inner true = tt
    inner false = h
act_calm crash s body σ h = tt

once_calm : (σ : St) → Calm σ → Calm (once_call root (next_call σ))
once_calm σ h = record { opened = h.opened; verdict = rw (h.opened, h.verdict) refl }

-- A result is calm where no fork was counted.
abbrev pub CalmFrom : Rest → Res → Type 0
CalmFrom w r = r.rest.forks ≡ w.forks → Calm r.st

abbrev pub CalmK : {A : Type 0} → (A → St → Rest → Res) → Type 0
CalmK {A} k = (a : A) (τ : St) (w : Rest) → Calm τ → CalmFrom w (k a τ w)

drew_forks : (q : Question) (w : Rest) → (drew q w).forks ≡ w.forks
drew_forks (posts t) w = refl
drew_forks (replies t) w = refl
drew_forks (draws m) w = refl

steps_calm : {A : Type 0} (g : Small A) (E : World) (T : List Rec) (s : Path) (body : Bool) (k : A → St → Rest → Res) → CalmK k →
    (σ : St) (w : Rest) → Calm σ → CalmFrom w (run_steps g E T s root body k σ w)
unfolding run_steps
steps_calm (give a) E T s body k h σ w c = h a σ w c
steps_calm (refuse why) E T s body k h σ w c = λ e. c
steps_calm lost E T s body k h σ w c = λ e. c
steps_calm (step o go) E T s body k h σ w c = paid (nat_lt w.left (op_cost o σ)) (act_calm o s body σ c) (λ a τ w' c'. steps_calm (go a) E T s body k h τ w' c')
  where
    inner : (X : Act (AnswerTo o)) → CalmAct X → (w' : Rest) → w'.forks ≡ w.forks → ((a : AnswerTo o) (τ : St) (w' : Rest) → Calm τ → CalmFrom w' (run_steps (go a) E T s root body k τ w')) →
        CalmFrom w (on_act X σ w' (λ a τ w''. run_steps (go a) E T s root body k τ w''))
    inner (gives a τ) x w' z ih = λ e. ih a τ w' x (e ∙ sym z)
    inner (refused why) x w' z ih = λ e. c
    inner (waiting y) x w' z ih = λ e. c
    inner stuck x w' z ih = λ e. c

    paid : (t : Bool) → CalmAct (act o s root body σ) → ((a : AnswerTo o) (τ : St) (w' : Rest) → Calm τ → CalmFrom w' (run_steps (go a) E T s root body k τ w')) →
        CalmFrom w (pay_if t (op_cost o σ) σ w (λ w'. on_act (act o s root body σ) σ w' (λ a τ w''. run_steps (go a) E T s root body k τ w'')))
    paid true x ih = λ e. c
    paid false x ih = inner (act o s root body σ) x _ refl ih
steps_calm (ask q go) E T s body k h σ w c = inner (find (sub σ.calls s) T) (below (sub σ.calls s) T) (fresh q E w.drawn (sub σ.calls s))
    (λ a w'. steps_calm (go a) E T s body k h (next_call σ) w' (calm_like refl refl c))
  where
    next : Calm (next_call σ)
    next = calm_like refl refl c

    on : (o : Option (AnsOf q)) (d : Divergence) → ((a : AnsOf q) (w' : Rest) → CalmFrom w' (run_steps (go a) E T s root body k (next_call σ) w')) →
        CalmFrom w (on_kept o d (next_call σ) w (λ a w'. run_steps (go a) E T s root body k (next_call σ) w'))
    on (Some a) d ih = ih a w
    on None d ih = λ e. next

    inner : (o : Option Rec) (t : Bool) (n : Option (Fresh q)) → ((a : AnsOf q) (w' : Rest) → CalmFrom w' (run_steps (go a) E T s root body k (next_call σ) w')) →
        CalmFrom w (on_ask q o t n E (sub σ.calls s) (next_call σ) w (λ a w'. run_steps (go a) E T s root body k (next_call σ) w'))
    inner (Some (rec r x)) t n ih = on (kept_answer q E.session (sub σ.calls s) x) _ ih
    inner None true n ih = λ e. next
    inner None false (Some f) ih = λ e. ih f.answer (drew q w) (e ∙ sym (drew_forks q w))
    inner None false None ih = λ e. next

body_end_calm : (E : World) (T : List Rec) (s : Path) → CalmK (body_end E T s root)
body_end_calm E T s (Normal v) τ w c = steps_calm (taking v) E T s true _ (λ d τ w c e. c) τ w c
body_end_calm E T s Break τ w c = steps_calm (taking Undefined) E T s true _ (λ d τ w c e. c) τ w c
body_end_calm E T s Continue τ w c = steps_calm (taking Undefined) E T s true _ (λ d τ w c e. c) τ w c
body_end_calm E T s (Return v) τ w c = steps_calm (taking v) E T s true _ (λ d τ w c e. c) τ w c
body_end_calm E T s (Throw v) τ w c = λ e. c

once_goes_calm : (E : World) (T : List Rec) (s : Path) (body : Bool) (k : Outcome → St → Rest → Res) → CalmK k → CalmK (once_goes E T s root body k)
once_goes_calm E T s body k h (ret x) τ w c = steps_calm (put_data (data_in x)) E T s body _ (λ v τ w c. h (Normal v) τ w c) τ w c
once_goes_calm E T s body k h (thr v) τ w c = h (Throw v) τ w c
once_goes_calm E T s body k h (bar y) τ w c = λ e. c

normal_calm : (g : Val → St → Rest → Res) (k : Outcome → St → Rest → Res) → CalmK g → CalmK k → CalmK (on_normal g k)
normal_calm g k hg hk (Normal v) τ w c = hg v τ w c
normal_calm g k hg hk Break τ w c = hk Break τ w c
normal_calm g k hg hk Continue τ w c = hk Continue τ w c
normal_calm g k hg hk (Return v) τ w c = hk (Return v) τ w c
normal_calm g k hg hk (Throw v) τ w c = hk (Throw v) τ w c

turns_calm : (turn : (Outcome → St → Rest → Res) → St → Rest → Res) →
    ((k : Outcome → St → Rest → Res) → RisesK k → (σ : St) (w : Rest) → w.forks ≤ (turn k σ w).rest.forks) →
    ((k : Outcome → St → Rest → Res) → RisesK k → CalmK k → (σ : St) (w : Rest) → Calm σ → CalmFrom w (turn k σ w)) →
    (N : ℕ) (k : Outcome → St → Rest → Res) → RisesK k → CalmK k → (σ : St) (w : Rest) → Calm σ → CalmFrom w (turns N turn k σ w)
unfolding turns
turns_calm turn r h zero k rk hk σ w c = λ e. c
turns_calm turn r h (suc n) k rk hk σ w c = h _ (normal_rises _ k (λ v τ w'. turns_rises turn r n k rk τ w') rk) (normal_calm _ k (λ v τ w' c'. turns_calm turn r h n k rk hk τ w' c') hk) σ w c

between : {l m n : ℕ} → l ≤ m → m ≤ n → n ≡ l → m ≡ l
between a b e = omega (arith, a, b, e)

-- After a once body that ran from the calm state σ₁ and gave r.
after_calm : (o : Out) (r : Res) (p : Path) (σ₁ : St) (w : Rest) (k : End → St → Rest → Res) → RisesK k → CalmK k → Calm σ₁ → w.forks ≤ r.rest.forks → CalmFrom w r → CalmFrom w (after_body o r p σ₁ k)
after_calm (ended (ret x)) r p σ₁ w k rk hk c l h = λ e. let z : r.rest.forks ≡ w.forks = between l (rk (ret (datum (data_in x))) σ₁ r.rest) e in hk _ σ₁ r.rest c (e ∙ sym z)
after_calm (ended (thr v)) r p σ₁ w k rk hk c l h = λ e. let z : r.rest.forks ≡ w.forks = between l (rk (thr v) (leave σ₁ r.st) r.rest) e in hk (thr v) (leave σ₁ r.st) r.rest (calm_like refl refl (h z)) (e ∙ sym z)
after_calm (ended (bar y)) r p σ₁ w k rk hk c l h = h
after_calm waits r p σ₁ w k rk hk c l h = h
after_calm (halted y) r p σ₁ w k rk hk c l h = h

not_more : {m n : ℕ} → suc m ≤ n → n ≡ m → ⊥
not_more a e = omega (arith, a, e)

pub run_calm : (g : Prog) (E : World) (T : List Rec) (N : ℕ) (s : Path) (body : Bool) (k : Outcome → St → Rest → Res) → RisesK k → CalmK k →
    (σ : St) (w : Rest) → Calm σ → CalmFrom w (run g E T N s root body k σ w)
unfolding run
run_calm (Done o) E T N s body k rk h σ w c = h o σ w c
run_calm (Ask p go) E T N s body k rk h σ w c = steps_calm (steps_of p) E T s body _ (λ a τ w' c'. run_calm (go a) E T N s body k rk h τ w' c') σ w c
run_calm (Then g go) E T N s body k rk h σ w c = run_calm g E T N s body _ (normal_rises _ k (λ v τ w'. run_rises (go v) E T N s root body k rk τ w') rk)
    (normal_calm _ k (λ v τ w' c'. run_calm (go v) E T N s body k rk h τ w' c') h) σ w c
run_calm (Always g go) E T N s body k rk h σ w c = run_calm g E T N s body _ (λ o τ w'. run_rises (go o) E T N s root body k rk τ w')
    (λ o τ w' c'. run_calm (go o) E T N s body k rk h τ w' c') σ w c
run_calm (Once g) E T N s body k rk h σ w c = inner (find (sub σ.calls s) T)
    (run_rises g E T N (sub σ.calls s) root true _ (body_end_rises E T (sub σ.calls s) root) (enter (once_call root (next_call σ))) w)
    (run_calm g E T N (sub σ.calls s) true _ (body_end_rises E T (sub σ.calls s) root) (body_end_calm E T (sub σ.calls s)) (enter (once_call root (next_call σ))) w (calm_like refl refl (once_calm σ c)))
    (once_goes_rises E T s root body k rk) (once_goes_calm E T s body k h)
  where
    inner : (o : Option Rec) → w.forks ≤ (run g E T N (sub σ.calls s) root true (body_end E T (sub σ.calls s) root) (enter (once_call root (next_call σ))) w).rest.forks →
        CalmFrom w (run g E T N (sub σ.calls s) root true (body_end E T (sub σ.calls s) root) (enter (once_call root (next_call σ))) w) →
        RisesK (once_goes E T s root body k) → CalmK (once_goes E T s root body k) →
        CalmFrom w (on_once o (once_call root (next_call σ)) w (once_goes E T s root body k) (run g E T N (sub σ.calls s) root true (body_end E T (sub σ.calls s) root) (enter (once_call root (next_call σ))) w) (sub σ.calls s))
    inner (Some (rec q (kept.Once d))) l i r ih = ih (ret (datum d)) (once_call root (next_call σ)) w (once_calm σ c)
    inner (Some (rec q (kept.Post t))) l i r ih = λ e. once_calm σ c
    inner (Some (rec q (kept.Reply t x))) l i r ih = λ e. once_calm σ c
    inner (Some (rec q (kept.Draw m n))) l i r ih = λ e. once_calm σ c
    inner None l i r ih = after_calm (run g E T N (sub σ.calls s) root true (body_end E T (sub σ.calls s) root) (enter (once_call root (next_call σ))) w).out _ (sub σ.calls s) (once_call root (next_call σ)) w _ r ih (once_calm σ c) l i
run_calm (Fork g) E T N s true k rk h σ w c = λ e. c
run_calm (Fork g) E T N s false k rk h σ w c = λ e. absurd (not_more (fork_rises g E T N s k rk σ w
    (run_rises g E T N (sub σ.calls s) (sub σ.calls s) false _ branch_end_rises (enter (next_call σ)) (forked w)) (fork_goes_rises k rk)) e)
run_calm (Loop g) E T N s body k rk h σ w c = turns_calm _ (λ k' r' τ w'. run_rises g E T N s root body k' r' τ w') (λ k' r' h' τ w' c'. run_calm g E T N s body k' r' h' τ w' c') N k rk h σ w c
