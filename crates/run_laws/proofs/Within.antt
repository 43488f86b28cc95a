-- What one run does: the records that it makes are at or after the place where it began, it makes cells in its own
-- scope and below alone, branches stay absent, and a reason against independence stays.
use Rattle.std.specs.Prelude.{List, Bool, true, false, Option, Some, None, nat_lt}
use Rattle.std.proofs.Common.{◌≡◌, ◌≤◌, ℕ, suc, zero, refl, ap, arith, ◌⊎◌, inl, inr, [], ◌∷◌, ◌++◌, sym, ◌∙◌}
use Rattle.turk_base.specs.declared.Record.{Record}
use Rattle.turk_base.specs.declared.Record.TheVariants as kept
use Rattle.turk_base.specs.Asks.{Question, AnsOf, Rec, rec, path_of, find, below}
use Rattle.turk_base.specs.Cells.{touches}
use Rattle.turk_base.specs.Data.{Data}
use Rattle.turk_base.specs.Names.{Path, sub, Under, self, down, In, first, later, Name, cell, home, name_eq, pick}
use Rattle.turk_base.specs.Prog.{Prog, Done, Ask, Then, Always, Once, Fork, Loop}
use Rattle.turk_base.specs.State.{St, Op, charge, known_at, make, change, print, join, forks_here, crash, AnswerTo, Act, gives, refused, waiting, stuck, act, act_known, act_chained, act_change, act_join, act_forks, make_cell, op_cost, any_gone, too_many, independent, once_call, next_call, enter, leave, give_value, cut_all, threw, absent}
use Rattle.turk_base.specs.Steps.{Small, give, refuse, lost, step, ask, taking, put_data, steps_of}
use Rattle.turk_base.specs.Values.{Val, Undefined, Kind, Frame, Plain, Array, Function, BuiltIn, Known, Outcome, Normal, Break, Continue, Return, Throw}
use Rattle.js_tree.specs.Run.{valued, datum, value_in, data_in, End, ret, thr, bar, spent, missing, Out, ended, waits, halted, Res, res, add, pay_if, on_act, on_kept, on_ask, run_steps, branch_end, body_end, after_body, on_once, once_goes, after_branch, on_fork, fork_goes, forked, on_normal, turns, run}
use Rattle.js_tree.specs.World.{World, Divergence, kept_answer, Fresh, fresh, Rest, drew}
use Rattle.run_laws.proofs.Lists.{first_clean, touch_clean}
use Rattle.run_laws.proofs.Paths.{up}
use Rattle.run_laws.proofs.Props.{in_split, in_one}
use native.Mathlib.Nat.{le_refl, le_trans}

-- q is at or below a call of s from number c on
abbrev pub After : Path → ℕ → Path → Type 0
After s c q = (i : ℕ) × (c ≤ i) × Under (sub i s) q

pub record Keeps (s : Path) (σ τ : St) : Type 0 where
  pub known : (n : Name) → ¬ (Under s (home n)) → τ.known n ≡ σ.known n
  pub more : {a : Path} → In Path a σ.gone → In Path a τ.gone
  pub new : {a : Path} → In Path a τ.gone → In Path a σ.gone ⊎ Under s a
  pub clean : τ.verdict ≡ independent → σ.verdict ≡ independent

-- the answer of an ask without a record
abbrev pub said : {q : Question} → Option (Fresh q) → Option (AnsOf q)
said (Some f) = Some f.answer
said None = None

-- a record that a run in the world E made: a once record, or the answer of an ask
pub data Born (E : World) (p : Path) : Record → Type 0 where
  asked : (q : Question) → (k : ℕ) → (f : Fresh q) → fresh q E k p ≡ Some f → Born E p f.what
  done : (d : Data) → Born E p (kept.Once d)

abbrev pub Told : World → Rec → Type 0
Told E (rec p x) = Born E p x

abbrev pub MadeOk : World → Path → ℕ → Rec → Type 0
MadeOk E s c q = After s c (path_of q) × Told E q

pub record Within (E : World) (s : Path) (c : ℕ) (σ : St) (r : Res) : Type 0 where
  pub made : {q : Rec} → In Rec q r.made → MadeOk E s c q
  pub ends : {e : End} → r.out ≡ ended e → Keeps s σ r.st

pub keeps_refl : {s : Path} {σ : St} → Keeps s σ σ
keeps_refl = record { known = λ n u. refl; more = λ h. h; new = λ h. inl h; clean = λ e. e }

pub keeps_like : {s : Path} {σ τ : St} → τ.known ≡ σ.known → τ.gone ≡ σ.gone → τ.verdict ≡ σ.verdict → Keeps s σ τ
keeps_like h g v = record { known = λ n u. ap (λ f. f n) h; more = λ m. rw g m; new = λ m. inl (rw g at m); clean = λ e. sym v ∙ e }

pub keeps_trans : {s : Path} {ρ σ τ : St} → Keeps s ρ σ → Keeps s σ τ → Keeps s ρ τ
keeps_trans h k = record {
  known = λ n u. k.known n u ∙ h.known n u;
  more = λ m. k.more (h.more m);
  new = λ m. elim (k.new m) [ inl a ↦ h.new a | inr u ↦ inr u ];
  clean = λ e. h.clean (k.clean e);
}

pub keeps_sub : {s : Path} {c : ℕ} {σ τ : St} → Keeps (sub c s) σ τ → Keeps s σ τ
keeps_sub k = record {
  known = λ n u. k.known n (λ v. u (up v));
  more = k.more;
  new = λ m. elim (k.new m) [ inl a ↦ inl a | inr u ↦ inr (up u) ];
  clean = k.clean;
}

-- What a step keeps.
abbrev pub ActKept : {A : Type 0} → Path → St → Act A → Type 0
ActKept s σ (gives a τ) = Keeps s σ τ × (τ.calls ≡ σ.calls)
ActKept s σ (refused why) = Unit {0}
ActKept s σ (waiting x) = Unit {0}
ActKept s σ stuck = Unit {0}

kept_make : (s : Path) (k : Kind) (l : List Name) (σ : St) → Keeps s σ (make_cell s k l σ)
kept_make s k l σ = record { known = λ n u. inner n u (name_eq n (cell s σ.cells)); more = λ h. h; new = λ h. inl h; clean = λ e. e }
  where
    inner : (n : Name) → ¬ (Under s (home n)) → (d : Dec (n ≡ cell s σ.cells)) → pick d (Some (record { kind = k; chain = l })) (σ.known n) ≡ σ.known n
    inner n u (yes e) = absurd (u (rw e self))
    inner n u (no m) = refl

pub act_kept : (o : Op) (s b : Path) (body : Bool) (σ : St) → ActKept s σ (act o s b body σ)
unfolding act
act_kept (charge n) s b body σ = (keeps_refl, refl)
act_kept (known_at c) s b body σ = inner (σ.known c)
  where
    inner : (h : Option Known) → ActKept s σ (act_known h σ)
    inner (Some k) = (keeps_refl, refl)
    inner None = tt
act_kept (make paid (Frame p)) s b body σ = (kept_make s _ _ σ, refl)
act_kept (make paid (Plain None)) s b body σ = (kept_make s _ _ σ, refl)
act_kept (make paid (Plain (Some p))) s b body σ = inner (σ.known p)
  where
    inner : (h : Option Known) → ActKept s σ (act_chained h p s (Plain (Some p)) σ)
    inner (Some k) = (kept_make s _ _ σ, refl)
    inner None = tt
act_kept (make paid Array) s b body σ = (kept_make s _ _ σ, refl)
act_kept (make paid (Function n f)) s b body σ = (kept_make s _ _ σ, refl)
act_kept (make paid (BuiltIn w)) s b body σ = (kept_make s _ _ σ, refl)
act_kept (change paid c e) s b body σ = inner (σ.known c)
  where
    inner : (h : Option Known) → ActKept s σ (act_change h b c e σ)
    inner (Some k) = (record { known = λ n u. refl; more = λ h. h; new = λ h. inl h; clean = touch_clean b c (touches e (σ.props c)) σ.opened σ.verdict }, refl)
    inner None = tt
act_kept (print line) s b body σ = (keeps_like refl refl refl, refl)
act_kept (join wanted) s b body σ = inner body (any_gone s σ.gone) (too_many wanted σ.vals)
  where
    inner : (body g t : Bool) → ActKept s σ (act_join body g t s σ)
    inner true g t = tt
    inner false true t = tt
    inner false false true = tt
    inner false false false = (keeps_like refl refl refl, refl)
act_kept forks_here s b body σ = inner body
  where
    inner : (body : Bool) → ActKept s σ (act_forks body σ)
    inner true = tt
    inner false = (keeps_refl, refl)
act_kept crash s b body σ = tt

pub keeps_same : {s : Path} {σ σ' τ : St} → σ'.known ≡ σ.known → σ'.gone ≡ σ.gone → σ'.verdict ≡ σ.verdict → Keeps s σ' τ → Keeps s σ τ
keeps_same h g v k = keeps_trans (keeps_like h g v) k

after_up : (E : World) (q : Rec) {s : Path} {c k : ℕ} → c ≤ k → MadeOk E (sub k s) 0 q → MadeOk E s c q
after_up E q {k = k} h a = ((k, h, up a.0.2), a.1)

pub within_res : {E : World} {s : Path} {c : ℕ} {σ : St} (o : Out) (w : Rest) → Within E s c σ (res o σ w)
within_res o w = record { made = λ h. elim h [ ]; ends = λ e. keeps_refl }

pub within_step : {E : World} {s : Path} {c c' : ℕ} {σ τ : St} {r : Res} → c ≤ c' → Keeps s σ τ → Within E s c' τ r → Within E s c σ r
within_step h k w = record {
  made = λ m. let a = w.made m in ((a.0.0, le_trans h a.0.1, a.0.2), a.1);
  ends = λ e. keeps_trans k (w.ends e);
}

pub within_add : {E : World} {s : Path} {c : ℕ} {σ : St} {r : Res} (l : List Rec) → ((q : Rec) → In Rec q l → MadeOk E s c q) → Within E s c σ r → Within E s c σ (add l r)
within_add {r = r} l h w = record {
  made = λ m. elim (in_split l r.made m) [ inl a ↦ h _ a | inr b ↦ w.made b ];
  ends = w.ends;
}

-- ---- steps

abbrev pub WithinK : {A : Type 0} → World → Path → (A → St → Rest → Res) → Type 0
WithinK {A} E s k = (a : A) (τ : St) (w : Rest) → Within E s τ.calls τ (k a τ w)

pub steps_within : {A : Type 0} (g : Small A) (E : World) (T : List Rec) (s b : Path) (body : Bool) (k : A → St → Rest → Res) → WithinK E s k →
    (σ : St) (w : Rest) → Within E s σ.calls σ (run_steps g E T s b body k σ w)
unfolding run_steps
steps_within (give a) E T s b body k wk σ w = wk a σ w
steps_within (refuse why) E T s b body k wk σ w = within_res (ended (bar why)) w
steps_within lost E T s b body k wk σ w = within_res (halted missing) w
steps_within (step o go) E T s b body k wk σ w = paid (nat_lt w.left (op_cost o σ)) (act_kept o s b body σ) (λ a τ w'. steps_within (go a) E T s b body k wk τ w')
  where
    inner : (A : Act (AnswerTo o)) → ActKept s σ A → (w' : Rest) → ((a : AnswerTo o) (τ : St) (w' : Rest) → Within E s τ.calls τ (run_steps (go a) E T s b body k τ w')) →
        Within E s σ.calls σ (on_act A σ w' (λ a τ w''. run_steps (go a) E T s b body k τ w''))
    inner (gives a τ) h w' ih = within_step (omega (arith, h.1)) h.0 (ih a τ w')
    inner (refused why) h w' ih = within_res (ended (bar why)) w'
    inner (waiting x) h w' ih = within_res waits _
    inner stuck h w' ih = within_res (halted missing) w'

    paid : (t : Bool) → ActKept s σ (act o s b body σ) → ((a : AnswerTo o) (τ : St) (w' : Rest) → Within E s τ.calls τ (run_steps (go a) E T s b body k τ w')) →
        Within E s σ.calls σ (pay_if t (op_cost o σ) σ w (λ w'. on_act (act o s b body σ) σ w' (λ a τ w''. run_steps (go a) E T s b body k τ w'')))
    paid true h ih = within_res (halted spent) w
    paid false h ih = inner (act o s b body σ) h _ ih
steps_within (ask q go) E T s b body k wk σ w = inner (find (sub σ.calls s) T) (below (sub σ.calls s) T) (fresh q E w.drawn (sub σ.calls s)) refl
    (λ a w'. within_step (omega arith) (keeps_like refl refl refl) (steps_within (go a) E T s b body k wk (next_call σ) w'))
  where
    halt' : (o : Out) (w' : Rest) → Within E s σ.calls σ (res o (next_call σ) w')
    halt' o w' = within_step (le_refl _) (keeps_like refl refl refl) (within_res o w')

    inner : (c : Option Rec) (t : Bool) (n : Option (Fresh q)) → fresh q E w.drawn (sub σ.calls s) ≡ n → ((a : AnsOf q) (w' : Rest) → Within E s σ.calls σ (run_steps (go a) E T s b body k (next_call σ) w')) →
        Within E s σ.calls σ (on_ask q c t n E (sub σ.calls s) (next_call σ) w (λ a w'. run_steps (go a) E T s b body k (next_call σ) w'))
    inner (Some (rec r x)) t n e ih = choose (kept_answer q E.session (sub σ.calls s) x) _
      where
        choose : (o : Option (AnsOf q)) (d : Divergence) → Within E s σ.calls σ (on_kept o d (next_call σ) w (λ a w'. run_steps (go a) E T s b body k (next_call σ) w'))
        choose (Some a) d = ih a w
        choose None d = halt' _ w
    inner None true n e ih = halt' _ w
    inner None false (Some f) e ih = within_add (rec (sub σ.calls s) f.what ∷ []) (λ r m. rw (in_one m) ((σ.calls, le_refl _, self), asked q w.drawn f e)) (ih f.answer (drew q w))
    inner None false None e ih = halt' _ _

-- ---- scopes

-- A scope below that was entered in σ₁, as a part of the run from σ.
module _ (E : World) (s : Path) (σ σ₁ : St) (k : Keeps s σ σ₁) (n : σ₁.calls ≡ suc σ.calls) (r : Res) (w : Within E (sub σ.calls s) 0 (enter σ₁) r) where
  sub_kept : (x : End) → r.out ≡ ended x → Keeps s σ r.st
  sub_kept x e = keeps_trans k (keeps_same refl refl refl (keeps_sub (w.ends e)))

  sub_made : (q : Rec) → In Rec q r.made → MadeOk E s σ.calls q
  sub_made q m = after_up E q (omega arith) (w.made m)

  sub_whole : (o : Out) → ((e : End) → o ≡ ended e → Keeps s σ r.st) → Within E s σ.calls σ (record r { out = o })
  sub_whole o h = record { made = λ m. sub_made _ m; ends = λ {e} z. h e z }

  step_in : {τ : St} {r' : Res} → Keeps s σ τ → τ.calls ≡ suc σ.calls → Within E s τ.calls τ r' → Within E s σ.calls σ r'
  step_in h e w' = within_step (omega (arith, e)) h w'

  module _ (go : End → St → Rest → Res) (ih : WithinK E s go) where
    body_within : (o : Out) → r.out ≡ o → Within E s σ.calls σ (after_body o r (sub σ.calls s) σ₁ go)
    body_within (ended (ret x)) e = within_add (r.made ++ (rec (sub σ.calls s) (kept.Once (data_in x)) ∷ []))
        (λ q m. elim (in_split r.made _ m) [ inl a ↦ sub_made q a | inr b ↦ rw (in_one b) ((σ.calls, omega arith, self), done (data_in x)) ])
        (step_in k n (ih (ret (datum (data_in x))) σ₁ r.rest))
    body_within (ended (thr v)) e = within_add r.made sub_made
        (step_in (keeps_trans (sub_kept _ e) (keeps_like refl refl refl)) n (ih (thr v) (leave σ₁ r.st) r.rest))
    body_within (ended (bar why)) e = sub_whole r.out sub_kept
    body_within waits e = sub_whole r.out sub_kept
    body_within (halted why) e = sub_whole r.out sub_kept

    absent_within : Within E s σ.calls σ (add r.made (go (ret (valued Undefined)) (absent (sub σ.calls s) σ₁) r.rest))
    absent_within = within_add r.made sub_made (step_in (keeps_trans k absent_kept) n (ih (ret (valued Undefined)) (absent (sub σ.calls s) σ₁) r.rest))
      where
        absent_kept : Keeps s σ₁ (absent (sub σ.calls s) σ₁)
        absent_kept = record { known = λ n u. refl; more = λ h. later h; new = new_one; clean = λ e. e }
          where
            new_one : {a : Path} → In Path a (sub σ.calls s ∷ σ₁.gone) → In Path a σ₁.gone ⊎ Under s a
            new_one first = inr (down self)
            new_one (later h) = inl h

    branch_within : (g : Bool) (o : Out) → r.out ≡ o → Within E s σ.calls σ (after_branch g o r (sub σ.calls s) σ₁ go)
    branch_within false (ended (ret x)) e = within_add r.made sub_made
        (step_in (keeps_trans (sub_kept _ e) (keeps_like refl refl refl)) n (ih (ret (valued Undefined)) (give_value (value_in x) (leave σ₁ (cut_all (sub σ.calls s) r.st))) r.rest))
    branch_within false (ended (thr v)) e = within_add r.made sub_made
        (step_in (keeps_trans (sub_kept _ e) (record { known = λ n u. refl; more = λ h. h; new = λ h. inl h; clean = first_clean r.st.verdict _ })) n
        (ih (thr v) (threw (sub σ.calls s) (leave σ₁ (cut_all (sub σ.calls s) r.st))) r.rest))
    branch_within false (ended (bar why)) e = sub_whole r.out sub_kept
    branch_within true (ended x) e = absent_within
    branch_within false waits e = absent_within
    branch_within true waits e = absent_within
    branch_within false (halted why) e = sub_whole r.out sub_kept
    branch_within true (halted why) e = sub_whole r.out sub_kept

pub branch_end_within : (E : World) (s : Path) → WithinK E s branch_end
branch_end_within E s (Normal v) τ w = within_res _ w
branch_end_within E s Break τ w = within_res _ w
branch_end_within E s Continue τ w = within_res _ w
branch_end_within E s (Return v) τ w = within_res _ w
branch_end_within E s (Throw v) τ w = within_res _ w

pub body_end_within : (E : World) (T : List Rec) (s b : Path) → WithinK E s (body_end E T s b)
body_end_within E T s b (Normal v) τ w = steps_within (taking v) E T s b true _ (λ d τ w'. within_res _ w') τ w
body_end_within E T s b Break τ w = steps_within (taking Undefined) E T s b true _ (λ d τ w'. within_res _ w') τ w
body_end_within E T s b Continue τ w = steps_within (taking Undefined) E T s b true _ (λ d τ w'. within_res _ w') τ w
body_end_within E T s b (Return v) τ w = steps_within (taking v) E T s b true _ (λ d τ w'. within_res _ w') τ w
body_end_within E T s b (Throw v) τ w = within_res _ w

pub once_goes_within : (E : World) (T : List Rec) (s b : Path) (body : Bool) (k : Outcome → St → Rest → Res) → WithinK E s k → WithinK E s (once_goes E T s b body k)
once_goes_within E T s b body k wk (ret x) τ w = steps_within (put_data (data_in x)) E T s b body _ (λ v τ w'. wk (Normal v) τ w') τ w
once_goes_within E T s b body k wk (thr v) τ w = wk (Throw v) τ w
once_goes_within E T s b body k wk (bar why) τ w = within_res _ w

pub fork_goes_within : (E : World) (s : Path) (k : Outcome → St → Rest → Res) → WithinK E s k → WithinK E s (fork_goes k)
fork_goes_within E s k wk (ret x) τ w = wk (Normal Undefined) τ w
fork_goes_within E s k wk (thr v) τ w = wk (Throw v) τ w
fork_goes_within E s k wk (bar why) τ w = within_res _ w

pub normal_within : (E : World) (s : Path) (go : Val → St → Rest → Res) (k : Outcome → St → Rest → Res) → WithinK E s go → WithinK E s k → WithinK E s (on_normal go k)
normal_within E s go k wg wk (Normal v) τ w = wg v τ w
normal_within E s go k wg wk Break τ w = wk Break τ w
normal_within E s go k wg wk Continue τ w = wk Continue τ w
normal_within E s go k wg wk (Return v) τ w = wk (Return v) τ w
normal_within E s go k wg wk (Throw v) τ w = wk (Throw v) τ w

pub turns_within : (E : World) (s : Path) (N : ℕ) (turn : (Outcome → St → Rest → Res) → St → Rest → Res) →
    ((k : Outcome → St → Rest → Res) → WithinK E s k → (σ : St) (w : Rest) → Within E s σ.calls σ (turn k σ w)) →
    (k : Outcome → St → Rest → Res) → WithinK E s k → (σ : St) (w : Rest) → Within E s σ.calls σ (turns N turn k σ w)
unfolding turns
turns_within E s zero turn h k wk σ w = within_res _ w
turns_within E s (suc n) turn h k wk σ w = h _ (normal_within E s _ k (λ v τ w'. turns_within E s n turn h k wk τ w') wk) σ w

pub run_within : (g : Prog) (E : World) (T : List Rec) (N : ℕ) (s b : Path) (body : Bool) (k : Outcome → St → Rest → Res) → WithinK E s k →
    (σ : St) (w : Rest) → Within E s σ.calls σ (run g E T N s b body k σ w)
unfolding run
run_within (Done o) E T N s b body k wk σ w = wk o σ w
run_within (Ask p go) E T N s b body k wk σ w = steps_within (steps_of p) E T s b body _ (λ a τ w'. run_within (go a) E T N s b body k wk τ w') σ w
run_within (Then g go) E T N s b body k wk σ w = run_within g E T N s b body _ (normal_within E s _ k (λ v τ w'. run_within (go v) E T N s b body k wk τ w') wk) σ w
run_within (Always g go) E T N s b body k wk σ w = run_within g E T N s b body _ (λ o τ w'. run_within (go o) E T N s b body k wk τ w') σ w
run_within (Once g) E T N s b body k wk σ w = inner (find (sub σ.calls s) T)
    (run_within g E T N (sub σ.calls s) b true _ (body_end_within E T (sub σ.calls s) b) (enter (once_call b (next_call σ))) w)
    (once_goes_within E T s b body k wk)
  where
    once_kept : Keeps s σ (once_call b (next_call σ))
    once_kept = record { known = λ n u. refl; more = λ h. h; new = λ h. inl h; clean = first_clean σ.verdict _ }

    inner : (c : Option Rec) →
        Within E (sub σ.calls s) 0 (enter (once_call b (next_call σ))) (run g E T N (sub σ.calls s) b true (body_end E T (sub σ.calls s) b) (enter (once_call b (next_call σ))) w) →
        WithinK E s (once_goes E T s b body k) →
        Within E s σ.calls σ (on_once c (once_call b (next_call σ)) w (once_goes E T s b body k)
        (run g E T N (sub σ.calls s) b true (body_end E T (sub σ.calls s) b) (enter (once_call b (next_call σ))) w) (sub σ.calls s))
    inner (Some (rec q (kept.Once d))) h ih = within_step (omega arith) once_kept (ih (ret (datum d)) (once_call b (next_call σ)) w)
    inner (Some (rec q (kept.Post t))) h ih = within_step (le_refl _) once_kept (within_res _ w)
    inner (Some (rec q (kept.Reply t x))) h ih = within_step (le_refl _) once_kept (within_res _ w)
    inner (Some (rec q (kept.Draw m n))) h ih = within_step (le_refl _) once_kept (within_res _ w)
    inner None h ih = body_within E s σ (once_call b (next_call σ)) once_kept refl _ h _ ih _ refl
run_within (Fork g) E T N s b true k wk σ w = within_res _ w
run_within (Fork g) E T N s b false k wk σ w = inner (find (sub σ.calls s) T)
    (run_within g E T N (sub σ.calls s) (sub σ.calls s) false _ (branch_end_within E (sub σ.calls s)) (enter (next_call σ)) (forked w))
    (fork_goes_within E s k wk)
  where
    inner : (c : Option Rec) →
        Within E (sub σ.calls s) 0 (enter (next_call σ)) (run g E T N (sub σ.calls s) (sub σ.calls s) false branch_end (enter (next_call σ)) (forked w)) →
        WithinK E s (fork_goes k) →
        Within E s σ.calls σ (on_fork c (next_call σ) (forked w) (fork_goes k)
        (run g E T N (sub σ.calls s) (sub σ.calls s) false branch_end (enter (next_call σ)) (forked w)) (sub σ.calls s))
    inner (Some (rec q x)) h ih = within_step (le_refl _) (keeps_like refl refl refl) (within_res _ _)
    inner None h ih = branch_within E s σ (next_call σ) (keeps_like refl refl refl) refl _ h _ ih _ _ refl
run_within (Loop g) E T N s b body k wk σ w = turns_within E s N _ (λ k' wk' τ w'. run_within g E T N s b body k' wk' τ w') k wk σ w
