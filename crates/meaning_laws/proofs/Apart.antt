-- The records that a run makes have distinct paths, and none of these has a record in the trace.
use Rattle.std.specs.Prelude.{List, Bool, true, false, Option, Some, None, nat_lt}
use Rattle.std.proofs.Common.{◌≡◌, ◌≤◌, ℕ, suc, zero, refl, ap, arith, inl, inr, [], ◌∷◌, ◌++◌, sym, ◌∙◌, subst}
use Rattle.turk_base.specs.declared.Record.{Record}
use Rattle.turk_base.specs.declared.Record.TheVariants as kept
use Rattle.turk_base.specs.Asks.{AnsOf, Rec, rec, path_of, find, below}
use Rattle.turk_base.specs.Names.{Path, sub, Under, self, In, first, later}
use Rattle.turk_base.specs.Prog.{Prog, Done, Ask, Then, Always, Once, Fork, Loop}
use Rattle.turk_base.specs.State.{St, AnswerTo, op_cost, Act, gives, refused, waiting, stuck, act, any_gone, once_call, next_call, enter, leave, absent, give_value, cut_all, threw}
use Rattle.turk_base.specs.Steps.{Small, give, refuse, lost, step, ask, taking, put_data, steps_of}
use Rattle.turk_base.specs.Values.{Val, Undefined, Outcome, Normal, Break, Continue, Return, Throw}
use Rattle.js_tree.specs.Run.{datum, value_in, data_in, End, ret, thr, bar, Out, ended, waits, halted, Res, add, pay_if, on_act, on_kept, on_ask, run_steps, branch_end, body_end, after_body, on_once, once_goes, after_branch, on_fork, fork_goes, forked, on_normal, turns, run}
use Rattle.js_tree.specs.World.{World, Divergence, kept_answer, Fresh, fresh, Rest, drew}
use Rattle.run_laws.proofs.Within.{After, ActKept, act_kept}
use Rattle.run_laws.proofs.Paths.{up, one_index, not_below}
use Rattle.run_laws.proofs.Props.{in_split, in_one}
use Rattle.meaning_laws.specs.Laws.{Distinct}
use native.Mathlib.Nat.{le_refl, le_trans}

-- What a run in the scope s from the call c on has made.
pub record Apart (T : List Rec) (s : Path) (c : ℕ) (l : List Rec) : Type 0 where
  pub after : (q : Rec) → In Rec q l → After s c (path_of q)
  pub new : (q : Rec) → In Rec q l → find (path_of q) T ≡ None
  pub distinct : Distinct l

-- What a scope at the path p, or the call there, has made.
record Block (T : List Rec) (p : Path) (l : List Rec) : Type 0 where
  inside : (q : Rec) → In Rec q l → Under p (path_of q)
  fresh : (q : Rec) → In Rec q l → find (path_of q) T ≡ None
  apart : Distinct l

apart_none : {T : List Rec} {s : Path} {c : ℕ} → Apart T s c []
apart_none = record { after = λ q m. elim m [ ]; new = λ q m. elim m [ ]; distinct = tt }

apart_from : {T : List Rec} {s : Path} {c d : ℕ} {l : List Rec} → c ≤ d → Apart T s d l → Apart T s c l
apart_from h a = record { after = λ q m. let z = a.after q m in (z.0, le_trans h z.1, z.2); new = a.new; distinct = a.distinct }

distinct_both : (l m : List Rec) → Distinct l → Distinct m → ((q r : Rec) → In Rec q l → In Rec r m → path_of r ≡ path_of q → ⊥) → Distinct (l ++ m)
distinct_both [] m a b h = b
distinct_both (q ∷ l) m a b h = (
  (λ r i. elim (in_split l _ i) [ inl x ↦ a.0 r x | inr y ↦ h q r first y ]),
  distinct_both l m a.1 b (λ x y i j. h x y (later i) j),
)

-- records of a block at the call c, then those from the next call on
block_then : {T : List Rec} {s : Path} {c : ℕ} (l m : List Rec) → Block T (sub c s) l → Apart T s (suc c) m → Apart T s c (l ++ m)
block_then {s = s} {c = c} l m b a = record {
  after = λ q i. elim (in_split l _ i) [
    | inl x ↦ (c, le_refl c, b.inside q x)
    | inr y ↦ later_call q y
  ];
  new = λ q i. elim (in_split l _ i) [ inl x ↦ b.fresh q x | inr y ↦ a.new q y ];
  distinct = distinct_both l m b.apart a.distinct (λ q r i j e. apart q r (b.inside q i) (a.after r j) e);
}
  where
    later_call : (q : Rec) → In Rec q m → After s c (path_of q)
    later_call q y = let z = a.after q y in (z.0, omega (arith, z.1), z.2)

    apart : (q r : Rec) → Under (sub c s) (path_of q) → After s (suc c) (path_of r) → path_of r ≡ path_of q → ⊥
    apart q r u z e = let i = one_index (subst (λ p. Under (sub z.0 s) p) e z.2) u in let h = z.1 in omega (arith, i, h)

block_in : {T : List Rec} {p : Path} {l : List Rec} → Apart T p 0 l → Block T p l
block_in a = record { inside = λ q m. up (a.after q m).2; fresh = a.new; apart = a.distinct }

block_one : (T : List Rec) (p : Path) (x : Record) → find p T ≡ None → Block T p (rec p x ∷ [])
block_one T p x e = record { inside = λ q m. rw (in_one m) self; fresh = λ q m. rw (in_one m) e; apart = ((λ r m. elim m [ ]), tt) }

-- a body's records, and its own
block_last : (T : List Rec) (p : Path) (x : Record) (l : List Rec) → find p T ≡ None → Apart T p 0 l → Block T p (l ++ (rec p x ∷ []))
block_last T p x l e a = record {
  inside = λ q m. elim (in_split l _ m) [ inl i ↦ up (a.after q i).2 | inr j ↦ rw (in_one j) self ];
  fresh = λ q m. elim (in_split l _ m) [ inl i ↦ a.new q i | inr j ↦ rw (in_one j) e ];
  apart = distinct_both l (rec p x ∷ []) a.distinct ((λ r m. elim m [ ]), tt) (λ q r i j z. not_below (subst (λ y. Under (sub (a.after q i).0 p) y) (sym z ∙ ap path_of (in_one j)) (a.after q i).2));
}

whole : {T : List Rec} {s : Path} {c : ℕ} {l : List Rec} → Block T (sub c s) l → Apart T s c l
whole {s = s} {c = c} b = record { after = λ q m. (c, le_refl c, b.inside q m); new = b.fresh; distinct = b.apart }

abbrev pub ApartK : {A : Type 0} → List Rec → Path → (A → St → Rest → Res) → Type 0
ApartK {A} T s k = (a : A) (τ : St) (w : Rest) → Apart T s τ.calls (k a τ w).made

pub steps_apart : {A : Type 0} (g : Small A) (E : World) (T : List Rec) (s b : Path) (body : Bool) (k : A → St → Rest → Res) → ApartK T s k →
    (σ : St) (w : Rest) → Apart T s σ.calls (run_steps g E T s b body k σ w).made
unfolding run_steps
steps_apart (give a) E T s b body k h σ w = h a σ w
steps_apart (refuse why) E T s b body k h σ w = apart_none
steps_apart lost E T s b body k h σ w = apart_none
steps_apart (step o go) E T s b body k h σ w = paid (nat_lt w.left (op_cost o σ)) (act_kept o s b body σ) (λ a τ w'. steps_apart (go a) E T s b body k h τ w')
  where
    inner : (X : Act (AnswerTo o)) → ActKept s σ X → (w' : Rest) → ((a : AnswerTo o) (τ : St) (w' : Rest) → Apart T s τ.calls (run_steps (go a) E T s b body k τ w').made) →
        Apart T s σ.calls (on_act X σ w' (λ a τ w''. run_steps (go a) E T s b body k τ w'')).made
    inner (gives a τ) x w' ih = apart_from (omega (arith, x.1)) (ih a τ w')
    inner (refused why) x w' ih = apart_none
    inner (waiting y) x w' ih = apart_none
    inner stuck x w' ih = apart_none

    paid : (t : Bool) → ActKept s σ (act o s b body σ) → ((a : AnswerTo o) (τ : St) (w' : Rest) → Apart T s τ.calls (run_steps (go a) E T s b body k τ w').made) →
        Apart T s σ.calls (pay_if t (op_cost o σ) σ w (λ w'. on_act (act o s b body σ) σ w' (λ a τ w''. run_steps (go a) E T s b body k τ w''))).made
    paid true x ih = apart_none
    paid false x ih = inner (act o s b body σ) x _ ih
steps_apart (ask q go) E T s b body k h σ w = inner (find (sub σ.calls s) T) refl (below (sub σ.calls s) T) (fresh q E w.drawn (sub σ.calls s)) (λ a w'. steps_apart (go a) E T s b body k h (next_call σ) w')
  where
    on : (o : Option (AnsOf q)) (d : Divergence) → ((a : AnsOf q) (w' : Rest) → Apart T s (suc σ.calls) (run_steps (go a) E T s b body k (next_call σ) w').made) →
        Apart T s σ.calls (on_kept o d (next_call σ) w (λ a w'. run_steps (go a) E T s b body k (next_call σ) w')).made
    on (Some a) d ih = apart_from (omega arith) (ih a w)
    on None d ih = apart_none

    inner : (c : Option Rec) → find (sub σ.calls s) T ≡ c → (t : Bool) (n : Option (Fresh q)) → ((a : AnsOf q) (w' : Rest) → Apart T s (suc σ.calls) (run_steps (go a) E T s b body k (next_call σ) w').made) →
        Apart T s σ.calls (on_ask q c t n E (sub σ.calls s) (next_call σ) w (λ a w'. run_steps (go a) E T s b body k (next_call σ) w')).made
    inner (Some (rec r x)) e t n ih = on (kept_answer q E.session (sub σ.calls s) x) _ ih
    inner None e true n ih = apart_none
    inner None e false (Some f) ih = block_then (rec (sub σ.calls s) f.what ∷ []) _ (block_one T (sub σ.calls s) f.what e) (ih f.answer (drew q w))
    inner None e false None ih = apart_none

pub branch_end_apart : (T : List Rec) (s : Path) → ApartK T s branch_end
branch_end_apart T s (Normal v) τ w = apart_none
branch_end_apart T s Break τ w = apart_none
branch_end_apart T s Continue τ w = apart_none
branch_end_apart T s (Return v) τ w = apart_none
branch_end_apart T s (Throw v) τ w = apart_none

body_end_apart : (E : World) (T : List Rec) (s b : Path) → ApartK T s (body_end E T s b)
body_end_apart E T s b (Normal v) τ w = steps_apart (taking v) E T s b true _ (λ d τ w. apart_none) τ w
body_end_apart E T s b Break τ w = steps_apart (taking Undefined) E T s b true _ (λ d τ w. apart_none) τ w
body_end_apart E T s b Continue τ w = steps_apart (taking Undefined) E T s b true _ (λ d τ w. apart_none) τ w
body_end_apart E T s b (Return v) τ w = steps_apart (taking v) E T s b true _ (λ d τ w. apart_none) τ w
body_end_apart E T s b (Throw v) τ w = apart_none

once_goes_apart : (E : World) (T : List Rec) (s b : Path) (body : Bool) (k : Outcome → St → Rest → Res) → ApartK T s k → ApartK T s (once_goes E T s b body k)
once_goes_apart E T s b body k h (ret x) τ w = steps_apart (put_data (data_in x)) E T s b body _ (λ v τ w. h (Normal v) τ w) τ w
once_goes_apart E T s b body k h (thr v) τ w = h (Throw v) τ w
once_goes_apart E T s b body k h (bar y) τ w = apart_none

fork_goes_apart : (T : List Rec) (s : Path) (k : Outcome → St → Rest → Res) → ApartK T s k → ApartK T s (fork_goes k)
fork_goes_apart T s k h (ret x) τ w = h (Normal Undefined) τ w
fork_goes_apart T s k h (thr v) τ w = h (Throw v) τ w
fork_goes_apart T s k h (bar y) τ w = apart_none

normal_apart : (T : List Rec) (s : Path) (g : Val → St → Rest → Res) (k : Outcome → St → Rest → Res) → ApartK T s g → ApartK T s k → ApartK T s (on_normal g k)
normal_apart T s g k hg hk (Normal v) τ w = hg v τ w
normal_apart T s g k hg hk Break τ w = hk Break τ w
normal_apart T s g k hg hk Continue τ w = hk Continue τ w
normal_apart T s g k hg hk (Return v) τ w = hk (Return v) τ w
normal_apart T s g k hg hk (Throw v) τ w = hk (Throw v) τ w

turns_apart : (T : List Rec) (s : Path) (turn : (Outcome → St → Rest → Res) → St → Rest → Res) →
    ((k : Outcome → St → Rest → Res) → ApartK T s k → (σ : St) (w : Rest) → Apart T s σ.calls (turn k σ w).made) →
    (N : ℕ) (k : Outcome → St → Rest → Res) → ApartK T s k → (σ : St) (w : Rest) → Apart T s σ.calls (turns N turn k σ w).made
unfolding turns
turns_apart T s turn h zero k hk σ w = apart_none
turns_apart T s turn h (suc n) k hk σ w = h _ (normal_apart T s _ k (λ v τ w'. turns_apart T s turn h n k hk τ w') hk) σ w

-- After a scope at the call of σ that gave r; the script goes on from the state σ₁, where that call was counted.
module _ (T : List Rec) (s : Path) (c : ℕ) (σ₁ : St) (n : σ₁.calls ≡ suc c) (r : Res) (a : Apart T (sub c s) 0 r.made) (k : End → St → Rest → Res) (h : ApartK T s k) where
  goes_apart : (l : List Rec) (e : End) (τ : St) (w : Rest) → τ.calls ≡ suc c → Block T (sub c s) l → Apart T s c (add l (k e τ w)).made
  goes_apart l e τ w z b = block_then l _ b (subst (λ m. Apart T s m (k e τ w).made) z (h e τ w))

  body_apart : (o : Out) → find (sub c s) T ≡ None → Apart T s c (after_body o r (sub c s) σ₁ k).made
  body_apart (ended (ret x)) e = goes_apart _ _ σ₁ r.rest n (block_last T (sub c s) (kept.Once (data_in x)) r.made e a)
  body_apart (ended (thr v)) e = goes_apart _ _ (leave σ₁ r.st) r.rest n (block_in a)
  body_apart (ended (bar y)) e = whole (block_in a)
  body_apart waits e = whole (block_in a)
  body_apart (halted y) e = whole (block_in a)

  branch_apart : (g : Bool) (o : Out) → Apart T s c (after_branch g o r (sub c s) σ₁ k).made
  branch_apart false (ended (ret x)) = goes_apart _ _ (give_value (value_in x) (leave σ₁ (cut_all (sub c s) r.st))) r.rest n (block_in a)
  branch_apart false (ended (thr v)) = goes_apart _ _ (threw (sub c s) (leave σ₁ (cut_all (sub c s) r.st))) r.rest n (block_in a)
  branch_apart false (ended (bar y)) = whole (block_in a)
  branch_apart true (ended x) = goes_apart _ _ (absent (sub c s) σ₁) r.rest n (block_in a)
  branch_apart false waits = goes_apart _ _ (absent (sub c s) σ₁) r.rest n (block_in a)
  branch_apart true waits = goes_apart _ _ (absent (sub c s) σ₁) r.rest n (block_in a)
  branch_apart false (halted y) = whole (block_in a)
  branch_apart true (halted y) = whole (block_in a)

pub run_apart : (g : Prog) (E : World) (T : List Rec) (N : ℕ) (s b : Path) (body : Bool) (k : Outcome → St → Rest → Res) → ApartK T s k →
    (σ : St) (w : Rest) → Apart T s σ.calls (run g E T N s b body k σ w).made
unfolding run
run_apart (Done o) E T N s b body k h σ w = h o σ w
run_apart (Ask p go) E T N s b body k h σ w = steps_apart (steps_of p) E T s b body _ (λ a τ w'. run_apart (go a) E T N s b body k h τ w') σ w
run_apart (Then g go) E T N s b body k h σ w = run_apart g E T N s b body _ (normal_apart T s _ k (λ v τ w'. run_apart (go v) E T N s b body k h τ w') h) σ w
run_apart (Always g go) E T N s b body k h σ w = run_apart g E T N s b body _ (λ o τ w'. run_apart (go o) E T N s b body k h τ w') σ w
run_apart (Once g) E T N s b body k h σ w = inner (find (sub σ.calls s) T) refl
    (run_apart g E T N (sub σ.calls s) b true _ (body_end_apart E T (sub σ.calls s) b) (enter (once_call b (next_call σ))) w) (once_goes_apart E T s b body k h)
  where
    inner : (c : Option Rec) → find (sub σ.calls s) T ≡ c → Apart T (sub σ.calls s) 0 (run g E T N (sub σ.calls s) b true (body_end E T (sub σ.calls s) b) (enter (once_call b (next_call σ))) w).made → ApartK T s (once_goes E T s b body k) →
        Apart T s σ.calls (on_once c (once_call b (next_call σ)) w (once_goes E T s b body k) (run g E T N (sub σ.calls s) b true (body_end E T (sub σ.calls s) b) (enter (once_call b (next_call σ))) w) (sub σ.calls s)).made
    inner (Some (rec q (kept.Once d))) e a ih = apart_from (omega arith) (ih (ret (datum d)) (once_call b (next_call σ)) w)
    inner (Some (rec q (kept.Post t))) e a ih = apart_none
    inner (Some (rec q (kept.Reply t x))) e a ih = apart_none
    inner (Some (rec q (kept.Draw m n))) e a ih = apart_none
    inner None e a ih = body_apart T s σ.calls (once_call b (next_call σ)) refl _ a _ ih (run g E T N (sub σ.calls s) b true (body_end E T (sub σ.calls s) b) (enter (once_call b (next_call σ))) w).out e
run_apart (Fork g) E T N s b true k h σ w = apart_none
run_apart (Fork g) E T N s b false k h σ w = inner (find (sub σ.calls s) T)
    (run_apart g E T N (sub σ.calls s) (sub σ.calls s) false _ (branch_end_apart T (sub σ.calls s)) (enter (next_call σ)) (forked w)) (fork_goes_apart T s k h)
  where
    inner : (c : Option Rec) → Apart T (sub σ.calls s) 0 (run g E T N (sub σ.calls s) (sub σ.calls s) false branch_end (enter (next_call σ)) (forked w)).made → ApartK T s (fork_goes k) →
        Apart T s σ.calls (on_fork c (next_call σ) (forked w) (fork_goes k) (run g E T N (sub σ.calls s) (sub σ.calls s) false branch_end (enter (next_call σ)) (forked w)) (sub σ.calls s)).made
    inner (Some (rec q x)) a ih = apart_none
    inner None a ih = branch_apart T s σ.calls (next_call σ) refl _ a _ ih
        (any_gone (sub σ.calls s) (run g E T N (sub σ.calls s) (sub σ.calls s) false branch_end (enter (next_call σ)) (forked w)).st.gone)
        (run g E T N (sub σ.calls s) (sub σ.calls s) false branch_end (enter (next_call σ)) (forked w)).out
run_apart (Loop g) E T N s b body k h σ w = turns_apart T s _ (λ k' h' τ w'. run_apart g E T N s b body k' h' τ w') N k h σ w
