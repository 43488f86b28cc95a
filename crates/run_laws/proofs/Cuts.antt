-- How an evaluator is proved whose asker refuses a call: what the run makes before it, and what it makes next there, is stated
-- of a part of a program for whatever comes after it.
use Rattle.std.specs.Prelude.{ℤ, ℕ, List, true, false, Some, None}
use Rattle.std.proofs.Common.{◌≡◌, refl, ap, suc, [], ◌∷◌, ◌++◌, sym, ◌∙◌, subst}
use Rattle.turk_base.specs.declared.Record.TheVariants as kept
use Rattle.turk_base.specs.Asks.{Question, draws, AnsOf, Rec, rec, find, below}
use Rattle.turk_base.specs.Names.{root, sub}
use Rattle.turk_base.specs.Prog.{Prim, AnswerOf, Prog, Ask, Then, Always, Once, Fork, Loop}
use Rattle.turk_base.specs.Start.{start}
use Rattle.turk_base.specs.State.{St, any_gone, once_call, next_call, enter}
use Rattle.turk_base.specs.Steps.{Small, ask, steps_of}
use Rattle.turk_base.specs.Values.{Val, Outcome, Normal}
use Rattle.js_tree.specs.Eval.{fuel, eval}
use Rattle.js_tree.specs.Run.{Gift, undrawn, data_in, ret, ended, halted, Why, Res, add, run_steps, branch_end, body_end, after_body, on_once, once_goes, on_fork, fork_goes, forked, unless_body, turns, run}
use Rattle.js_tree.specs.World.{World, Fresh, fresh, Rest}
use Rattle.run_laws.proofs.Fronts.{assoc, front, front_trans, front_add}
use Rattle.run_laws.proofs.Parting.{body_front, branch_front, body_halted, branch_halted, closed_undrawn}
use Rattle.run_laws.proofs.Sequel.{Place, run_at, Ends, Answers}
use Rattle.run_laws.specs.Stops.{Front}

-- What the run does at the refused call: it makes this record next, it is undrawn there, or nothing is said.
pub data Next : Type 0 where
  makes : (r : Rec) → Next
  lacks_draw : Next
  unknown : Next

abbrev pub Follows : List Rec → Next → Res → Type 0
Follows m (makes r) e = Front (m ++ (r ∷ [])) e.made
Follows m lacks_draw e = (e.out ≡ halted undrawn) × (e.made ≡ m)
Follows m unknown e = Front m e.made

pub follows_add : (l m : List Rec) (x : Next) (e : Res) → Follows m x e → Follows (l ++ m) x (add l e)
follows_add l m (makes r) e f = subst (λ z. Front z (l ++ e.made)) (sym (assoc l m (r ∷ []))) (front_add l f)
follows_add l m lacks_draw e f = (f.0, ap (λ z. l ++ z) f.1)
follows_add l m unknown e f = front_add l f

-- a scope's run, and the run of its call
pub follows_up : (m : List Rec) (x : Next) (r e : Res) → Front r.made e.made → ((w : Why) → r.out ≡ halted w → e ≡ r) → Follows m x r → Follows m x e
follows_up m (makes q) r e g h f = front_trans f g
follows_up m lacks_draw r e g h f = (ap (λ e. e.out) (h undrawn f.0) ∙ f.0, ap (λ e. e.made) (h undrawn f.0) ∙ f.1)
follows_up m unknown r e g h f = front_trans f g

-- In the part g of a program, from σ and w, a call was refused after m was made.
pub record Cuts (c : Place) (g : Prog) (σ : St) (w : Rest) (m : List Rec) (x : Next) : Type 0 where
  pub holds : (k : Outcome → St → Rest → Res) → Follows m x (run_at c g k σ w)

-- The same of a primitive.
pub record CutsAt (c : Place) (p : Prim) (σ : St) (w : Rest) (m : List Rec) (x : Next) : Type 0 where
  pub holds : (k : AnswerOf p → St → Rest → Res) → Follows m x (run_steps (steps_of p) c.world c.trace c.scope c.branch c.body k σ w)

-- ---- a call that nothing answers in the trace

pub ask_makes : {A : Type 0} (c : Place) (q : Question) (go : AnsOf q → Small A) (k : A → St → Rest → Res) (σ : St) (w : Rest) (f : Fresh q) →
    find (sub σ.calls c.scope) c.trace ≡ None → below (sub σ.calls c.scope) c.trace ≡ false → fresh q c.world w.drawn (sub σ.calls c.scope) ≡ Some f →
    Follows [] (makes (rec (sub σ.calls c.scope) f.what)) (run_steps (ask q go) c.world c.trace c.scope c.branch c.body k σ w)
unfolding run_steps
ask_makes c q go k σ w f e b h = rw (e, b, h) (front _ refl)

pub ask_lacks : {A : Type 0} (c : Place) (n : ℤ) (go : ℤ → Small A) (k : A → St → Rest → Res) (σ : St) (w : Rest) →
    find (sub σ.calls c.scope) c.trace ≡ None → below (sub σ.calls c.scope) c.trace ≡ false → fresh (draws n) c.world w.drawn (sub σ.calls c.scope) ≡ None →
    Follows [] lacks_draw (run_steps (ask (draws n) go) c.world c.trace c.scope c.branch c.body k σ w)
unfolding run_steps
ask_lacks c n go k σ w e b h = rw (e, b, h) (refl, refl)

pub anything : (c : Place) (p : Prim) (σ : St) (w : Rest) → CutsAt c p σ w [] unknown
anything c p σ w = record { holds = λ k. front _ refl }

-- ---- parts of a program

pub asks_cut : {c : Place} {p : Prim} {go : AnswerOf p → Prog} {σ : St} {w : Rest} {m : List Rec} {x : Next} → CutsAt c p σ w m x → Cuts c (Ask p go) σ w m x
unfolding run
asks_cut h = record { holds = λ k. h.holds _ }

pub asks_then_cut : {c : Place} {p : Prim} {go : AnswerOf p → Prog} {a : AnswerOf p} {σ τ : St} {w y : Rest} {l m : List Rec} {x : Next} →
    Answers c p a σ w τ y l → Cuts c (go a) τ y m x → Cuts c (Ask p go) σ w (l ++ m) x
unfolding run
asks_then_cut {l = l} {m = m} {x = x} h e = record { holds = λ k. subst (Follows (l ++ m) x) (sym (h.holds _)) (follows_add l m x _ (e.holds k)) }

pub first_cut : {c : Place} {g : Prog} {go : Val → Prog} {σ : St} {w : Rest} {m : List Rec} {x : Next} → Cuts c g σ w m x → Cuts c (Then g go) σ w m x
unfolding run
first_cut h = record { holds = λ k. h.holds _ }

pub then_cut : {c : Place} {g : Prog} {go : Val → Prog} {v : Val} {σ τ : St} {w y : Rest} {l m : List Rec} {x : Next} →
    Ends c g (Normal v) σ w τ y l → Cuts c (go v) τ y m x → Cuts c (Then g go) σ w (l ++ m) x
unfolding run
then_cut {l = l} {m = m} {x = x} h e = record { holds = λ k. subst (Follows (l ++ m) x) (sym (h.holds _)) (follows_add l m x _ (e.holds k)) }

pub first_always_cut : {c : Place} {g : Prog} {go : Outcome → Prog} {σ : St} {w : Rest} {m : List Rec} {x : Next} → Cuts c g σ w m x → Cuts c (Always g go) σ w m x
unfolding run
first_always_cut h = record { holds = λ k. h.holds _ }

pub always_cut : {c : Place} {g : Prog} {go : Outcome → Prog} {o : Outcome} {σ τ : St} {w y : Rest} {l m : List Rec} {x : Next} →
    Ends c g o σ w τ y l → Cuts c (go o) τ y m x → Cuts c (Always g go) σ w (l ++ m) x
unfolding run
always_cut {l = l} {m = m} {x = x} h e = record { holds = λ k. subst (Follows (l ++ m) x) (sym (h.holds _)) (follows_add l m x _ (e.holds k)) }

-- ---- loops: `n` turns are left

pub record CutsIn (c : Place) (n : ℕ) (g : Prog) (σ : St) (w : Rest) (m : List Rec) (x : Next) : Type 0 where
  pub holds : (k : Outcome → St → Rest → Res) → Follows m x (turns n (λ k' υ y. run_at c g k' υ y) k σ w)

pub loop_cut : {c : Place} {g : Prog} {σ : St} {w : Rest} {m : List Rec} {x : Next} → CutsIn c c.bound g σ w m x → Cuts c (Loop g) σ w m x
unfolding run
loop_cut h = record { holds = λ k. h.holds k }

pub turn_cut : {c : Place} {n : ℕ} {g : Prog} {σ : St} {w : Rest} {m : List Rec} {x : Next} → Cuts c g σ w m x → CutsIn c (suc n) g σ w m x
unfolding turns
turn_cut h = record { holds = λ k. h.holds _ }

pub turn_then_cut : {c : Place} {n : ℕ} {g : Prog} {v : Val} {σ τ : St} {w y : Rest} {l m : List Rec} {x : Next} →
    Ends c g (Normal v) σ w τ y l → CutsIn c n g τ y m x → CutsIn c (suc n) g σ w (l ++ m) x
unfolding turns
turn_then_cut {l = l} {m = m} {x = x} h e = record { holds = λ k. subst (Follows (l ++ m) x) (sym (h.holds _)) (follows_add l m x _ (e.holds k)) }

-- ---- scopes

-- the scope of a body, and of a branch, that a call of σ opens
abbrev pub in_body : Place → St → Place
in_body c σ = record c { scope = sub σ.calls c.scope; body = true }

abbrev pub in_branch : Place → St → Place
in_branch c σ = record c { scope = sub σ.calls c.scope; branch = sub σ.calls c.scope; body = false }

-- the run of the body
abbrev pub body_at : Place → Prog → St → Rest → Res
body_at c g σ w = run_at (in_body c σ) g (body_end c.world c.trace (sub σ.calls c.scope) c.branch) (enter (once_call c.branch (next_call σ))) w

pub once_cut : {c : Place} {g : Prog} {σ : St} {w : Rest} {m : List Rec} {x : Next} → find (sub σ.calls c.scope) c.trace ≡ None →
    Cuts (in_body c σ) g (enter (once_call c.branch (next_call σ))) w m x → Cuts c (Once g) σ w m x
unfolding run
once_cut {c} {g} {σ} {w} {m} {x} e h = record {
  holds = λ k. subst (λ o. Follows m x (on_once o (once_call c.branch (next_call σ)) w (once_goes c.world c.trace c.scope c.branch c.body k) (body_at c g σ w) (sub σ.calls c.scope))) (sym e)
      (follows_up m x (body_at c g σ w) _ (body_front (body_at c g σ w).out (body_at c g σ w) (sub σ.calls c.scope) (once_call c.branch (next_call σ)) (once_goes c.world c.trace c.scope c.branch c.body k))
      (λ w' z. body_halted (body_at c g σ w).out (body_at c g σ w) (sub σ.calls c.scope) (once_call c.branch (next_call σ)) (once_goes c.world c.trace c.scope c.branch c.body k) w' z)
      (h.holds (body_end c.world c.trace (sub σ.calls c.scope) c.branch)));
}

-- the body gave a data, and its record was refused
pub once_unmade : {c : Place} {g : Prog} {σ : St} {w : Rest} (y : Gift) → find (sub σ.calls c.scope) c.trace ≡ None → (body_at c g σ w).out ≡ ended (ret y) →
    Cuts c (Once g) σ w (body_at c g σ w).made (makes (rec (sub σ.calls c.scope) (kept.Once (data_in y))))
unfolding run
once_unmade {c} {g} {σ} {w} y e h = record {
  holds = λ k. subst (λ o. Front ((body_at c g σ w).made ++ (rec (sub σ.calls c.scope) (kept.Once (data_in y)) ∷ [])) (on_once o (once_call c.branch (next_call σ)) w (once_goes c.world c.trace c.scope c.branch c.body k) (body_at c g σ w) (sub σ.calls c.scope)).made) (sym e)
      (subst (λ o. Front ((body_at c g σ w).made ++ (rec (sub σ.calls c.scope) (kept.Once (data_in y)) ∷ [])) (after_body o (body_at c g σ w) (sub σ.calls c.scope) (once_call c.branch (next_call σ)) (once_goes c.world c.trace c.scope c.branch c.body k)).made) (sym h)
      (front _ refl));
}

abbrev pub branch_at : Place → Prog → St → Rest → Res
branch_at c g σ w = run_at (in_branch c σ) g branch_end (enter (next_call σ)) (forked w)

pub fork_cut : {c : Place} {g : Prog} {σ : St} {w : Rest} {m : List Rec} {x : Next} → c.body ≡ false → find (sub σ.calls c.scope) c.trace ≡ None →
    Cuts (in_branch c σ) g (enter (next_call σ)) (forked w) m x → Cuts c (Fork g) σ w m x
unfolding run
fork_cut {c} {g} {σ} {w} {m} {x} nb e h = record {
  holds = λ k. subst (λ b. Follows m x (unless_body b σ w (on_fork (find (sub σ.calls c.scope) c.trace) (next_call σ) (forked w) (fork_goes k) (branch_at c g σ w) (sub σ.calls c.scope)))) (sym nb)
      (subst (λ o. Follows m x (on_fork o (next_call σ) (forked w) (fork_goes k) (branch_at c g σ w) (sub σ.calls c.scope))) (sym e)
      (follows_up m x (branch_at c g σ w) _ (branch_front (any_gone (sub σ.calls c.scope) (branch_at c g σ w).st.gone) (branch_at c g σ w).out (branch_at c g σ w) (sub σ.calls c.scope) (next_call σ) (fork_goes k))
      (λ w' z. branch_halted (any_gone (sub σ.calls c.scope) (branch_at c g σ w).st.gone) (branch_at c g σ w).out (branch_at c g σ w) (sub σ.calls c.scope) (next_call σ) (fork_goes k) w' z)
      (h.holds branch_end)));
}

-- ---- the whole

abbrev pub whole : World → List Rec → ℕ → Place
whole E T n = record { world = E; trace = T; bound = suc n; scope = root; branch = root; body = false }

pub eval_cut : (S : Prog) (E : World) (T : List Rec) (n : ℕ) (m : List Rec) (x : Next) → Cuts (whole E T n) S start (fuel n) m x → Follows m x (eval S E T n)
eval_cut S E T n m (makes r) h = let f = h.holds branch_end in front f.rest f.is
eval_cut S E T n m lacks_draw h = let f = h.holds branch_end in (closed_undrawn _ _ f.0, f.1)
eval_cut S E T n m unknown h = let f = h.holds branch_end in front f.rest f.is
