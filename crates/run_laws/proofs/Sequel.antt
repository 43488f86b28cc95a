-- How an evaluator is proved to do what a program says: what a part of a program does is stated for whatever comes after it.
use Rattle.std.specs.Prelude.{List, Bool, ℕ}
use Rattle.std.proofs.Common.{◌≡◌, refl, ap, suc, [], ◌∷◌, ◌++◌, ◌∙◌}
use Rattle.turk_base.specs.Asks.{Rec}
use Rattle.turk_base.specs.Names.{Path}
use Rattle.turk_base.specs.Prog.{Prim, AnswerOf, Prog, Done, Ask, Then, Always, Loop}
use Rattle.turk_base.specs.State.{St}
use Rattle.turk_base.specs.Steps.{steps_of}
use Rattle.turk_base.specs.Values.{Val, Outcome, Normal, Break, Continue, Return, Throw}
use Rattle.js_tree.specs.Run.{Res, add, run_steps, on_normal, turns, run}
use Rattle.js_tree.specs.World.{World, Rest}

-- The scope in which something runs.
pub record Place : Type 0 where
  pub world : World
  pub trace : List Rec
  pub bound : ℕ
  pub scope : Path
  pub branch : Path
  pub body : Bool

abbrev pub run_at : Place → Prog → (Outcome → St → Rest → Res) → St → Rest → Res
run_at c g k σ w = run g c.world c.trace c.bound c.scope c.branch c.body k σ w

-- From σ and w the program g ends with o at τ and w', and made l.
pub record Ends (c : Place) (g : Prog) (o : Outcome) (σ : St) (w : Rest) (τ : St) (w' : Rest) (l : List Rec) : Type 0 where
  pub holds : (k : Outcome → St → Rest → Res) → run_at c g k σ w ≡ add l (k o τ w')

-- It ends the scope: refused, waiting, spent and so on.
pub record Stops (c : Place) (g : Prog) (σ : St) (w : Rest) (r : Res) : Type 0 where
  pub holds : (k : Outcome → St → Rest → Res) → run_at c g k σ w ≡ r

-- The same of a primitive.
pub record Answers (c : Place) (p : Prim) (a : AnswerOf p) (σ : St) (w : Rest) (τ : St) (w' : Rest) (l : List Rec) : Type 0 where
  pub holds : (k : AnswerOf p → St → Rest → Res) → run_steps (steps_of p) c.world c.trace c.scope c.branch c.body k σ w ≡ add l (k a τ w')

pub record Halts (c : Place) (p : Prim) (σ : St) (w : Rest) (r : Res) : Type 0 where
  pub holds : (k : AnswerOf p → St → Rest → Res) → run_steps (steps_of p) c.world c.trace c.scope c.branch c.body k σ w ≡ r

append_assoc : {A : Type 0} (l m n : List A) → l ++ (m ++ n) ≡ (l ++ m) ++ n
append_assoc [] m n = refl
append_assoc (x ∷ l) m n = ap (λ z. x ∷ z) (append_assoc l m n)

add_add : (l m : List Rec) (r : Res) → add l (add m r) ≡ add (l ++ m) r
add_add l m r = ap (λ z. record r { made = z }) (append_assoc l m r.made)

pub done : {c : Place} {o : Outcome} {σ : St} {w : Rest} → Ends c (Done o) o σ w σ w []
unfolding run
done = record { holds = λ k. refl }

pub asks : {c : Place} {p : Prim} {go : AnswerOf p → Prog} {a : AnswerOf p} {o : Outcome} {σ τ υ : St} {w x y : Rest} {l m : List Rec} →
    Answers c p a σ w τ x l → Ends c (go a) o τ x υ y m → Ends c (Ask p go) o σ w υ y (l ++ m)
unfolding run
asks {l = l} {m = m} h e = record { holds = λ k. h.holds _ ∙ ap (add l) (e.holds k) ∙ add_add l m _ }

pub asks_out : {c : Place} {p : Prim} {go : AnswerOf p → Prog} {σ : St} {w : Rest} {r : Res} → Halts c p σ w r → Stops c (Ask p go) σ w r
unfolding run
asks_out h = record { holds = λ k. h.holds _ }

pub asks_stop : {c : Place} {p : Prim} {go : AnswerOf p → Prog} {a : AnswerOf p} {σ τ : St} {w x : Rest} {l : List Rec} {r : Res} →
    Answers c p a σ w τ x l → Stops c (go a) τ x r → Stops c (Ask p go) σ w (add l r)
unfolding run
asks_stop {l = l} h e = record { holds = λ k. h.holds _ ∙ ap (add l) (e.holds k) }

pub goes_on : {c : Place} {g : Prog} {go : Val → Prog} {v : Val} {o : Outcome} {σ τ υ : St} {w x y : Rest} {l m : List Rec} →
    Ends c g (Normal v) σ w τ x l → Ends c (go v) o τ x υ y m → Ends c (Then g go) o σ w υ y (l ++ m)
unfolding run
goes_on {l = l} {m = m} h e = record { holds = λ k. h.holds _ ∙ ap (add l) (e.holds k) ∙ add_add l m _ }

pub goes_stop : {c : Place} {g : Prog} {go : Val → Prog} {v : Val} {σ τ : St} {w x : Rest} {l : List Rec} {r : Res} →
    Ends c g (Normal v) σ w τ x l → Stops c (go v) τ x r → Stops c (Then g go) σ w (add l r)
unfolding run
goes_stop {l = l} h e = record { holds = λ k. h.holds _ ∙ ap (add l) (e.holds k) }

abbrev pub NotNormal : Outcome → Type 0
NotNormal (Normal v) = ⊥
NotNormal Break = Unit {0}
NotNormal Continue = Unit {0}
NotNormal (Return v) = Unit {0}
NotNormal (Throw v) = Unit {0}

passes : (gE : Val → St → Rest → Res) (k : Outcome → St → Rest → Res) (o : Outcome) → NotNormal o → (τ : St) (w : Rest) → on_normal gE k o τ w ≡ k o τ w
passes gE k (Normal v) n τ w = absurd n
passes gE k Break n τ w = refl
passes gE k Continue n τ w = refl
passes gE k (Return v) n τ w = refl
passes gE k (Throw v) n τ w = refl

pub goes_out : {c : Place} {g : Prog} {go : Val → Prog} {o : Outcome} {σ τ : St} {w x : Rest} {l : List Rec} →
    NotNormal o → Ends c g o σ w τ x l → Ends c (Then g go) o σ w τ x l
unfolding run
goes_out {o = o} {l = l} n h = record { holds = λ k. h.holds _ ∙ ap (add l) (passes _ k o n _ _) }

pub stops_then : {c : Place} {g : Prog} {go : Val → Prog} {σ : St} {w : Rest} {r : Res} → Stops c g σ w r → Stops c (Then g go) σ w r
unfolding run
stops_then h = record { holds = λ k. h.holds _ }

pub always : {c : Place} {g : Prog} {go : Outcome → Prog} {o o' : Outcome} {σ τ υ : St} {w x y : Rest} {l m : List Rec} →
    Ends c g o σ w τ x l → Ends c (go o) o' τ x υ y m → Ends c (Always g go) o' σ w υ y (l ++ m)
unfolding run
always {l = l} {m = m} h e = record { holds = λ k. h.holds _ ∙ ap (add l) (e.holds k) ∙ add_add l m _ }

pub stops_always : {c : Place} {g : Prog} {go : Outcome → Prog} {σ : St} {w : Rest} {r : Res} → Stops c g σ w r → Stops c (Always g go) σ w r
unfolding run
stops_always h = record { holds = λ k. h.holds _ }

-- ---- loops: `n` turns are left

pub record EndsIn (c : Place) (n : ℕ) (g : Prog) (o : Outcome) (σ : St) (w : Rest) (τ : St) (w' : Rest) (l : List Rec) : Type 0 where
  pub holds : (k : Outcome → St → Rest → Res) → turns n (λ k' υ y. run_at c g k' υ y) k σ w ≡ add l (k o τ w')

pub loop : {c : Place} {g : Prog} {o : Outcome} {σ τ : St} {w x : Rest} {l : List Rec} → EndsIn c c.bound g o σ w τ x l → Ends c (Loop g) o σ w τ x l
unfolding run
loop h = record { holds = λ k. h.holds k }

pub turn_on : {c : Place} {n : ℕ} {g : Prog} {v : Val} {o : Outcome} {σ τ υ : St} {w x y : Rest} {l m : List Rec} →
    Ends c g (Normal v) σ w τ x l → EndsIn c n g o τ x υ y m → EndsIn c (suc n) g o σ w υ y (l ++ m)
unfolding turns
turn_on {l = l} {m = m} h e = record { holds = λ k. h.holds _ ∙ ap (add l) (e.holds k) ∙ add_add l m _ }

pub turn_out : {c : Place} {n : ℕ} {g : Prog} {o : Outcome} {σ τ : St} {w x : Rest} {l : List Rec} → NotNormal o → Ends c g o σ w τ x l → EndsIn c (suc n) g o σ w τ x l
unfolding turns
turn_out {o = o} {l = l} n h = record { holds = λ k. h.holds _ ∙ ap (add l) (passes _ k o n _ _) }
