-- From what a call on a heap did to what the interpreter of programs does.
use Rattle.std.specs.Prelude.{◌-◌, nat_lt, Bool, true, false, List, Option, Some, None}
use Rattle.std.proofs.Common.{◌≡◌, ◌≤◌, ℕ, refl, ◌∙◌, arith}
use Rattle.turk_base.specs.Names.{Path}
use Rattle.turk_base.specs.Values.{Known, Frame, Plain, Array, Function, BuiltIn, Outcome}
use Rattle.turk_base.specs.Prog.{Prim, AnswerOf, Prog, Done, Ask, Then, Always, Once, Fork, Loop}
use Rattle.turk_base.specs.Start.{start}
use Rattle.turk_base.specs.State.{St, Op, charge, known_at, make, change, print, join, forks_here, crash, Act, gives, refused, waiting, stuck, act, act_known, act_chained, act_change, act_join, act_forks, op_cost, any_gone, too_many}
use Rattle.turk_base.specs.Steps.{Small, give, refuse, lost, step, steps_of}
use Rattle.turk_base.specs.Steps as steps
use Rattle.js_tree.specs.Run.{ended, halted, bar, spent, missing, Res, res, pay_if, on_act, run_steps, run}
use Rattle.js_tree.specs.World.{World, Rest}
use Rattle.run_laws.proofs.Sequel.{Place, run_at}
use Rattle.turk_base.specs.Asks.{Rec}
use Rattle.value_cells.specs.Comes.{Comes, goes, stops, spends, other, then_goes, acted, charged, comes, ends}

-- what the interpreter does where steps come to something
abbrev pub told_by : {A : Type 0} → Rest → (A → St → Rest → Res) → Comes A → Res
told_by w k (goes a τ m) = k a τ (record w { left = m })
told_by w k (stops why τ m) = res (ended (bar why)) τ (record w { left = m })
told_by w k (spends τ m) = res (halted spent) τ (record w { left = m })
told_by w k other = res (halted missing) start w

abbrev pub IsKnown : {A : Type 0} → Comes A → Type 0
IsKnown (goes a τ m) = Unit {0}
IsKnown (stops why τ m) = Unit {0}
IsKnown (spends τ m) = Unit {0}
IsKnown other = ⊥

told_after : {A : Type 0} (w : Rest) (n : ℕ) (k : A → St → Rest → Res) (c : Comes A) → IsKnown c → told_by (record w { left = n }) k c ≡ told_by w k c
told_after w n k (goes a τ m) h = refl
told_after w n k (stops why τ m) h = refl
told_after w n k (spends τ m) h = refl
told_after w n k other h = absurd h

module _ {A B : Type 0} (next : B → St → ℕ → Comes A) (go : B → St → Rest → Res) (k : A → St → Rest → Res) (w : Rest) (σ : St)
    (again : (b : B) (τ : St) (n : ℕ) → IsKnown (next b τ n) → go b τ (record w { left = n }) ≡ told_by (record w { left = n }) k (next b τ n)) where
  acts_are : (n : ℕ) (x : Act B) → IsKnown (then_goes (acted x n) next) → on_act x σ (record w { left = n }) go ≡ told_by w k (then_goes (acted x n) next)
  acts_are n (gives b τ) h = again b τ n h ∙ told_after w n k (next b τ n) h
  acts_are n (refused why) h = absurd h
  acts_are n (waiting x) h = absurd h
  acts_are n stuck h = absurd h

  paid_are : (t : Bool) (cost : ℕ) (x : Act B) → IsKnown (charged t cost σ w.left (then_goes (acted x (w.left - cost)) next)) →
      pay_if t cost σ w (λ w'. on_act x σ w' go) ≡ told_by w k (charged t cost σ w.left (then_goes (acted x (w.left - cost)) next))
  paid_are true cost x h = refl
  paid_are false cost x h = acts_are (w.left - cost) x h

  after_are : (x : Comes B) (r : Res) → (IsKnown x → r ≡ told_by w go x) → IsKnown (then_goes x next) → r ≡ told_by w k (then_goes x next)
  after_are (goes b τ m) r e h = e tt ∙ again b τ m h ∙ told_after w m k (next b τ m) h
  after_are (stops why τ m) r e h = e tt
  after_are (spends τ m) r e h = e tt
  after_are other r e h = absurd h

-- Steps that ask nothing do what they come to.
pub steps_are : {A : Type 0} (g : Small A) (E : World) (T : List Rec) (s b : Path) (body : Bool) (k : A → St → Rest → Res) (σ : St) (w : Rest) →
    IsKnown (comes g s b body σ w.left) → run_steps g E T s b body k σ w ≡ told_by w k (comes g s b body σ w.left)
unfolding comes run_steps
steps_are (give a) E T s b body k σ w h = refl
steps_are (refuse why) E T s b body k σ w h = refl
steps_are lost E T s b body k σ w h = absurd h
steps_are (steps.ask q go) E T s b body k σ w h = absurd h
steps_are (step o go) E T s b body k σ w h =
    paid_are (λ a τ m. comes (go a) s b body τ m) (λ a τ w'. run_steps (go a) E T s b body k τ w') k w σ (λ a τ n. steps_are (go a) E T s b body k τ (record w { left = n }))
    (nat_lt w.left (op_cost o σ)) (op_cost o σ) (act o s b body σ) h

-- The same of programs.
pub ends_are : (g : Prog) (c : Place) (k : Outcome → St → Rest → Res) (σ : St) (w : Rest) →
    IsKnown (ends g c.scope c.branch c.body σ w.left) → run_at c g k σ w ≡ told_by w k (ends g c.scope c.branch c.body σ w.left)
unfolding ends run
ends_are (Done o) c k σ w h = refl
ends_are (Ask p go) c k σ w h =
    let on : AnswerOf p → St → Rest → Res = λ a τ w'. run_at c (go a) k τ w' in
    after_are (λ a τ m. ends (go a) c.scope c.branch c.body τ m) on k w σ (λ a τ n. ends_are (go a) c k τ (record w { left = n })) (comes (steps_of p) c.scope c.branch c.body σ w.left)
    (run_steps (steps_of p) c.world c.trace c.scope c.branch c.body on σ w) (steps_are (steps_of p) c.world c.trace c.scope c.branch c.body on σ w) h
ends_are (Then g go) c k σ w h = absurd h
ends_are (Always g go) c k σ w h = absurd h
ends_are (Once g) c k σ w h = absurd h
ends_are (Fork g) c k σ w h = absurd h
ends_are (Loop g) c k σ w h = absurd h

-- ---- what such steps keep: no fuel is won, no index taken, and no branch becomes absent

abbrev pub Holds : {A : Type 0} → St → ℕ → Comes A → Type 0
Holds σ n (goes a τ m) = (m ≤ n) × (τ.calls ≡ σ.calls) × (τ.gone ≡ σ.gone)
Holds σ n (stops why τ m) = (m ≤ n) × (τ.calls ≡ σ.calls) × (τ.gone ≡ σ.gone)
Holds σ n (spends τ m) = (m ≤ n) × (τ.calls ≡ σ.calls) × (τ.gone ≡ σ.gone)
Holds σ n other = Unit {0}

holds_after : {A : Type 0} (σ τ : St) (n m : ℕ) → m ≤ n → τ.calls ≡ σ.calls → τ.gone ≡ σ.gone → (c : Comes A) → Holds τ m c → Holds σ n c
holds_after σ τ n m l e g (goes a υ k) h = (let q = h.0 in omega (arith, q, l), h.1 ∙ e, h.2 ∙ g)
holds_after σ τ n m l e g (stops why υ k) h = (let q = h.0 in omega (arith, q, l), h.1 ∙ e, h.2 ∙ g)
holds_after σ τ n m l e g (spends υ k) h = (let q = h.0 in omega (arith, q, l), h.1 ∙ e, h.2 ∙ g)
holds_after σ τ n m l e g other h = tt

abbrev ActHolds : {A : Type 0} → St → Act A → Type 0
ActHolds σ (gives a τ) = (τ.calls ≡ σ.calls) × (τ.gone ≡ σ.gone)
ActHolds σ (refused why) = Unit {0}
ActHolds σ (waiting x) = Unit {0}
ActHolds σ stuck = Unit {0}

act_holds : (o : Op) (s b : Path) (body : Bool) (σ : St) → ActHolds σ (act o s b body σ)
unfolding act
act_holds (charge n) s b body σ = (refl, refl)
act_holds (known_at c) s b body σ = by (σ.known c)
  where
    by : (h : Option Known) → ActHolds σ (act_known h σ)
    by (Some k) = (refl, refl)
    by None = tt
act_holds (make paid (Frame p)) s b body σ = (refl, refl)
act_holds (make paid (Plain None)) s b body σ = (refl, refl)
act_holds (make paid (Plain (Some p))) s b body σ = by (σ.known p)
  where
    by : (h : Option Known) → ActHolds σ (act_chained h p s (Plain (Some p)) σ)
    by (Some k) = (refl, refl)
    by None = tt
act_holds (make paid Array) s b body σ = (refl, refl)
act_holds (make paid (Function n f)) s b body σ = (refl, refl)
act_holds (make paid (BuiltIn w)) s b body σ = (refl, refl)
act_holds (change paid c e) s b body σ = by (σ.known c)
  where
    by : (h : Option Known) → ActHolds σ (act_change h b c e σ)
    by (Some k) = (refl, refl)
    by None = tt
act_holds (print line) s b body σ = (refl, refl)
act_holds (join wanted) s b body σ = by body (any_gone s σ.gone) (too_many wanted σ.vals)
  where
    by : (body g t : Bool) → ActHolds σ (act_join body g t s σ)
    by true g t = tt
    by false true t = tt
    by false false true = tt
    by false false false = (refl, refl)
act_holds forks_here s b body σ = by body
  where
    by : (body : Bool) → ActHolds σ (act_forks body σ)
    by true = tt
    by false = (refl, refl)
act_holds crash s b body σ = tt

module _ {A B : Type 0} (next : B → St → ℕ → Comes A) (σ : St) (n : ℕ) (again : (b : B) (τ : St) (m : ℕ) → Holds τ m (next b τ m)) where
  acts_hold : (m : ℕ) → m ≤ n → (x : Act B) → ActHolds σ x → Holds σ n (then_goes (acted x m) next)
  acts_hold m l (gives b τ) h = holds_after σ τ n m l h.0 h.1 (next b τ m) (again b τ m)
  acts_hold m l (refused why) h = tt
  acts_hold m l (waiting x) h = tt
  acts_hold m l stuck h = tt

  paid_hold : (t : Bool) (cost : ℕ) (x : Act B) → ActHolds σ x → Holds σ n (charged t cost σ n (then_goes (acted x (n - cost)) next))
  paid_hold true cost x h = (omega arith, refl, refl)
  paid_hold false cost x h = acts_hold (n - cost) (omega arith) x h

  after_hold : (x : Comes B) → Holds σ n x → Holds σ n (then_goes x next)
  after_hold (goes b τ m) h = holds_after σ τ n m h.0 h.1 h.2 (next b τ m) (again b τ m)
  after_hold (stops why τ m) h = h
  after_hold (spends τ m) h = h
  after_hold other h = tt

pub steps_hold : {A : Type 0} (g : Small A) (s b : Path) (body : Bool) (σ : St) (n : ℕ) → Holds σ n (comes g s b body σ n)
unfolding comes
steps_hold (give a) s b body σ n = (omega arith, refl, refl)
steps_hold (refuse why) s b body σ n = (omega arith, refl, refl)
steps_hold lost s b body σ n = tt
steps_hold (steps.ask q go) s b body σ n = tt
steps_hold (step o go) s b body σ n =
    paid_hold (λ a τ m. comes (go a) s b body τ m) σ n (λ a τ m. steps_hold (go a) s b body τ m) (nat_lt n (op_cost o σ)) (op_cost o σ) (act o s b body σ) (act_holds o s b body σ)

pub ends_hold : (g : Prog) (s b : Path) (body : Bool) (σ : St) (n : ℕ) → Holds σ n (ends g s b body σ n)
unfolding ends
ends_hold (Done o) s b body σ n = (omega arith, refl, refl)
ends_hold (Ask p go) s b body σ n =
    after_hold (λ a τ m. ends (go a) s b body τ m) σ n (λ a τ m. ends_hold (go a) s b body τ m) (comes (steps_of p) s b body σ n) (steps_hold (steps_of p) s b body σ n)
ends_hold (Then g go) s b body σ n = tt
ends_hold (Always g go) s b body σ n = tt
ends_hold (Once g) s b body σ n = tt
ends_hold (Fork g) s b body σ n = tt
ends_hold (Loop g) s b body σ n = tt
