-- The strict plain run: no trace, no fuel and no absent branch. It stops (None) at a wait, at a name that is no cell, at a
-- throw out of a branch and, outside once bodies, at the first reason against independence. It notes how each once body
-- ended: with the data that its record holds, or otherwise.
use Rattle.std.specs.Prelude.{ℕ, ◌+◌, List, Bool, true, false, Option, Some, None}
use Rattle.std.proofs.Common.{suc, zero, [], ◌∷◌, ◌++◌}
use Rattle.turk_base.specs.declared.Record.TheVariants as kept
use Rattle.turk_base.specs.Asks.{Question, AnsOf, Rec, rec}
use Rattle.turk_base.specs.Data.{Data}
use Rattle.turk_base.specs.Names.{Path, sub}
use Rattle.turk_base.specs.Prog.{Prog, Done, Ask, Then, Always, Once, Fork, Loop}
use Rattle.turk_base.specs.State.{St, Verdict, independent, touched_open, once_while_open, branch_threw, Act, gives, refused, waiting, stuck, act, op_cost, once_call, next_call, enter, leave, give_value, cut_all}
use Rattle.turk_base.specs.Steps.{Small, give, refuse, lost, step, ask, taking, put_data, steps_of}
use Rattle.turk_base.specs.Values.{Val, Undefined, ForkInOnce, Outcome, Normal, Break, Continue, Return, Throw}
use Rattle.js_tree.specs.Run.{End, ret, thr, bar, valued, datum, value_in, data_in, ends_as}
use Rattle.js_tree.specs.World.{World, Fresh, fresh}

-- how a once body ended, and what it cost
pub record Noted : Type 0 where
  pub kept : Option Data
  pub cost : ℕ

abbrev pub noting : Option Data → ℕ → Noted
noting o k = record { kept = o; cost = k }

pub data Entry : Type 0 where
  entry : (path : Path) → (o : Noted) → Entry

pub record Strict : Type 0 where
  pub out : Option End
  pub st : St
  pub log : List Entry
  pub made : List Rec
  pub cost : ℕ

abbrev pub plain_end : Option End → St → Strict
plain_end o σ = record { out = o; st = σ; log = []; made = []; cost = 0 }

abbrev pub note : List Entry → List Rec → ℕ → Strict → Strict
note l m k r = record r { log = l ++ r.log; made = m ++ r.made; cost = k + r.cost }

-- it ended with a value or a throw
abbrev pub Completed : Option End → Type 0
Completed (Some (ret x)) = Unit {0}
Completed (Some (thr v)) = Unit {0}
Completed (Some (bar w)) = ⊥
Completed None = ⊥

abbrev pub strict : Bool → Verdict → St → Strict → Strict
strict true v σ r = r
strict false independent σ r = r
strict false (touched_open x) σ r = plain_end None σ
strict false (once_while_open x) σ r = plain_end None σ
strict false (branch_threw x) σ r = plain_end None σ

abbrev pub strict_act : {A : Type 0} → Act A → ℕ → Bool → St → (A → St → Strict) → Strict
strict_act (gives a τ) n body σ k = strict body τ.verdict τ (note [] [] n (k a τ))
strict_act (refused why) n body σ k = plain_end (Some (bar why)) σ
strict_act (waiting x) n body σ k = plain_end None σ
strict_act stuck n body σ k = plain_end None σ

abbrev pub strict_ask : {q : Question} → Option (Fresh q) → Path → St → (AnsOf q → Strict) → Strict
strict_ask (Some f) p σ k = note [] (rec p f.what ∷ []) 0 (k f.answer)
strict_ask None p σ k = plain_end None σ

unfoldable pub plain_steps : {A : Type 0} → Small A → World → Path → Path → Bool → (A → St → Strict) → St → Strict
plain_steps (give a) E s b body k φ = k a φ
plain_steps (refuse why) E s b body k φ = plain_end (Some (bar why)) φ
plain_steps lost E s b body k φ = plain_end None φ
plain_steps (step o go) E s b body k φ = strict_act (act o s b body φ) (op_cost o φ) body φ (λ a τ. plain_steps (go a) E s b body k τ)
plain_steps (ask q go) E s b body k φ = strict_ask (fresh q E 0 (sub φ.calls s)) (sub φ.calls s) φ (λ a. plain_steps (go a) E s b body k (next_call φ))

abbrev pub strict_branch_end : Outcome → St → Strict
strict_branch_end o σ = ends_as o (λ v. plain_end (Some (ret (valued v))) σ) (λ v. plain_end (Some (thr v)) σ)

abbrev pub strict_body_end : World → Path → Path → Outcome → St → Strict
strict_body_end E s b o σ =
    ends_as o (λ v. plain_steps (taking v) E s b true (λ d τ. plain_end (Some (ret (datum d))) τ) σ) (λ v. plain_end (Some (thr v)) σ)

-- the data that a once record holds
abbrev pub kept_data : Option End → Option Data
kept_data (Some (ret x)) = Some (data_in x)
kept_data (Some (thr v)) = None
kept_data (Some (bar w)) = None
kept_data None = None

abbrev pub strict_once : Option End → Strict → Path → Bool → St → (End → St → Strict) → Strict
strict_once (Some (ret x)) r p body σ k = note (r.log ++ (entry p (noting (Some (data_in x)) r.cost) ∷ [])) (r.made ++ (rec p (kept.Once (data_in x)) ∷ [])) r.cost (k (ret (datum (data_in x))) σ)
strict_once (Some (thr v)) r p body σ k =
    note (r.log ++ (entry p (noting None r.cost) ∷ [])) r.made r.cost (strict body r.st.verdict r.st (k (thr v) (leave σ r.st)))
strict_once (Some (bar why)) r p body σ k = record { out = Some (bar why); st = r.st; log = r.log ++ (entry p (noting None r.cost) ∷ []); made = r.made; cost = r.cost }
strict_once None r p body σ k = record { out = None; st = r.st; log = r.log ++ (entry p (noting None r.cost) ∷ []); made = r.made; cost = r.cost }

abbrev pub strict_once_goes : World → Path → Path → Bool → (Outcome → St → Strict) → End → St → Strict
strict_once_goes E s b body k (ret x) σ = plain_steps (put_data (data_in x)) E s b body (λ v τ. k (Normal v) τ) σ
strict_once_goes E s b body k (thr v) σ = k (Throw v) σ
strict_once_goes E s b body k (bar why) σ = plain_end (Some (bar why)) σ

abbrev pub strict_fork : Option End → Strict → Path → St → (End → St → Strict) → Strict
strict_fork (Some (ret x)) r p σ k = note r.log r.made r.cost (k (ret (valued Undefined)) (give_value (value_in x) (leave σ (cut_all p r.st))))
strict_fork (Some (thr v)) r p σ k = record r { out = None }
strict_fork (Some (bar why)) r p σ k = r
strict_fork None r p σ k = r

abbrev pub strict_fork_goes : (Outcome → St → Strict) → End → St → Strict
strict_fork_goes k (ret x) σ = k (Normal Undefined) σ
strict_fork_goes k (thr v) σ = k (Throw v) σ
strict_fork_goes k (bar why) σ = plain_end (Some (bar why)) σ

abbrev pub strict_unless : Bool → St → Strict → Strict
strict_unless true σ r = plain_end (Some (bar ForkInOnce)) σ
strict_unless false σ r = r

abbrev pub strict_normal : (Val → St → Strict) → (Outcome → St → Strict) → Outcome → St → Strict
strict_normal go k (Normal v) σ = go v σ
strict_normal go k Break σ = k Break σ
strict_normal go k Continue σ = k Continue σ
strict_normal go k (Return v) σ = k (Return v) σ
strict_normal go k (Throw v) σ = k (Throw v) σ

unfoldable pub strict_turns : ℕ → ((Outcome → St → Strict) → St → Strict) → (Outcome → St → Strict) → St → Strict
strict_turns zero turn k σ = plain_end None σ
strict_turns (suc n) turn k σ = turn (strict_normal (λ v τ. strict_turns n turn k τ) k) σ

unfoldable pub plain : Prog → World → ℕ → Path → Path → Bool → (Outcome → St → Strict) → St → Strict
plain (Done o) E N s b body k φ = k o φ
plain (Ask p go) E N s b body k φ = plain_steps (steps_of p) E s b body (λ a τ. plain (go a) E N s b body k τ) φ
plain (Then g go) E N s b body k φ = plain g E N s b body (strict_normal (λ v τ. plain (go v) E N s b body k τ) k) φ
plain (Always g go) E N s b body k φ = plain g E N s b body (λ o τ. plain (go o) E N s b body k τ) φ
plain (Once g) E N s b body k φ =
    strict body (once_call b (next_call φ)).verdict (next_call φ) (strict_once
    (plain g E N (sub φ.calls s) b true (strict_body_end E (sub φ.calls s) b) (enter (once_call b (next_call φ)))).out
    (plain g E N (sub φ.calls s) b true (strict_body_end E (sub φ.calls s) b) (enter (once_call b (next_call φ))))
    (sub φ.calls s) body (once_call b (next_call φ))
    (strict_once_goes E s b body k))
plain (Fork g) E N s b body k φ =
    strict_unless body φ (strict_fork
    (plain g E N (sub φ.calls s) (sub φ.calls s) false strict_branch_end (enter (next_call φ))).out
    (plain g E N (sub φ.calls s) (sub φ.calls s) false strict_branch_end (enter (next_call φ)))
    (sub φ.calls s) (next_call φ)
    (strict_fork_goes k))
plain (Loop g) E N s b body k φ = strict_turns N (λ k' τ. plain g E N s b body k' τ) k φ
