-- What a run does with a program over a trace: the one interpreter of requests, asks, scopes and loops (own rules).
use Rattle.std.specs.Prelude.{ℕ, List, Bool, true, false, Option, Some, None, ◌-◌, nat_lt}
use Rattle.std.proofs.Common.{suc, zero, [], ◌∷◌, ◌++◌}
use Rattle.turk_base.specs.Names.{Path, sub}
use Rattle.turk_base.specs.Values.{Val, Undefined, Data, DUndefined, Refusal, ForkInOnce, Outcome, Normal, Break, Continue, Return, Throw}
use Rattle.turk_base.specs.State.{St, Act, gives, refused, waiting, stuck, act, op_cost, any_gone, once_call, next_call, enter, leave, give_value, cut_all, threw, absent}
use Rattle.turk_base.specs.Asks.{Question, posts, replies, draws, AnsOf, Rec, rec, find, below}
use Rattle.turk_base.specs.Prog.{Prog, Done, Ask, Then, Always, Once, Fork, Loop}
use Rattle.turk_base.specs.Steps.{Small, give, refuse, lost, step, ask, taking, put_data, steps_of}
use Rattle.turk_base.specs.declared.Record.TheVariants as kept
use Rattle.js_tree.specs.World.{World, called_by, called_once, called_fork, found_kept, found_below, Divergence, diverges, kept_answer, Fresh, fresh, Rest, drew, noted}

-- what a scope leaves: a branch a value, a once body a data
pub data Gift : Type 0 where
  valued : (v : Val) → Gift
  datum : (d : Data) → Gift

abbrev pub value_in : Gift → Val
value_in (valued v) = v
value_in (datum d) = Undefined

abbrev pub data_in : Gift → Data
data_in (valued v) = DUndefined
data_in (datum d) = d

-- how a scope ends
pub data End : Type 0 where
  ret : (x : Gift) → End
  thr : (v : Val) → End
  bar : (why : Refusal) → End

pub data Why : Type 0 where
  spent undrawn missing : Why
  diverged : (d : Divergence) → Why

pub data Out : Type 0 where
  ended : (e : End) → Out
  waits : Out
  halted : (why : Why) → Out

-- `made` has the records that this part of the run made, in order.
pub record Res : Type 0 where
  pub out : Out
  pub st : St
  pub rest : Rest
  pub made : List Rec

abbrev pub res : Out → St → Rest → Res
res o σ w = record { out = o; st = σ; rest = w; made = [] }

abbrev pub add : List Rec → Res → Res
add l r = record r { made = l ++ r.made }

abbrev pub pay_if : Bool → ℕ → St → Rest → (Rest → Res) → Res
pay_if true n σ w k = res (halted spent) σ w
pay_if false n σ w k = k (record w { left = w.left - n })

abbrev pub pay : ℕ → St → Rest → (Rest → Res) → Res
pay n σ w k = pay_if (nat_lt w.left n) n σ w k

abbrev pub on_act : {A : Type 0} → Act A → St → Rest → (A → St → Rest → Res) → Res
on_act (gives a τ) σ w k = k a τ w
on_act (refused why) σ w k = res (ended (bar why)) σ w
on_act (waiting x) σ w k = res waits σ (record w { waits = w.waits ++ x })
on_act stuck σ w k = res (halted missing) σ w

abbrev pub on_kept : {A : Type 0} → Option A → Divergence → St → Rest → (A → Rest → Res) → Res
on_kept (Some a) d σ w k = k a w
on_kept None d σ w k = res (halted (diverged d)) σ w

-- an ask that has neither a record nor an answer
abbrev pub unanswered : Question → Out
unanswered (posts t) = waits
unanswered (replies t) = waits
unanswered (draws m) = halted undrawn

abbrev pub on_ask : (q : Question) → Option Rec → Bool → Option (Fresh q) → World → Path → St → Rest → (AnsOf q → Rest → Res) → Res
on_ask q (Some (rec r x)) low new E p σ w k = on_kept (kept_answer q E.session p x) (diverges p (found_kept x) (called_by q)) σ w k
on_ask q None true new E p σ w k = res (halted (diverged (diverges p found_below (called_by q)))) σ w
on_ask q None false (Some f) E p σ w k = add (rec p f.what ∷ []) (k f.answer (drew q w))
on_ask q None false None E p σ w k = res (unanswered q) σ (noted q w)

-- What steps do in the scope s of the branch b, and then k.
unfoldable pub run_steps : {A : Type 0} → Small A → World → List Rec → Path → Path → Bool → (A → St → Rest → Res) → St → Rest → Res
run_steps (give a) E T s b body k σ w = k a σ w
run_steps (refuse why) E T s b body k σ w = res (ended (bar why)) σ w
run_steps lost E T s b body k σ w = res (halted missing) σ w
run_steps (step o go) E T s b body k σ w =
    pay (op_cost o σ) σ w (λ w'. on_act (act o s b body σ) σ w' (λ a τ w''. run_steps (go a) E T s b body k τ w''))
run_steps (ask q go) E T s b body k σ w =
    on_ask q (find (sub σ.calls s) T) (below (sub σ.calls s) T) (fresh q E w.drawn (sub σ.calls s)) E (sub σ.calls s) (next_call σ) w
    (λ a w'. run_steps (go a) E T s b body k (next_call σ) w')

-- ---- scopes

-- a body's value, or what it throws
abbrev pub ends_as : {B : Type 0} → Outcome → (Val → B) → (Val → B) → B
ends_as (Normal v) x y = x v
ends_as Break x y = x Undefined
ends_as Continue x y = x Undefined
ends_as (Return v) x y = x v
ends_as (Throw v) x y = y v

-- A branch ends.
abbrev pub branch_end : Outcome → St → Rest → Res
branch_end o σ w = ends_as o (λ v. res (ended (ret (valued v))) σ w) (λ v. res (ended (thr v)) σ w)

-- A once body ends, in the scope s: the data of its value is taken.
abbrev pub body_end : World → List Rec → Path → Path → Outcome → St → Rest → Res
body_end E T s b o σ w =
    ends_as o (λ v. run_steps (taking v) E T s b true (λ d τ w'. res (ended (ret (datum d))) τ w') σ w) (λ v. res (ended (thr v)) σ w)

-- After a once body that ran from σ and gave r: all but fuel and records goes back to σ.
abbrev pub after_body : Out → Res → Path → St → (End → St → Rest → Res) → Res
after_body (ended (ret x)) r p σ k = add (r.made ++ (rec p (kept.Once (data_in x)) ∷ [])) (k (ret (datum (data_in x))) σ r.rest)
after_body (ended (thr v)) r p σ k = add r.made (k (thr v) (leave σ r.st) r.rest)
after_body (ended (bar why)) r p σ k = r
after_body waits r p σ k = r
after_body (halted why) r p σ k = r

abbrev pub on_once : Option Rec → St → Rest → (End → St → Rest → Res) → Res → Path → Res
on_once (Some (rec q (kept.Once d))) σ w k r p = k (ret (datum d)) σ w
on_once (Some (rec q (kept.Post t))) σ w k r p = res (halted (diverged (diverges p (found_kept (kept.Post t)) called_once))) σ w
on_once (Some (rec q (kept.Reply t x))) σ w k r p = res (halted (diverged (diverges p (found_kept (kept.Reply t x)) called_once))) σ w
on_once (Some (rec q (kept.Draw m n))) σ w k r p = res (halted (diverged (diverges p (found_kept (kept.Draw m n)) called_once))) σ w
on_once None σ w k r p = after_body r.out r p σ k

-- The data is put, and the script goes on.
abbrev pub once_goes : World → List Rec → Path → Path → Bool → (Outcome → St → Rest → Res) → End → St → Rest → Res
once_goes E T s b body k (ret x) σ w = run_steps (put_data (data_in x)) E T s b body (λ v τ w'. k (Normal v) τ w') σ w
once_goes E T s b body k (thr v) σ w = k (Throw v) σ w
once_goes E T s b body k (bar why) σ w = res (ended (bar why)) σ w

-- After a branch that ran from σ, gave r and joined; the truth value says that a branch is absent in it.
abbrev pub after_branch : Bool → Out → Res → Path → St → (End → St → Rest → Res) → Res
after_branch false (ended (ret x)) r p σ k = add r.made (k (ret (valued Undefined)) (give_value (value_in x) (leave σ (cut_all p r.st))) r.rest)
after_branch false (ended (thr v)) r p σ k = add r.made (k (thr v) (threw p (leave σ (cut_all p r.st))) r.rest)
after_branch false (ended (bar why)) r p σ k = r
after_branch true (ended e) r p σ k = add r.made (k (ret (valued Undefined)) (absent p σ) r.rest)
after_branch g waits r p σ k = add r.made (k (ret (valued Undefined)) (absent p σ) r.rest)
after_branch g (halted why) r p σ k = r

abbrev pub on_fork : Option Rec → St → Rest → (End → St → Rest → Res) → Res → Path → Res
on_fork (Some (rec q x)) σ w k r p = res (halted (diverged (diverges p (found_kept x) called_fork))) σ w
on_fork None σ w k r p = after_branch (any_gone p r.st.gone) r.out r p σ k

abbrev pub fork_goes : (Outcome → St → Rest → Res) → End → St → Rest → Res
fork_goes k (ret x) σ w = k (Normal Undefined) σ w
fork_goes k (thr v) σ w = k (Throw v) σ w
fork_goes k (bar why) σ w = res (ended (bar why)) σ w

abbrev pub unless_body : Bool → St → Rest → Res → Res
unless_body true σ w r = res (ended (bar ForkInOnce)) σ w
unless_body false σ w r = r

abbrev pub forked : Rest → Rest
forked w = record w { forks = suc w.forks }

-- ---- sequence and loops

abbrev pub on_normal : (Val → St → Rest → Res) → (Outcome → St → Rest → Res) → Outcome → St → Rest → Res
on_normal go k (Normal v) σ w = go v σ w
on_normal go k Break σ w = k Break σ w
on_normal go k Continue σ w = k Continue σ w
on_normal go k (Return v) σ w = k (Return v) σ w
on_normal go k (Throw v) σ w = k (Throw v) σ w

-- the turn again while it ends normally, N times at most
unfoldable pub turns : ℕ → ((Outcome → St → Rest → Res) → St → Rest → Res) → (Outcome → St → Rest → Res) → St → Rest → Res
turns zero turn k σ w = res (halted spent) σ w
turns (suc n) turn k σ w = turn (on_normal (λ v τ w'. turns n turn k τ w') k) σ w

-- What a program does in the scope s of the branch b over the trace T, and then k. `N` bounds the turns of each loop: it
-- is more than the fuel of the whole run, and each turn pays, so it is never reached before the fuel is spent.
unfoldable pub run : Prog → World → List Rec → ℕ → Path → Path → Bool → (Outcome → St → Rest → Res) → St → Rest → Res
run (Done o) E T N s b body k σ w = k o σ w
run (Ask p go) E T N s b body k σ w = run_steps (steps_of p) E T s b body (λ a τ w'. run (go a) E T N s b body k τ w') σ w
run (Then g go) E T N s b body k σ w = run g E T N s b body (on_normal (λ v τ w'. run (go v) E T N s b body k τ w') k) σ w
run (Always g go) E T N s b body k σ w = run g E T N s b body (λ o τ w'. run (go o) E T N s b body k τ w') σ w
run (Once g) E T N s b body k σ w =
    on_once (find (sub σ.calls s) T) (once_call b (next_call σ)) w (once_goes E T s b body k)
    (run g E T N (sub σ.calls s) b true (body_end E T (sub σ.calls s) b) (enter (once_call b (next_call σ))) w)
    (sub σ.calls s)
run (Fork g) E T N s b body k σ w =
    unless_body body σ w (on_fork (find (sub σ.calls s) T) (next_call σ) (forked w) (fork_goes k)
    (run g E T N (sub σ.calls s) (sub σ.calls s) false branch_end (enter (next_call σ)) (forked w))
    (sub σ.calls s))
run (Loop g) E T N s b body k σ w = turns N (λ k' τ w'. run g E T N s b body k' τ w') k σ w
