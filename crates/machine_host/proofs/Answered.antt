-- The requests that a machine answers alone.
use Rattle.std.specs.Prelude.{◌-◌, ◌+◌, nat_lt, Bool, true, false, map, reverse, Result, Ok, Err, OnOk}
use Rattle.std.proofs.Common.{◌≡◌, ◌≤◌, ℕ, refl, sym, ap, subst, arith, ◌∷◌, List, []}
use Rattle.std.proofs.lemmas.Bool.Decides.{nat_tests}
use Rattle.turk_base.specs.Names.{Units, Path, Name, path_in}
use Rattle.turk_base.specs.Values.{Val}
use Rattle.turk_base.specs.Prog.{Prim, AnswerOf, Pay, WriteName, Declare, ask}
use Rattle.turk_base.specs.State.{act}
use Rattle.turk_base.specs.Steps.{Small, steps_of}
use Rattle.js_tree.specs.Run.{run}
use Rattle.ask_model.specs.Asker.{Seen as Asked}
use Rattle.value_cells.specs.declared.OpStop.{OpStop}
use Rattle.value_cells.specs.Seen.{Naming, Seen, Scope, val_in}
use Rattle.value_cells.specs.Comes.{Comes, goes, stops, spends, other, charged, comes}
use Rattle.value_cells.specs.Does.{Told, Says, Stays, Does, told}
use Rattle.run_heap.specs.Works.{Performs}
use Rattle.eval_ops.specs.Run.{Run, seen_of}
use Rattle.value_cells.specs.declared.Value.{Value}
use Rattle.run_host.specs.Moment.{alone, Moment}
use Rattle.run_host.specs.declared.Exit.{Exit}
use Rattle.run_host.specs.Steps.{Step, Gives, Takes}
use Rattle.machine_host.specs.declared.AskedRun.{AskedRun}
use Rattle.machine_host.specs.Exits.{answer_at}
use Rattle.machine_host.specs.Guards.{absent_in, guarded}
use Rattle.machine_host.specs.Runs.{heap_of, moment_of}
use Rattle.machine_host.proofs.Turns.{Asks, answered_run, steps_came, takes_steps, with_heap, naming}

-- ---- a machine in the guise of a heap

abbrev rest_of : List Scope → List Scope
rest_of [] = []
rest_of (s ∷ l) = l

abbrev first_gone : List Scope → Naming → List Path
first_gone [] nu = []
first_gone (s ∷ l) nu = (s.back nu).gone

module _ (old new : Run) where
  pub guarded_stays : new.gone ≡ old.gone → Stays (seen_of old) (seen_of new) → Stays (guarded old) (guarded new)
  guarded_stays g h = record { scope = h.scope; outer = (λ i. record (absent_in old) { back = λ nu. record ((absent_in old).back nu) { gone = map path_in (reverse (g i)) } } ∷ h.outer i); grows = h.grows; below = h.below }

  pub guarded_does : {p : Naming → Prim} {said : (nu : Naming) → Told (AnswerOf (p nu))} → new.gone ≡ old.gone → Does p said (seen_of old) (seen_of new) → Does p said (guarded old) (guarded new)
  guarded_does g h = record { stays = guarded_stays g h.stays; did = h.did }

  pub stays_of : Stays (guarded old) (guarded new) → Stays (seen_of old) (seen_of new)
  stays_of h = record { scope = h.scope; outer = ap rest_of h.outer; grows = h.grows; below = h.below }

  pub gone_of : Stays (guarded old) (guarded new) → (nu : Naming) → ((seen_of new).first nu).gone ≡ ((seen_of old).first nu).gone
  gone_of h nu = λ i. first_gone (h.outer i) nu

-- ---- requests

module _ {A B : Type 0} (f : Naming → Step A) (g : Naming → Small A) (asks : (nu : Naming) → Asks (f nu) (g nu)) (h : Naming → B → A) where
  pub request : {X : Type 0} (seen : X → Asked) (words : X → ℕ → ℕ) (run : AskedRun X) (m : Run) (r : Result B OpStop) (x : Result B Exit) → x ≡ answer_at r → Performs g (λ nu. told (h nu) r) (heap_of run) (seen_of m)
      → m.gone ≡ run.guarded.machine.gone → Takes f h x (moment_of seen words run) (with_heap (moment_of seen words run) (seen_of m))
  request seen words run m r x e p gone =
      let old = moment_of seen words run in
      subst (λ x. Takes f h x old (with_heap old (seen_of m))) (sym e) (takes_steps f g asks h old (seen_of m) r p (λ nu. ap (λ l. map path_in (reverse l)) gone))

abbrev left_in : Comes (Unit {0}) → ℕ
left_in (goes u σ n) = n
left_in (stops why σ n) = 0
left_in (spends σ n) = 0
left_in other = 0

abbrev is_spent : Comes (Unit {0}) → Bool
is_spent (goes u σ n) = false
is_spent (stops why σ n) = false
is_spent (spends σ n) = true
is_spent other = false

paid_by : (s t : Seen) (n : ℕ) (r : Result (Unit {0}) OpStop) → Performs (λ nu. steps_of (Pay n)) (λ nu. told (λ u. u) r) s t → OnOk (answer_at r) (t.left + n ≡ s.left)
unfolding steps_of comes act
paid_by s t n (Err e) p = tt
paid_by s t n (Ok u) p = let x = naming t.names in by x.0 (nat_lt s.left n) refl (p.did x.0 x.1)
  where
    by : (nu : Naming) (b : Bool) → nat_lt s.left n ≡ b → charged b n (s.first nu) s.left (goes (tt {0}) (s.first nu) (s.left - n)) ≡ goes (tt {0}) (t.first nu) t.left → t.left + n ≡ s.left
    by nu true b e = let l = ap is_spent e in let z : ⊥ = cc in absurd z
    by nu false b e = let l = ap left_in e in let q : n ≤ s.left = grind (arith, nat_tests) in omega (arith, l, q)

pub pay_left : (s t : Seen) (n : ℕ) (r : Result (Unit {0}) OpStop) (x : Result (Unit {0}) Exit) → x ≡ answer_at r → Performs (λ nu. steps_of (Pay n)) (λ nu. told (λ u. u) r) s t → OnOk x (t.left + n ≡ s.left)
pay_left s t n r x e p = subst (λ x. OnOk x (t.left + n ≡ s.left)) (sym e) (paid_by s t n r p)

-- a name is declared as it is set
pub declares : (c : Name) (name : Units) (v : Val) → Asks (ask (Declare c name v)) (steps_of (WriteName c name v))
unfolding run steps_of
declares c name v = record { runs = λ p go k σ w. refl }

pub declared_set : (c : Naming → Name) (name : Units) (v : Value) (r : Result (Unit {0}) OpStop) (s t : Seen) → Does (λ nu. Declare (c nu) name (val_in nu v)) (λ nu. told (λ u. u) r) s t → Does (λ nu. WriteName (c nu) name (val_in nu v)) (λ nu. told (λ u. u) r) s t
unfolding steps_of
declared_set c name v r s t d = record { stays = d.stays; did = d.did }

-- what is looked at changes nothing
pub looked : {A : Type 0} (f : Naming → Step A) (g : Naming → Small A) (asks : (nu : Naming) → Asks (f nu) (g nu)) (a : Naming → A) (m : Moment alone) → Performs g (λ nu. Says (a nu)) m.heap m.heap → Gives f a m m
looked f g asks a m p = record { goes = λ go. record { goes = λ said last r. answered_run (steps_came f g asks m go) m.heap p.stays a p.did (λ nu c k. refl) r } }
