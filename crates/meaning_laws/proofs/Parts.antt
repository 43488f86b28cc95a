-- Laws that follow from the definitions of a run directly: answers, sequence, taking back, paths.
use Rattle.std.specs.Prelude.{List, Bool, true, false}
use Rattle.std.proofs.Common.{◌≡◌, ℕ, suc, zero, refl, ap, [], ◌∷◌, ◌++◌, sym, ◌∙◌}
use Rattle.turk_base.specs.Names.{Path, root, sub, indexes, path_on, path_in}
use Rattle.turk_base.specs.Values.{Val, Undefined, Outcome, Normal, Break, Continue, Return, Throw}
use Rattle.turk_base.specs.State.{St, any_gone, next_call, absent}
use Rattle.turk_base.specs.Prog.{Prim, Prog, Done, Ask, Then, Always, Once, Fork, Loop}
use Rattle.turk_base.specs.Steps.{steps_of}
use Rattle.js_tree.specs.World.{Rest}
use Rattle.js_tree.specs.Run.{waits, Res, add, run, after_branch, on_fork, fork_goes, forked, on_normal, turns, run_steps, res, halted, spent}
use Rattle.meaning_laws.specs.Laws.{Link, ResultLink, Respects, Where, run_in, AnswersAlone, SequenceGoes, AlwaysGoes, OnceTakesBack, branch_run, ForkTakesBack, PathsBothWays}

-- ---- paths

append_assoc : {A : Type 0} (l m n : List A) → (l ++ m) ++ n ≡ l ++ (m ++ n)
append_assoc [] m n = refl
append_assoc (x ∷ l) m n = ap (λ z. x ∷ z) (append_assoc l m n)

append_none : {A : Type 0} (l : List A) → l ++ [] ≡ l
append_none [] = refl
append_none (x ∷ l) = ap (λ z. x ∷ z) (append_none l)

on_both : (p : Path) (l m : List ℕ) → path_on p (l ++ m) ≡ path_on (path_on p l) m
on_both p [] m = refl
on_both p (i ∷ l) m = on_both (sub i p) l m

back : (p : Path) → path_in (indexes p) ≡ p
back root = refl
back (sub i p) = on_both root (indexes p) (i ∷ []) ∙ ap (λ q. sub i q) (back p)

indexes_on : (p : Path) (l : List ℕ) → indexes (path_on p l) ≡ indexes p ++ l
indexes_on p [] = sym (append_none (indexes p))
indexes_on p (i ∷ l) = indexes_on (sub i p) l ∙ append_assoc (indexes p) (i ∷ []) l

pub paths_both_ways : PathsBothWays
paths_both_ways = (back, λ l. indexes_on root l)

-- ---- sequence

pub sequence_goes : SequenceGoes
unfolding run
sequence_goes g go E T N s b body k σ w = refl

pub always_goes : AlwaysGoes
unfolding run
always_goes g go E T N s b body k σ w = refl

-- ---- taking back

pub once_takes_back : OnceTakesBack
unfolding run
once_takes_back g E T N s b body k σ w x e o = rw e (rw o refl)

pub fork_takes_back : ForkTakesBack
unfolding run
fork_takes_back g E T N s b k σ w e o = ap (λ z. on_fork z (next_call σ) (forked w) (fork_goes k) (branch_run g E T N s σ w) (sub σ.calls s)) e
    ∙ ap (λ z. after_branch (any_gone (sub σ.calls s) (branch_run g E T N s σ w).st.gone) z (branch_run g E T N s σ w) (sub σ.calls s) (next_call σ) (fork_goes k)) o
    ∙ inner (branch_run g E T N s σ w) (sub σ.calls s) (any_gone (sub σ.calls s) (branch_run g E T N s σ w).st.gone)
  where
    inner : (r : Res) (p : Path) (g : Bool) → after_branch g waits r p (next_call σ) (fork_goes k) ≡ add r.made (k (Normal Undefined) (absent p (next_call σ)) r.rest)
    inner r p true = refl
    inner r p false = refl

-- ---- a tree learns of the state by answers alone

module _ (R : Link) (Q : ResultLink) (c d : Where) (N : ℕ)
    (asks : (p : Prim) → Respects R Q (run_steps (steps_of p) c.world c.trace c.scope c.branch c.body) (run_steps (steps_of p) d.world d.trace d.scope d.branch d.body))
    (onces : (g : Prog) → Respects R Q (run_in c N (Once g)) (run_in d N (Once g)))
    (forks : (g : Prog) → Respects R Q (run_in c N (Fork g)) (run_in d N (Fork g)))
    (ends : (σ τ : St) (w x : Rest) → R σ w τ x ≡ true → Q (res (halted spent) σ w) (res (halted spent) τ x) ≡ true) where
  KeepsK : {A : Type 0} → (k l : A → St → Rest → Res) → Type 0
  KeepsK {A} k l = (a : A) (σ τ : St) (w x : Rest) → R σ w τ x ≡ true → Q (k a σ w) (l a τ x) ≡ true

  normal_alone : (m n : Val → St → Rest → Res) (k l : Outcome → St → Rest → Res) → KeepsK m n → KeepsK k l → KeepsK (on_normal m k) (on_normal n l)
  unfolding KeepsK
  normal_alone m n k l hm hk (Normal v) = hm v
  normal_alone m n k l hm hk Break = hk Break
  normal_alone m n k l hm hk Continue = hk Continue
  normal_alone m n k l hm hk (Return v) = hk (Return v)
  normal_alone m n k l hm hk (Throw v) = hk (Throw v)

  turns_alone : (g : Prog) → Respects R Q (run_in c N g) (run_in d N g) → (m : ℕ) →
      Respects R Q (turns m (λ k τ w. run_in c N g k τ w)) (turns m (λ k τ w. run_in d N g k τ w))
  unfolding turns KeepsK
  turns_alone g h zero k l hk = ends
  turns_alone g h (suc m) k l hk = h _ _ (normal_alone _ _ k l (λ v. turns_alone g h m k l hk) hk)

  alone : (g : Prog) → Respects R Q (run_in c N g) (run_in d N g)
  unfolding run KeepsK
  alone (Done o) k l hk = hk o
  alone (Ask p go) k l hk = asks p _ _ (λ a. alone (go a) k l hk)
  alone (Then g go) k l hk = alone g _ _ (normal_alone _ _ k l (λ v. alone (go v) k l hk) hk)
  alone (Always g go) k l hk = alone g _ _ (λ o. alone (go o) k l hk)
  alone (Once g) k l hk = onces g k l hk
  alone (Fork g) k l hk = forks g k l hk
  alone (Loop g) k l hk = turns_alone g (alone g) N k l hk

pub answers_alone : AnswersAlone
answers_alone R Q c d N asks onces forks ends g = alone R Q c d N asks onces forks ends g
