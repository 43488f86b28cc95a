-- What a call of fork comes to, by what its branch came to.
use Rattle.std.specs.Prelude.{Bool, true, false, List, None}
use Rattle.std.proofs.Common.{◌≡◌, refl, sym, ap, subst, ◌∙◌, [], ◌++◌, append-nil}
use Rattle.turk_base.specs.Names.{Path, sub}
use Rattle.turk_base.specs.Asks.{Rec, find}
use Rattle.turk_base.specs.Prog.{Prog, Fork}
use Rattle.turk_base.specs.State.{St, any_gone, next_call, enter, leave, give_value, cut_all, threw, absent}
use Rattle.turk_base.specs.Values as model
use Rattle.turk_base.specs.Values.{Val, Undefined, Outcome, Normal, Throw}
use Rattle.js_tree.specs.Run.{End, ret, thr, bar, valued, Why, Out, ended, waits, halted, Res, res, add, run, branch_end, after_branch, on_fork, fork_goes, forked, unless_body}
use Rattle.js_tree.specs.World.{Rest}
use Rattle.run_laws.proofs.Sequel.{Place, run_at, Ends, Stops}
use Rattle.run_laws.proofs.Cuts.{Next, unknown, Cuts, in_branch, branch_at, fork_cut}
use Rattle.run_laws.proofs.Fronts.{front, front_trans}
use Rattle.run_laws.proofs.Parting.{branch_front}
use Rattle.run_laws.specs.Stops.{Front}
use Rattle.ask_model.specs.declared.AskStop.{AskStop}
use Rattle.run_host.specs.declared.Halt.{Halt}
use Rattle.run_host.specs.declared.Halt.TheVariants as halt
use Rattle.run_host.specs.declared.Refusal.{Refusal}
use Rattle.run_host.specs.Told.{Told, Says, Halts, Fails, GoesOn, refusal_in}
use Rattle.run_host.specs.Ends.{Like, Halted, Comes, halts, fails}
use Rattle.run_host.proofs.Comes.{ends_of}

-- how a branch ends whose call ended so
abbrev end_as : Outcome → End
end_as (Normal v) = ret (valued v)
end_as model.Break = ret (valued Undefined)
end_as model.Continue = ret (valued Undefined)
end_as (model.Return v) = ret (valued v)
end_as (Throw v) = thr v

end_is : (o : Outcome) (τ : St) (x : Rest) → branch_end o τ x ≡ res (ended (end_as o)) τ x
end_is (Normal v) τ x = refl
end_is model.Break τ x = refl
end_is model.Continue τ x = refl
end_is (model.Return v) τ x = refl
end_is (Throw v) τ x = refl

pub halted_of : {c : Place} {g : Prog} {h : Halt} {σ τ : St} {w w' : Rest} {l : List Rec} {next : AskStop → Next} → Comes c g σ w l next (Halts h) τ w' → Halted c g σ w l h τ w'
halted_of (halts k) = k

-- A branch is absent that waits, or in which one is absent.
abbrev pub EndsAbsent : Told → Bool → Type 0
EndsAbsent (Says o) b = b ≡ true
EndsAbsent (Halts (halt.Refused y)) b = b ≡ true
EndsAbsent (Halts halt.Waits) b = Unit {0}
EndsAbsent (Halts halt.Spent) b = ⊥
EndsAbsent (Halts (halt.Diverges d)) b = ⊥
EndsAbsent (Fails why) b = ⊥

-- it ends the run
abbrev pub EndsRun : Told → Type 0
EndsRun (Says o) = ⊥
EndsRun (Halts (halt.Refused y)) = ⊥
EndsRun (Halts halt.Waits) = ⊥
EndsRun (Halts halt.Spent) = Unit {0}
EndsRun (Halts (halt.Diverges d)) = Unit {0}
EndsRun (Fails why) = Unit {0}

module _ (c : Place) (g : Prog) (σ : St) (w : Rest) (here : c.body ≡ false) (none : find (sub σ.calls c.scope) c.trace ≡ None) where
  abbrev at_fork : Path
  at_fork = sub σ.calls c.scope

  fork_run : (r : Res) → branch_at c g σ w ≡ r → (b : Bool) → any_gone at_fork r.st.gone ≡ b → (k : Outcome → St → Rest → Res) →
      run_at c (Fork g) k σ w ≡ after_branch b r.out r at_fork (next_call σ) (fork_goes k)
  unfolding run
  fork_run r e b d k =
      (λ i. unless_body (here i) σ w (on_fork (none i) (next_call σ) (forked w) (fork_goes k) (branch_at c g σ w) (sub σ.calls c.scope)))
      ∙ ap (λ r. after_branch (any_gone (sub σ.calls c.scope) r.st.gone) r.out r (sub σ.calls c.scope) (next_call σ) (fork_goes k)) e
      ∙ ap (λ b. after_branch b r.out r (sub σ.calls c.scope) (next_call σ) (fork_goes k)) d

  module _ (l : List Rec) (τ : St) (x : Rest) where
    ended_absent : (e : End) → branch_at c g σ w ≡ add l (res (ended e) τ x) → any_gone at_fork τ.gone ≡ true → Ends c (Fork g) (Normal Undefined) σ w (absent at_fork (next_call σ)) x l
    ended_absent e h d = record { holds = λ k. fork_run (add l (res (ended e) τ x)) h true d k ∙ ap (λ m. add m (k (Normal Undefined) (absent (sub σ.calls c.scope) (next_call σ)) x)) (append-nil l) }

    waits_absent : branch_at c g σ w ≡ add l (res waits τ x) → Ends c (Fork g) (Normal Undefined) σ w (absent at_fork (next_call σ)) x l
    waits_absent h = record { holds = λ k. by k (any_gone at_fork τ.gone) refl ∙ ap (λ m. add m (k (Normal Undefined) (absent (sub σ.calls c.scope) (next_call σ)) x)) (append-nil l) }
      where
        by : (k : Outcome → St → Rest → Res) (b : Bool) → any_gone at_fork τ.gone ≡ b → run_at c (Fork g) k σ w ≡ add (l ++ []) (k (Normal Undefined) (absent at_fork (next_call σ)) x)
        by k true d = fork_run (add l (res waits τ x)) h true d k
        by k false d = fork_run (add l (res waits τ x)) h false d k

    value_joined : (v : Val) → branch_at c g σ w ≡ add l (res (ended (ret (valued v))) τ x) → any_gone at_fork τ.gone ≡ false →
        Ends c (Fork g) (Normal Undefined) σ w (give_value v (leave (next_call σ) (cut_all at_fork τ))) x l
    value_joined v h d = record {
      holds = λ k. fork_run (add l (res (ended (ret (valued v))) τ x)) h false d k
          ∙ ap (λ m. add m (k (Normal Undefined) (give_value v (leave (next_call σ) (cut_all (sub σ.calls c.scope) τ))) x)) (append-nil l);
    }

    throw_joined : (v : Val) → branch_at c g σ w ≡ add l (res (ended (thr v)) τ x) → any_gone at_fork τ.gone ≡ false → Ends c (Fork g) (Throw v) σ w (threw at_fork (leave (next_call σ) (cut_all at_fork τ))) x l
    throw_joined v h d = record {
      holds = λ k. fork_run (add l (res (ended (thr v)) τ x)) h false d k ∙ ap (λ m. add m (k (Throw v) (threw (sub σ.calls c.scope) (leave (next_call σ) (cut_all (sub σ.calls c.scope) τ))) x)) (append-nil l);
    }

    bars_stop : (y : model.Refusal) → branch_at c g σ w ≡ add l (res (ended (bar y)) τ x) → any_gone at_fork τ.gone ≡ false → Stops c (Fork g) σ w (add l (res (ended (bar y)) τ x))
    bars_stop y h d = record { holds = λ k. fork_run (add l (res (ended (bar y)) τ x)) h false d k }

    halts_stop : (y : Why) → branch_at c g σ w ≡ add l (res (halted y) τ x) → Stops c (Fork g) σ w (add l (res (halted y) τ x))
    halts_stop y h = record { holds = λ k. by k (any_gone at_fork τ.gone) refl }
      where
        by : (k : Outcome → St → Rest → Res) (b : Bool) → any_gone at_fork τ.gone ≡ b → run_at c (Fork g) k σ w ≡ add l (res (halted y) τ x)
        by k true d = fork_run (add l (res (halted y) τ x)) h true d k
        by k false d = fork_run (add l (res (halted y) τ x)) h false d k

  -- ---- by what is told of the branch

  module _ (l : List Rec) (τ : St) (x : Rest) (next : AskStop → Next) where
    abbrev BranchComes : Told → Type 0
    BranchComes t = Comes (in_branch c σ) g (enter (next_call σ)) (forked w) l next t τ x

    -- where it halted
    halted_is : (h : Halt) (o : Out) (k : Halted (in_branch c σ) g (enter (next_call σ)) (forked w) l h τ x) → k.out ≡ o → branch_at c g σ w ≡ add l (res o k.at (record x { left = k.left }))
    halted_is h o k e = k.stops.holds branch_end ∙ ap (λ o. add l (res o k.at (record x { left = k.left }))) e

    halted_full : (h : Halt) (o : Out) (k : Halted (in_branch c σ) g (enter (next_call σ)) (forked w) l h τ x) → k.out ≡ o → GoesOn (Halts h) → branch_at c g σ w ≡ add l (res o k.at x)
    halted_full h o k e z = halted_is h o k e ∙ ap (λ n. add l (res o k.at (record x { left = n }))) (k.fuel z)

    gone_is : {h : Halt} {b : Bool} (k : Halted (in_branch c σ) g (enter (next_call σ)) (forked w) l h τ x) → any_gone at_fork τ.gone ≡ b → any_gone at_fork k.at.gone ≡ b
    gone_is k d = ap (any_gone (sub σ.calls c.scope)) k.like.gone ∙ d

    pub fork_absent : (t : Told) → BranchComes t → EndsAbsent t (any_gone at_fork τ.gone) → Ends c (Fork g) (Normal Undefined) σ w (absent at_fork (next_call σ)) x l
    fork_absent (Says o) z d = ended_absent l τ x (end_as o) ((ends_of z).holds branch_end ∙ ap (add l) (end_is o τ x)) d
    fork_absent (Halts (halt.Refused y)) z d = let k = halted_of z in ended_absent l k.at x (bar (refusal_in y)) (halted_full (halt.Refused y) (ended (bar (refusal_in y))) k k.is tt) (gone_is k d)
    fork_absent (Halts halt.Waits) z d = let k = halted_of z in waits_absent l k.at x (halted_full halt.Waits waits k k.is tt)
    fork_absent (Halts halt.Spent) z d = absurd d
    fork_absent (Halts (halt.Diverges y)) z d = absurd d
    fork_absent (Fails why) z d = absurd d

    pub fork_joined : (v : Val) → BranchComes (Says (Normal v)) → any_gone at_fork τ.gone ≡ false → Ends c (Fork g) (Normal Undefined) σ w (give_value v (leave (next_call σ) (cut_all at_fork τ))) x l
    fork_joined v z d = value_joined l τ x v ((ends_of z).holds branch_end) d

    pub fork_threw : (v : Val) → BranchComes (Says (Throw v)) → any_gone at_fork τ.gone ≡ false → Ends c (Fork g) (Throw v) σ w (threw at_fork (leave (next_call σ) (cut_all at_fork τ))) x l
    fork_threw v z d = throw_joined l τ x v ((ends_of z).holds branch_end) d

    pub fork_refused : (y : Refusal) (τ' : St) → Like τ τ' → BranchComes (Halts (halt.Refused y)) → any_gone at_fork τ.gone ≡ false → Halted c (Fork g) σ w l (halt.Refused y) τ' x
    fork_refused y τ' like z d = let k = halted_of z in record {
      out = ended (bar (refusal_in y));
      is = refl;
      at = k.at;
      left = x.left;
      like = record { text = k.like.text ∙ like.text; verdict = k.like.verdict ∙ like.verdict; gone = k.like.gone ∙ like.gone };
      fuel = λ z. refl;
      stops = bars_stop l k.at x (refusal_in y) (halted_full (halt.Refused y) (ended (bar (refusal_in y))) k k.is tt) (gone_is k d);
    }

    -- the branch ended the run
    pub fork_ends : (t : Told) → BranchComes t → EndsRun t → Comes c (Fork g) σ w l next t τ x
    fork_ends (Says o) z d = absurd d
    fork_ends (Halts (halt.Refused y)) z d = absurd d
    fork_ends (Halts halt.Waits) z d = absurd d
    fork_ends (Halts halt.Spent) z d = let k = halted_of z in
        halts (record { out = k.out; is = k.is; at = k.at; left = k.left; like = k.like; fuel = k.fuel; stops = subst (λ o. Stops c (Fork g) σ w (add l (res o k.at (record x { left = k.left })))) (sym k.is) (halts_stop l k.at (record x { left = k.left }) _ (halted_is halt.Spent _ k k.is)) })
    fork_ends (Halts (halt.Diverges y)) z d = let k = halted_of z in
        halts (record { out = k.out; is = k.is; at = k.at; left = k.left; like = k.like; fuel = k.fuel; stops = subst (λ o. Stops c (Fork g) σ w (add l (res o k.at (record x { left = k.left })))) (sym k.is.2) (halts_stop l k.at (record x { left = k.left }) _ (halted_is (halt.Diverges y) _ k k.is.2)) })
    fork_ends (Fails why) (fails k) d = fails (fork_cut here none k)

    -- whatever comes of it, what the branch made comes first
    made_first : (r : Res) → branch_at c g σ w ≡ r → Front l r.made → Cuts c (Fork g) σ w l unknown
    made_first r e f = record {
      holds = λ k. subst (λ (q : Res). Front l q.made) (sym (fork_run r e (any_gone (sub σ.calls c.scope) r.st.gone) refl k))
          (front_trans f (branch_front (any_gone (sub σ.calls c.scope) r.st.gone) r.out r (sub σ.calls c.scope) (next_call σ) (fork_goes k)));
    }

    pub fork_lost : (t : Told) → BranchComes t → GoesOn t → Cuts c (Fork g) σ w l unknown
    fork_lost (Says o) z d = made_first (add l (branch_end o τ x)) ((ends_of z).holds branch_end) (front _ refl)
    fork_lost (Halts h) z d = let k = halted_of z in made_first (add l (res k.out k.at (record x { left = k.left }))) (k.stops.holds branch_end) (front _ refl)
    fork_lost (Fails why) z d = absurd d
