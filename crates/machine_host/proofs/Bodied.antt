-- What a call of once comes to, by what its body came to.
use Rattle.std.specs.Prelude.{List, None, true}
use Rattle.std.proofs.Common.{◌≡◌, refl, sym, ap, subst, ◌∙◌, [], ◌∷◌, ◌++◌, append-nil}
use Rattle.turk_base.specs.Names.{Path, sub}
use Rattle.turk_base.specs.Asks.{Rec, rec, find}
use Rattle.turk_base.specs.declared.Record.TheVariants as kept
use Rattle.turk_base.specs.Prog.{Prog, Once}
use Rattle.turk_base.specs.State.{St, once_call, next_call, enter, leave}
use Rattle.turk_base.specs.Steps.{taking, put_data}
use Rattle.turk_base.specs.Values.{Val, Data, Outcome, Normal, Throw}
use Rattle.js_tree.specs.Run.{End, ret, thr, datum, Out, ended, Res, res, add, run, run_steps, body_end, after_body, on_once, once_goes}
use Rattle.js_tree.specs.World.{Rest}
use Rattle.run_laws.proofs.Sequel.{Place, run_at, Ends, Stops}
use Rattle.run_laws.proofs.Cuts.{Next, makes, unknown, Cuts, in_body, body_at, once_cut, once_unmade}
use Rattle.run_laws.proofs.Fronts.{front, front_trans}
use Rattle.run_laws.proofs.Parting.{body_front}
use Rattle.run_laws.specs.Stops.{Front}
use Rattle.ask_model.specs.declared.AskStop.{AskStop}
use Rattle.run_host.specs.declared.Halt.{Halt}
use Rattle.run_host.specs.declared.Halt.TheVariants as halt
use Rattle.run_host.specs.Told.{Told, Says, Halts, Fails, GoesOn, IsOut}
use Rattle.run_host.specs.Ends.{Like, Halted, Comes, fails}
use Rattle.run_host.proofs.Comes.{ends_of}
use Rattle.machine_host.proofs.Branched.{halted_of}

module _ (c : Place) (g : Prog) (σ : St) (w : Rest) (none : find (sub σ.calls c.scope) c.trace ≡ None) where
  abbrev at_once : Path
  at_once = sub σ.calls c.scope

  abbrev counted : St
  counted = once_call c.branch (next_call σ)

  abbrev goes_after : (Outcome → St → Rest → Res) → End → St → Rest → Res
  goes_after k = once_goes c.world c.trace c.scope c.branch c.body k

  abbrev body_ends : Outcome → St → Rest → Res
  body_ends = body_end c.world c.trace (sub σ.calls c.scope) c.branch

  once_run : (r : Res) → body_at c g σ w ≡ r → (k : Outcome → St → Rest → Res) → run_at c (Once g) k σ w ≡ after_body r.out r at_once counted (goes_after k)
  unfolding run
  once_run r e k =
      (λ i. on_once (none i) counted w (goes_after k) (body_at c g σ w) (sub σ.calls c.scope))
      ∙ ap (λ r. after_body r.out r (sub σ.calls c.scope) counted (goes_after k)) e

  module _ (l : List Rec) (τ : St) (x : Rest) where
    -- the body gave a data
    pub once_gave : (d : Data) → body_at c g σ w ≡ add l (res (ended (ret (datum d))) τ x) → (k : Outcome → St → Rest → Res) →
        run_at c (Once g) k σ w ≡ add (l ++ rec at_once (kept.Once d) ∷ []) (run_steps (put_data d) c.world c.trace c.scope c.branch c.body (λ v υ y. k (Normal v) υ y) counted x)
    once_gave d h k = once_run (add l (res (ended (ret (datum d))) τ x)) h k
        ∙ ap (λ m. add (m ++ rec (sub σ.calls c.scope) (kept.Once d) ∷ []) (run_steps (put_data d) c.world c.trace c.scope c.branch c.body (λ v υ y. k (Normal v) υ y) (once_call c.branch (next_call σ)) x)) (append-nil l)

    -- and its record was refused
    pub once_refused : (d : Data) → body_at c g σ w ≡ add l (res (ended (ret (datum d))) τ x) → Cuts c (Once g) σ w l (makes (rec at_once (kept.Once d)))
    once_refused d h = subst (λ m. Cuts c (Once g) σ w m (makes (rec (sub σ.calls c.scope) (kept.Once d)))) (ap (λ (r : Res). r.made) h ∙ append-nil l) (once_unmade (datum d) none (ap (λ (r : Res). r.out) h))

    threw : (v : Val) → body_at c g σ w ≡ add l (res (ended (thr v)) τ x) → Ends c (Once g) (Throw v) σ w (leave counted τ) x l
    threw v h = record { holds = λ k. once_run (add l (res (ended (thr v)) τ x)) h k ∙ ap (λ m. add m (k (Throw v) (leave (once_call c.branch (next_call σ)) τ) x)) (append-nil l) }

    -- the body halted
    pub once_stops : (h : Halt) (out : Out) → IsOut h out → body_at c g σ w ≡ add l (res out τ x) → Stops c (Once g) σ w (add l (res out τ x))
    once_stops h out is e = record { holds = λ k. once_run (add l (res out τ x)) e k ∙ by h is (goes_after k) }
      where
        by : (h : Halt) → IsOut h out → (k : End → St → Rest → Res) → after_body out (add l (res out τ x)) (sub σ.calls c.scope) (once_call c.branch (next_call σ)) k ≡ add l (res out τ x)
        by (halt.Refused y) is k = ap (λ o. after_body o (add l (res out τ x)) (sub σ.calls c.scope) (once_call c.branch (next_call σ)) k) is
        by halt.Waits is k = ap (λ o. after_body o (add l (res out τ x)) (sub σ.calls c.scope) (once_call c.branch (next_call σ)) k) is
        by halt.Spent is k = ap (λ o. after_body o (add l (res out τ x)) (sub σ.calls c.scope) (once_call c.branch (next_call σ)) k) is
        by (halt.Diverges d) is k = ap (λ o. after_body o (add l (res out τ x)) (sub σ.calls c.scope) (once_call c.branch (next_call σ)) k) is.2

  -- whatever comes of it, what the body made comes first
  pub once_front : (l : List Rec) → Front l (body_at c g σ w).made → Cuts c (Once g) σ w l unknown
  once_front l f = record {
    holds = λ k. subst (λ (q : Res). Front l q.made) (sym (once_run (body_at c g σ w) refl k))
        (front_trans f (body_front (body_at c g σ w).out (body_at c g σ w) (sub σ.calls c.scope) (once_call c.branch (next_call σ)) (goes_after k)));
  }

  -- ---- by what is told of the body

  module _ (l : List Rec) (τ : St) (x : Rest) (next : AskStop → Next) where
    abbrev BodyComes : Told → Type 0
    BodyComes t = Comes (in_body c σ) g (enter (once_call c.branch (next_call σ))) w l next t τ x

    -- it gave a value, whose data is taken
    pub body_valued : (v : Val) → BodyComes (Says (Normal v)) → body_at c g σ w ≡ add l (run_steps (taking v) c.world c.trace at_once c.branch true (λ d υ y. res (ended (ret (datum d))) υ y) τ x)
    body_valued v z = (ends_of z).holds body_ends

    pub once_threw : (v : Val) → BodyComes (Says (Throw v)) → Ends c (Once g) (Throw v) σ w (leave counted τ) x l
    once_threw v z = threw l τ x v ((ends_of z).holds body_ends)

    halted_at : (h : Halt) (k : Halted (in_body c σ) g (enter (once_call c.branch (next_call σ))) w l h τ x) → body_at c g σ w ≡ add l (res k.out k.at (record x { left = k.left }))
    halted_at h k = k.stops.holds body_ends

    -- the body halted
    pub once_halted : (h : Halt) (τ' : St) → Like τ τ' → BodyComes (Halts h) → Halted c (Once g) σ w l h τ' x
    once_halted h τ' like z = let k = halted_of z in record {
      out = k.out;
      is = k.is;
      at = k.at;
      left = k.left;
      like = record { text = k.like.text ∙ like.text; verdict = k.like.verdict ∙ like.verdict; gone = k.like.gone ∙ like.gone };
      fuel = k.fuel;
      stops = once_stops l k.at (record x { left = k.left }) h k.out k.is (halted_at h k);
    }

    -- a call was refused in it
    pub once_failed : (why : AskStop) → BodyComes (Fails why) → Comes c (Once g) σ w l next (Fails why) τ x
    once_failed why (fails k) = fails (once_cut none k)

    pub once_lost : (t : Told) → BodyComes t → GoesOn t → Cuts c (Once g) σ w l unknown
    once_lost (Says o) z d = once_front l (subst (λ (r : Res). Front l r.made) (sym ((ends_of z).holds body_ends)) (front _ refl))
    once_lost (Halts h) z d = let k = halted_of z in once_front l (subst (λ (r : Res). Front l r.made) (sym (halted_at h k)) (front _ refl))
    once_lost (Fails why) z d = absurd d
