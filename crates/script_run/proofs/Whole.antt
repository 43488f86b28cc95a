-- The run of a whole script, by what an evaluator did from its beginning.
use Rattle.std.specs.Prelude.{ℕ, Bool, true, false, List, [], map, Result}
use Rattle.std.proofs.Common.{◌≡◌, refl, sym, ap, subst, ◌∙◌, arith, suc, ◌++◌}
use Rattle.turk_base.specs.Names.{Units, root, In}
use Rattle.turk_base.specs.Start.{start}
use Rattle.turk_base.specs.State.{any_gone}
use Rattle.turk_base.specs.Asks.{Rec}
use Rattle.turk_base.specs.Prog.{Prog}
use Rattle.turk_base.specs.Told.{records_of}
use Rattle.js_tree.specs.declared.Script.{Script}
use Rattle.js_tree.specs.World as world
use Rattle.js_tree.specs.World.{World, Rest}
use Rattle.js_tree.specs.Run.{Res, branch_end, halted, undrawn}
use Rattle.js_tree.specs.Eval.{close, closed, eval, meaning, fuel}
use Rattle.run_laws.proofs.Cuts.{Next, Follows, makes, lacks_draw, unknown}
use Rattle.run_laws.proofs.Sequel.{Place}
use Rattle.ask_model.specs.declared.AskStop.{AskStop}
use Rattle.ask_model.specs.Asker.{Seen as Asked}
use Rattle.value_cells.specs.Seen.{Naming, Seen, Fits}
use Rattle.run_host.specs.declared.Exit.{Exit}
use Rattle.run_host.specs.declared.Flow.{Flow}
use Rattle.run_host.specs.Moment.{alone, Moment, Suits, Clear, AllDealt, place, rest_of, draws_in}
use Rattle.run_host.specs.Told.{Told, told_flow, next_of}
use Rattle.run_host.specs.Ends.{Comes, says, halts, fails}
use Rattle.run_host.specs.Did.{Runs}
use Rattle.machine_host.specs.declared.Wait.{Wait as CodeWait}
use Rattle.machine_host.specs.Moments.{wait_in}
use Rattle.machine_host.specs.Starts.{Begins}
use Rattle.run_host.proofs.Moments.{fits_before}
use Rattle.script_run.specs.Closes.{ClosesAt, Closes}
use Rattle.script_run.specs.Tells.{IsCome, Asks}

-- a run that is closed made as much, and is undrawn as before
follows_closed : (m : List Rec) (x : Next) (e : Res) → Follows m x e → Follows m x (close e)
follows_closed m (makes r) e f = f
follows_closed m lacks_draw e f = (ap (closed (any_gone root e.st.gone)) f.0 ∙ still (any_gone root e.st.gone), f.1)
  where
    still : (b : Bool) → closed b (halted undrawn) ≡ halted undrawn
    still true = refl
    still false = refl
follows_closed m unknown e f = f

-- the place where a whole script runs
abbrev at_root : World → List Rec → ℕ → Place
at_root E T n = record { world = E; trace = T; bound = suc n; scope = root; branch = root; body = false }

closes_by : {S : Prog} {E : World} {T : List Rec} {n : ℕ} {nu : Naming} (new : Moment alone) (told : Told) →
    Comes (at_root E T n) S start (fuel n) new.made (next_of E (draws_in new.made) new.unmade) told (new.heap.first nu) (rest_of new) →
    Closes E told nu new (eval S E T n)
closes_by new _ (says e) = ap close (e.holds branch_end)
closes_by new _ (halts h) = record { out = h.out; is = h.is; at = h.at; left = h.left; like = h.like; closed = ap close (h.stops.holds branch_end) }
closes_by new _ (fails c) = follows_closed _ _ _ (c.holds branch_end)

pub whole : {S : Prog} {told : Naming → Told} {session : Units} {T : List Rec} {pairs : List (Units × Units)} {n : ℕ} {words : ℕ → ℕ} {old new : Moment alone} →
    Begins session T pairs n words old → Runs (λ nu. S) told old new → (nu : Naming) → Fits nu new.heap.names → (E : World) → Suits E new → Closes E (told nu) nu new (eval S E T n)
whole {S} {told} {session} {T} {pairs} {n} {words} {old} {new} b r nu f E s = closes_by new (told nu) (subst (λ l. Comes (at_root E T n) S start (fuel n) l next (told nu) (new.heap.first nu) (rest_of new)) (sym made) began)
  where
    next : AskStop → Next
    next = next_of E (draws_in new.made) new.unmade

    made : new.made ≡ r.added
    made = r.made ∙ ap (λ l. l ++ r.added) b.made

    clear : Clear nu old
    clear q i a = nothing (subst (λ l. In Rec q l) b.made i)
      where
        nothing : In Rec q [] → ⊥
        nothing = elim [ ]

    here : place E (suc n) old ≡ at_root E T n
    here = λ i. record { world = E; trace = b.trace_is i; bound = suc n; scope = b.path i; branch = b.branch i; body = b.body i }

    rest : rest_of old ≡ fuel n
    rest = λ i. record { left = b.left i; drawn = draws_in (b.made i); forks = b.forks i; waits = b.waits i }

    began : Comes (at_root E T n) S start (fuel n) r.added next (told nu) (new.heap.first nu) (rest_of new)
    began = subst (λ p. Comes p S start (fuel n) r.added next (told nu) (new.heap.first nu) (rest_of new)) here
        (subst (λ σ. Comes (place E (suc n) old) S σ (fuel n) r.added next (told nu) (new.heap.first nu) (rest_of new)) (b.first nu (fits_before r.same.grows f))
        (subst (λ w. Comes (place E (suc n) old) S (old.heap.first nu) w r.added next (told nu) (new.heap.first nu) (rest_of new)) rest
        (r.ran nu f E s (suc n) (let l = b.left in omega (arith, l)) clear)))

-- the same, as it is told of what is left of a run
pub come : (S : Script) (session : Units) (old new : Asked) (n forks : ℕ) (ws : List CodeWait) (s : Seen) (flow : Result Flow Exit) (words : ℕ → ℕ) (m0 m1 : Moment alone) →
    Begins session (records_of old.trace) old.replies n words m0 → Runs (λ nu. meaning S) (λ nu. told_flow nu flow) m0 m1 →
    s ≡ m1.heap → forks ≡ m1.forks → map wait_in ws ≡ m1.waits → records_of new.made ≡ m1.made → IsCome m1.unmade S session old new n forks ws s flow
come S session old new n forks ws s flow words m0 m1 b r heap f w made = λ nu fits E kn.
    let suits : Suits E m1 = record { session = kn.session_is ∙ sym (r.same.session ∙ b.session_is); pairs = kn.pairs_are ∙ sym (r.same.pairs ∙ b.pairs_are); dealt = subst (AllDealt E.dice 0) made kn.dealt } in
    let c = whole b r nu (subst (λ (t : Seen). Fits nu t.names) heap fits) E suits in
    subst (λ l. ClosesAt E m1.unmade l (told_flow nu flow) (s.first nu) (record { left = s.left; drawn = draws_in l; forks = forks; waits = map wait_in ws }) (eval (meaning S) E (records_of old.trace) n)) (sym made)
    (subst (λ (t : Seen). ClosesAt E m1.unmade m1.made (told_flow nu flow) (t.first nu) (record { left = t.left; drawn = draws_in m1.made; forks = forks; waits = map wait_in ws }) (eval (meaning S) E (records_of old.trace) n)) (sym heap)
    (subst (λ k. ClosesAt E m1.unmade m1.made (told_flow nu flow) (m1.heap.first nu) (record { left = m1.heap.left; drawn = draws_in m1.made; forks = k; waits = map wait_in ws }) (eval (meaning S) E (records_of old.trace) n)) (sym f)
    (subst (λ l. ClosesAt E m1.unmade m1.made (told_flow nu flow) (m1.heap.first nu) (record { left = m1.heap.left; drawn = draws_in m1.made; forks = m1.forks; waits = l }) (eval (meaning S) E (records_of old.trace) n)) (sym w) c)))

-- what was drawn are the next words, and the trace and the replies are as before
pub asks : {S : Prog} {told : Naming → Told} (session : Units) (old new : Asked) (n : ℕ) (words : ℕ → ℕ) (m0 m1 : Moment alone) →
    Begins session (records_of old.trace) old.replies n words m0 → Runs (λ nu. S) told m0 m1 →
    records_of new.trace ≡ m1.trace → new.replies ≡ m1.pairs → records_of new.made ≡ m1.made → Asks words old new
asks session old new n words m0 m1 b r trace pairs made = record {
  trace = trace ∙ r.same.trace ∙ b.trace_is;
  replies = pairs ∙ r.same.pairs ∙ b.pairs_are;
  dealt = subst (AllDealt (world.words words) 0) (sym (made ∙ r.made ∙ ap (λ l. l ++ r.added) b.made)) (subst (λ v. AllDealt (world.words v) 0 r.added) b.words_are r.dealt);
}
