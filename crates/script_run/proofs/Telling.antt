-- What is told of a run, by how its last statement ended.
use Rattle.std.specs.Prelude.{ℕ, List, [], ◌∷◌, Option, Result, Ok, Err, IfErr, Bool, false, Some, None}
use Rattle.std.specs.Option.{IfSome}
use Rattle.std.proofs.Common.{◌≡◌, ◌⊎◌, refl, sym, ap, ◌∙◌, subst, inl, inr, IsErrAnd}
use Rattle.turk_base.specs.Names.{Units}
use Rattle.turk_base.specs.Asks.{Rec}
use Rattle.turk_base.specs.State.{St}
use Rattle.turk_base.specs.Told.{records_of}
use Rattle.turk_base.specs.declared.Entry.{Entry}
use Rattle.js_tree.specs.declared.Script.{Script}
use Rattle.js_tree.specs.Run.{Res, branch_end}
use Rattle.js_tree.specs.World.{World, Rest}
use Rattle.js_tree.specs.Eval.{eval, meaning}
use Rattle.run_laws.specs.Stops.{Front}
use Rattle.run_laws.proofs.Fronts.{front, assoc, nothing_more}
use Rattle.run_laws.proofs.Cuts.{Next, Follows, makes, lacks_draw, unknown}
use Rattle.ask_model.specs.Asker.{Seen as Asked}
use Rattle.ask_model.specs.declared.AskStop.{AskStop}
use Rattle.ask_model.specs.declared.AskStop.TheVariants.{Memory, Fault, Diverged, TraceFull, LogFull}
use Rattle.value_cells.specs.Seen.{Naming, Seen, Fits}
use Rattle.run_host.specs.declared.Exit.{Exit}
use Rattle.run_host.specs.declared.Exit.TheVariants.{Stopped}
use Rattle.run_host.specs.declared.Flow.{Flow}
use Rattle.run_host.specs.Moment.{Unmade, nothing_known}
use Rattle.run_host.specs.Told.{Told, Says, Halts, Fails, told_flow, IsShown}
use Rattle.machine_host.specs.declared.AskedRun.{AskedRun}
use Rattle.machine_host.specs.declared.Unmade.TheVariants.{Nothing}
use Rattle.machine_host.specs.declared.Wait.{Wait as CodeWait}
use Rattle.machine_host.specs.Moments.{unmade_in}
use Rattle.machine_host.specs.Chain.{IsRecordOf, IsCause}
use Rattle.machine_host.proofs.Turns.{naming}
use Rattle.script_run.specs.Closes.{ClosesAt}
use Rattle.script_run.specs.Tells.{StopIs, by_asker, HasCause, EndsBy, Refused, IsRefused, IsCome, IsStopped}

-- what was made is a front of what is made
pub front_of : (m : List Rec) (x : Next) (e : Res) → Follows m x e → Front m e.made
front_of m (makes r) e f = front (r ∷ f.rest) (f.is ∙ assoc m (r ∷ []) f.rest)
front_of m lacks_draw e f = front [] (f.1 ∙ nothing_more m)
front_of m unknown e f = f

-- however it ended, what was made is a front of what it makes
pub memory_stops : {cause : AskStop → Type 0} {E : World} {u : Unmade} {made : List Rec} {e : Res} (σ : St) (w : Rest) (t : Told) → cause Memory → ClosesAt E u made t σ w e → StopIs cause E u made e Memory
memory_stops {made = made} σ w (Says o) lost is = by_asker lost (front (branch_end o σ w).made (ap (λ (e : Res). e.made) is))
memory_stops σ w (Halts h) lost a = by_asker lost (front [] (ap (λ (e : Res). e.made) a.closed))
memory_stops {made = made} {e = e} σ w (Fails why) lost f = by_asker lost (front_of made _ e f)

pub stops_told : (cause : AskStop → Type 0) (u : Unmade) (S : Script) (session : Units) (old new : Asked) (fuel forks : ℕ) (waits : List CodeWait) (s : Seen) (flow : Result Flow Exit) (why : AskStop) → IsCome u S session old new fuel forks waits s flow
    → ((nu : Naming) → Fits nu s.names → (E : World) (u : Unmade) (made : List Rec) (w : Rest) (e : Res) → ClosesAt E u made (told_flow nu flow) (s.first nu) w e → StopIs cause E u made e why) → IsStopped cause u S session old new fuel why
stops_told cause u S session old new fuel forks waits s flow why k f = let n = naming s.names in λ E kn. f n.0 n.1 E u _ _ _ (k n.0 n.1 E kn)

-- a refusal that is told has its cause
pub has_cause : (P : AskStop → Type 0) (why : AskStop) (before told : Option AskStop) → IsShown (Fails why) before told → IfSome told P → (why ≡ Memory) ⊎ P why
has_cause P Memory before told shown h = inl refl
has_cause P (Fault which) before told shown h = inr (subst (λ o. IfSome o P) shown h)
has_cause P (Diverged d) before told shown h = inr (subst (λ o. IfSome o P) shown h)
has_cause P TraceFull before told shown h = inr (subst (λ o. IfSome o P) shown h)
has_cause P LogFull before told shown h = inr (subst (λ o. IfSome o P) shown h)

-- the same of how a last statement ended
pub caused : (P : AskStop → Type 0) (nu : Naming) (flow : Result Flow Exit) (before told : Option AskStop) → IsShown (told_flow nu flow) before told → IfSome told P → (why : AskStop) → flow ≡ Err (Stopped why) → (why ≡ Memory) ⊎ P why
caused P nu flow before told shown h why is = has_cause P why before told (subst (λ (r : Result Flow Exit). IsShown (told_flow nu r) before told) is shown) h

-- what a run tells of a refusal that it tells
pub told_cause : {A : Type 0} (seen : A → Asked) (fits : A → Entry → Bool) (refuses : AskStop → Type 0) (after : A) (h0 h1 : AskedRun A) → ((why : AskStop) → h1.notes.stopped ≡ Some why → (h0.notes.stopped ≡ Some why) ⊎ IsCause seen fits h1 why) → h0.notes.stopped ≡ None → after ≡ h1.asker
    → (told : Option AskStop) → h1.notes.stopped ≡ told → IfSome told (λ why. Refused refuses (seen after) (unmade_in h1.notes.unmade) why) → IfSome told (λ why. IsRefused refuses (fits after) (seen after) h1.notes.unmade why)
told_cause seen fits refuses after h0 h1 by quiet ends None is h = h
told_cause {A} seen fits refuses after h0 h1 by quiet ends (Some why) is h = elim (by why is) [
  | inl before ↦ absurd (quiet_still (sym quiet ∙ before))
  | inr c ↦ record {
    refused = h;
    unfit = λ full. subst (λ (a : A). (e : Entry) × IsRecordOf (seen a).replies h1.notes.unmade e × (fits a e ≡ false)) (sym ends) (c.unfit full);
    held = c.held;
  }
]
  where
    quiet_still : None ≡ Some why → ⊥
    quiet_still e = cc

-- memory ran out, or so the last statement ended: each has its cause
pub end_caused : {P : AskStop → Type 0} {flow : Result Flow Exit} → ((why : AskStop) → flow ≡ Err (Stopped why) → (why ≡ Memory) ⊎ P why) → (why : AskStop) → EndsBy flow why → (why ≡ Memory) ⊎ P why
end_caused f why (inl lost) = inl lost
end_caused f why (inr is) = f why is

-- memory ran out before the first statement
pub lost_first : {refuses : AskStop → Type 0} {fits : Entry → Bool} (S : Script) (session : Units) (s : Asked) (fuel : ℕ) → s.made ≡ [] → IsStopped (HasCause refuses fits s Nothing) nothing_known S session s s fuel Memory
lost_first S session s fuel none = λ E kn. by_asker (inl refl)
    (let e = eval (meaning S) E (records_of s.trace) fuel in subst (λ l. Front (records_of l) e.made) (sym none) (front e.made refl))

pub err_exit : {A : Type 0} (P : AskStop → Type 0) (r : Result A AskStop) (e : AskStop) → IsErrAnd r (λ x. x ≡ e) → P e → IfErr r P
err_exit P (Ok a) e h p = absurd h
err_exit P (Err x) e h p = subst P (sym h) p
