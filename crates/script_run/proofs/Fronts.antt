-- What the run of a script makes first, with the draws of a trace that a stop leaves.
use Rattle.std.specs.Prelude.{ℕ, List, [], ◌∷◌, ◌++◌, Option, Some, None, Result}
use Rattle.std.proofs.Common.{◌≡◌, refl, ap, subst, inl, inr}
use Rattle.turk_base.specs.Names.{Units}
use Rattle.turk_base.specs.Asks.{Rec}
use Rattle.turk_base.specs.State.{St}
use Rattle.turk_base.specs.Told.{record_of, records_of}
use Rattle.turk_base.specs.declared.Entry.{Entry}
use Rattle.js_tree.specs.declared.Script.{Script}
use Rattle.js_tree.specs.Run.{Res, branch_end}
use Rattle.js_tree.specs.World.{World, Rest}
use Rattle.js_tree.specs.Eval.{eval, meaning, world}
use Rattle.run_laws.specs.Stops.{Front}
use Rattle.run_laws.proofs.Fronts.{front}
use Rattle.run_laws.proofs.Parting.{stops_begin}
use Rattle.run_laws.proofs.Cuts.{Follows}
use Rattle.ask_model.specs.declared.AskStop.{AskStop}
use Rattle.ask_model.specs.declared.AskStop.TheVariants.{Memory, Fault, Diverged, TraceFull, LogFull}
use Rattle.ask_model.specs.declared.Which.{Which}
use Rattle.ask_model.specs.declared.Which.TheVariants.{Disk}
use Rattle.ask_model.specs.Asker.{Seen as Asked}
use Rattle.value_cells.specs.Seen.{Seen}
use Rattle.run_host.specs.declared.Exit.{Exit}
use Rattle.run_host.specs.declared.Flow.{Flow}
use Rattle.run_host.specs.Moment.{Unmade, draws_in}
use Rattle.run_host.specs.Told.{Told, Says, Halts, Fails, told_flow, next_in, IsShown}
use Rattle.value_cells.specs.Seen.{Naming}
use Rattle.machine_host.specs.declared.AskedRun.{AskedRun}
use Rattle.machine_host.specs.declared.Wait.{Wait as CodeWait}
use Rattle.machine_host.specs.Moments.{unmade_in}
use Rattle.machine_host.specs.Chain.{IsOpen, IsRecordOf}
use Rattle.machine_host.proofs.Turns.{naming}
use Rattle.script_run.specs.Closes.{ClosesAt}
use Rattle.script_run.specs.Tells.{IsCome, Asks, Knows}
use Rattle.script_run.proofs.Telling.{front_of}
use Rattle.script_run.proofs.Sources.{dealer, open_next}

-- however the run ended, what was made comes first
made_first : (E : World) (u : Unmade) (made : List Rec) (e : Res) (σ : St) (w : Rest) (t : Told) → ClosesAt E u made t σ w e → Front made e.made
made_first E u made e σ w (Says o) is = front (branch_end o σ w).made (ap (λ (e : Res). e.made) is)
made_first E u made e σ w (Halts h) a = front [] (ap (λ (e : Res). e.made) a.closed)
made_first E u made e σ w (Fails why) f = front_of made _ e f

none_told : {before now : Option AskStop} {which : Which} → now ≡ before → before ≡ None → now ≡ Some (Fault which) → ⊥
none_told e n s = cc

memory_told : {now : Option AskStop} {which : Which} → now ≡ Some Memory → now ≡ Some (Fault which) → ⊥
memory_told e s = cc

-- where a fault was told, what was not made comes next
fault_next : (E : World) (u : Unmade) (made : List Rec) (e : Res) {before now : Option AskStop} {which : Which} (σ : St) (w : Rest) (t : Told) → IsShown t before now → before ≡ None → now ≡ Some (Fault which) → ClosesAt E u made t σ w e → Follows made (next_in E (draws_in made) u) e
fault_next E u made e σ w (Says o) shown n s c = absurd (none_told shown n s)
fault_next E u made e σ w (Halts h) shown n s c = absurd (none_told shown n s)
fault_next E u made e σ w (Fails Memory) (inl shown) n s c = absurd (none_told shown n s)
fault_next E u made e σ w (Fails Memory) (inr shown) n s c = absurd (memory_told shown s)
fault_next E u made e σ w (Fails (Fault y)) shown n s c = c
fault_next E u made e σ w (Fails (Diverged d)) shown n s c = c
fault_next E u made e σ w (Fails TraceFull) shown n s c = c
fault_next E u made e σ w (Fails LogFull) shown n s c = c

-- What is known of a run that came to its end over an asker which had made nothing before.
pub record Came {A : Type 0} (seen : A → Asked) (S : Script) (session : Units) (fuel : ℕ) (old : Asked) (h : AskedRun A) : Type 0 where
  pub word : ℕ → ℕ
  pub forks : ℕ
  pub waits : List CodeWait
  pub state : Seen
  pub flow : Result Flow Exit
  pub none : old.made ≡ []
  pub come : IsCome (unmade_in h.notes.unmade) S session old (seen h.asker) fuel forks waits state flow
  pub asks : Asks word old (seen h.asker)
  pub shown : (nu : Naming) → IsShown (told_flow nu flow) None h.notes.stopped

module _ {A : Type 0} (seen : A → Asked) (S : Script) (session : Units) (fuel : ℕ) (old : Asked) (h : AskedRun A) (c : Came seen S session fuel old h) where
  abbrev its_made : List Rec
  its_made = records_of (seen h.asker).made

  abbrev its_run : World → Res
  its_run E = eval (meaning S) E (records_of old.trace) fuel

  -- with the asker's own words
  pub first_made : Front its_made (its_run (dealer session old.replies c.word)).made
  first_made =
      let n = naming c.state.names in
      made_first _ _ _ _ (c.state.first n.0) _ (told_flow n.0 c.flow) (c.come n.0 n.1 (dealer session old.replies c.word) (record { session_is = refl; pairs_are = refl; dealt = c.asks.dealt }))

  pub next_made : (which : Which) (w : ℕ → ℕ) → Knows (dealer session old.replies w) session old.replies its_made → h.notes.stopped ≡ Some (Fault which) →
      Follows its_made (next_in (dealer session old.replies w) (draws_in its_made) (unmade_in h.notes.unmade)) (its_run (dealer session old.replies w))
  next_made which w k s =
      let n = naming c.state.names in
      fault_next _ _ _ _ (c.state.first n.0) _ (told_flow n.0 c.flow) (c.shown n.0) refl s (c.come n.0 n.1 (dealer session old.replies w) k)

  -- the record at which the disk failed comes next, with some source
  pub open_made : (e : Entry) → IsOpen seen h e → (w : ℕ → ℕ) × Front (its_made ++ (record_of e ∷ [])) (its_run (dealer session old.replies w)).made
  open_made e o =
      let n = open_next session old.replies c.word its_made h.notes.unmade e c.asks.dealt (subst (λ r. IsRecordOf r h.notes.unmade e) c.asks.replies o.is) in
      (n.source, subst (λ x. Follows its_made x (its_run (dealer session old.replies n.source))) n.next (next_made Disk n.source (record { session_is = refl; pairs_are = refl; dealt = n.dealt }) o.stopped))

  -- A front of what the run makes is one too with the draws of the trace that it leaves.
  pub begins_left : (w : ℕ → ℕ) (P : List Rec) → Front P (its_run (dealer session old.replies w)).made → Front P (its_run (world session old.replies (records_of old.trace ++ P))).made
  begins_left w P f = stops_begin (meaning S) (dealer session old.replies w) (records_of old.trace) fuel P f
