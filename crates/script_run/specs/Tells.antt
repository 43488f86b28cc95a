-- What is told of the run of a whole script, and when that is so.
use Rattle.std.specs.Prelude.{◌≡◌, ◌⊎◌, ℕ, Bool, false, List, map, Result, Err}
use Rattle.turk_base.specs.Names.{Units}
use Rattle.turk_base.specs.Asks.{Rec}
use Rattle.turk_base.specs.Told.{verdict_told, records_of}
use Rattle.turk_base.specs.declared.Entry.{Entry}
use Rattle.turk_base.specs.Values.{Wait}
use Rattle.js_tree.specs.World as world
use Rattle.turk_base.specs.State.{St}
use Rattle.js_tree.specs.World.{World, Rest}
use Rattle.js_tree.specs.Run.{Res, halted, diverged}
use Rattle.js_tree.specs.declared.Script.{Script}
use Rattle.js_tree.specs.Eval.{Eval, eval, meaning}
use Rattle.js_tree.specs.Report as report
use Rattle.js_tree.specs.Report.{EndOfRun, Report, end_of}
use Rattle.run_laws.proofs.Cuts.{Follows}
use Rattle.ask_model.specs.Asker.{Seen as Asked}
use Rattle.ask_model.specs.declared.Divergence.{Divergence}
use Rattle.ask_model.specs.declared.AskStop.{AskStop}
use Rattle.ask_model.specs.declared.AskStop.TheVariants as stop
use Rattle.run_host.specs.Moment.{Unmade, AllDealt, draws_in}
use Rattle.run_host.specs.Told.{refusal_in, next_of, told_flow, TellsOf}
use Rattle.value_cells.specs.Seen.{Naming, Seen, Fits}
use Rattle.run_host.specs.declared.Exit.{Exit}
use Rattle.run_host.specs.declared.Exit.TheVariants.{Stopped}
use Rattle.run_host.specs.declared.Flow.{Flow}
use Rattle.machine_host.specs.declared.Wait.{Wait as CodeWait}
use Rattle.machine_host.specs.declared.Unmade.{Unmade as CodeUnmade}
use Rattle.machine_host.specs.Moments.{wait_in, unmade_in}
use Rattle.machine_host.specs.Chain.{IsRecordOf, IsHeldPost}
pub use Rattle.machine_host.specs.Sound.{IsNamed, Refused}
use Rattle.script_run.specs.Closes.{ClosesAt}
use Rattle.script_run.specs.declared.End.{End}
use Rattle.script_run.specs.declared.End.TheVariants as end
use Rattle.script_run.specs.declared.Ran.{Ran}

-- the end that is told, with what is waited for
abbrev pub EndIn : End → EndOfRun → List Wait → Type 0
EndIn end.Finished r w = r ≡ report.Finished
EndIn (end.Uncaught t) r w = r ≡ report.Uncaught t
EndIn (end.Refused y) r w = r ≡ report.Refused (refusal_in y)
EndIn (end.Waiting l) r w = (r ≡ report.Waiting) × (w ≡ map wait_in l.items)
EndIn end.Spent r w = r ≡ report.Spent

-- The run e ended so, at the state σ with these counts, where these records were made.
pub record EndsAt (x : End) (σ : St) (w : Rest) (made : List Rec) (e : Res) : Type 0 where
  pub is : EndIn x (end_of e.out e.st) e.rest.waits
  pub text : e.st.text ≡ σ.text
  pub verdict : e.st.verdict ≡ σ.verdict
  pub forks : e.rest.forks ≡ w.forks
  pub made_are : e.made ≡ made

-- What is told is what the definitions tell, and these are the records that the run makes.
pub record Tells (ran : Ran) (made : List Rec) (r : Report) : Type 0 where
  pub ended : EndIn ran.end r.end r.waits
  pub output : ran.output ≡ r.output
  pub verdict : ran.verdict ≡ verdict_told r.verdict
  pub forks : ran.forks ≡ r.forks
  pub made_are : made ≡ r.made

-- The asker refused a call so, and the call's record is this one: LogFull where that doesn't fit, Diverged where it is a post's, for
-- which the board held another text.
pub record IsRefused (refuses : AskStop → Type 0) (fits : Entry → Bool) (s : Asked) (u : CodeUnmade) (why : AskStop) : Type 0 where
  pub refused : Refused refuses s (unmade_in u) why
  pub unfit : why ≡ stop.LogFull → (e : Entry) × IsRecordOf s.replies u e × (fits e ≡ false)
  pub held : (d : Divergence) → why ≡ stop.Diverged d → IsHeldPost d u

-- Why a run is stopped by its asker: memory ran out, or the asker refused a call so.
abbrev pub HasCause : (AskStop → Type 0) → (Entry → Bool) → Asked → CodeUnmade → AskStop → Type 0
HasCause refuses fits s u why = (why ≡ stop.Memory) ⊎ IsRefused refuses fits s u why

-- memory ran out, or so the last statement ended
abbrev pub EndsBy : Result Flow Exit → AskStop → Type 0
EndsBy flow why = (why ≡ stop.Memory) ⊎ (flow ≡ Err (Stopped why))

-- Why the run e was stopped, where these records were made: it diverges by a record, and makes no others; or its asker stopped it,
-- which has its cause, and it makes these first, and next the record of the refused call, where one is known.
pub data StopIs (cause : AskStop → Type 0) (E : World) (u : Unmade) (made : List Rec) (e : Res) : AskStop → Type 0 where
  by_record : {d : Divergence} {m : world.Divergence} → TellsOf d m → e.out ≡ halted (diverged m) → e.made ≡ made → StopIs cause E u made e (stop.Diverged d)
  by_asker : {why : AskStop} → cause why → Follows made (next_of E (draws_in made) u why) e → StopIs cause E u made e why

-- A world of a session and its replies, whose draws give those among these records.
pub record Knows (E : World) (session : Units) (pairs : List (Units × Units)) (made : List Rec) : Type 0 where
  pub session_is : E.session ≡ session
  pub pairs_are : E.pairs ≡ pairs
  pub dealt : AllDealt E.dice 0 made

-- The answer of a run, over what an asker knew before it and after it, in every such world: what is told is the run of the
-- script over the trace, with the fuel; or it was stopped.
abbrev pub IsRan : Script → Units → Asked → Asked → ℕ → Ran → Type 0
IsRan S session old new fuel ran = (E : World) → Knows E session old.replies (records_of new.made) → Tells ran (records_of new.made) (Eval S E (records_of old.trace) fuel)

abbrev pub IsStopped : (AskStop → Type 0) → Unmade → Script → Units → Asked → Asked → ℕ → AskStop → Type 0
IsStopped cause u S session old new fuel why =
    (E : World) → Knows E session old.replies (records_of new.made) → StopIs cause E u (records_of new.made) (eval (meaning S) E (records_of old.trace) fuel) why

-- The asker after a run: its trace and its replies are as before, and its draws have the next words of its source.
pub record Asks (words : ℕ → ℕ) (old new : Asked) : Type 0 where
  pub trace : records_of new.trace ≡ records_of old.trace
  pub replies : new.replies ≡ old.replies
  pub dealt : AllDealt (world.words words) 0 (records_of new.made)

-- How a script's last statement ended: what is told of it closes the run, in every such world, where this was waited for, so
-- many forks took an index, and this record was not made.
abbrev pub IsCome : Unmade → Script → Units → Asked → Asked → ℕ → ℕ → List CodeWait → Seen → Result Flow Exit → Type 0
IsCome u S session old new fuel forks waits s flow =
    (nu : Naming) → Fits nu s.names → (E : World) → Knows E session old.replies (records_of new.made)
    → ClosesAt E u (records_of new.made) (told_flow nu flow) (s.first nu)
    (record { left = s.left; drawn = draws_in (records_of new.made); forks = forks; waits = map wait_in waits })
    (eval (meaning S) E (records_of old.trace) fuel)
