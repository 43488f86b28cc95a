-- What a plain run comes to (own rules).
use Rattle.std.specs.Prelude.{◌≡◌, ◌≤◌, ◌<◌, ℕ, List, length, Result, Ok, Err}
use Rattle.turk_base.specs.Names.{Units}
use Rattle.turk_base.specs.Encodings.{bytes_of}
use Rattle.turk_base.specs.Told.{verdict_told}
use Rattle.js_tree.specs.declared.Script.{Script}
use Rattle.js_tree.specs.Binds.{IsBound}
use Rattle.js_tree.specs.World.{World, words}
use Rattle.js_tree.specs.Eval.{PlainRun}
use Rattle.js_tree.specs.Report as meaning
use Rattle.script_front.specs.Front.{IsRead}
use Rattle.script_front.specs.declared.ScriptStop.{ScriptStop}
use Rattle.script_front.specs.declared.ScriptStop.TheVariants as fault
use Rattle.script_run.specs.Tells.{EndIn}
use Rattle.rerun_driver.specs.declared.Report.{Report}
use Rattle.rerun_driver.specs.declared.Stop.{Stop}
use Rattle.rerun_driver.specs.declared.Stop.TheVariants as stop

-- a session, its replies, and the words of a source for the draws
abbrev pub plain_world : Units → List (Units × Units) → (ℕ → ℕ) → World
plain_world session replies word = record { session = session; pairs = replies; dice = words word }

-- What is told of a run is what the definitions tell, the output in UTF-8 and the records by their count.
pub record IsReport (r : Report) (run : meaning.Report) : Type 0 where
  pub ended : EndIn r.end run.end run.waits
  pub output : r.output ≡ bytes_of run.output
  pub verdict : r.verdict ≡ verdict_told run.verdict
  pub forks : r.forks ≡ run.forks
  pub made : r.made ≡ length run.made
  pub few : length run.made ≤ 65536

-- What the plain run of a script comes to, in a world and with so much fuel: a report, or it makes too many records. Want of
-- memory has no cause here.
abbrev pub IsRunOf : Script → World → ℕ → Result Report Stop → Type 0
IsRunOf S E fuel (Ok r) = IsReport r (PlainRun S E fuel) × (r.posted ≡ 0)
IsRunOf S E fuel (Err stop.TraceFull) = 65536 < length (PlainRun S E fuel).made
IsRunOf S E fuel (Err stop.Memory) = Unit {0}
IsRunOf S E fuel (Err why) = ⊥

-- The bytes read as this script, each name of which has its declaration.
pub record ReadsAs (bytes : List ℕ) (S : Script) : Type 0 where
  pub read : IsRead bytes (Ok S)
  pub bound : IsBound S

-- The bytes are no script, for this reason, which isn't want of memory.
abbrev pub IsNoScript : List ℕ → ScriptStop → Type 0
IsNoScript bytes fault.Memory = ⊥
IsNoScript bytes why = IsRead bytes (Err why)

-- the same of a script's bytes, which may be no script
abbrev pub IsPlain : List ℕ → World → ℕ → Result Report Stop → Type 0
IsPlain bytes E fuel (Err (stop.Script why)) = IsNoScript bytes why
IsPlain bytes E fuel (Err stop.Memory) = Unit {0}
IsPlain bytes E fuel result = (S : Script) × ReadsAs bytes S × IsRunOf S E fuel result
