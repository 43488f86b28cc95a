-- What is told of a run over an asker that was answered, and of how many records were made (own rules).
use Rattle.std.specs.Prelude.{◌≡◌, ◌⊎◌, ℕ, Result, Ok, Err}
use Rattle.turk_base.specs.Encodings.{bytes_of}
use Rattle.ask_model.specs.declared.AskStop.{AskStop}
use Rattle.ask_model.specs.declared.AskStop.TheVariants as asked
use Rattle.script_run.specs.declared.Ran.{Ran}
use Rattle.rerun_driver.specs.declared.Report.{Report}
use Rattle.rerun_driver.specs.declared.Stop.{Stop}
use Rattle.rerun_driver.specs.declared.Stop.TheVariants as stop

-- the report of a run that posted nothing to a board
abbrev pub report_of : Ran → ℕ → Report
report_of ran made = record { end = ran.end; output = bytes_of ran.output; verdict = ran.verdict; forks = ran.forks; made = made; posted = 0 }

-- the refusal of an asker, as one of a run
abbrev pub stop_of : AskStop → Stop
stop_of (asked.Fault which) = stop.Fault which
stop_of (asked.Diverged d) = stop.Diverged d
stop_of asked.TraceFull = stop.TraceFull
stop_of asked.LogFull = stop.LogFull
stop_of asked.Memory = stop.Memory

abbrev pub told_as : Result Ran AskStop → ℕ → Result Report Stop
told_as (Ok ran) made = Ok (report_of ran made)
told_as (Err why) made = Err (stop_of why)

-- that is told, or memory ran out
abbrev pub IsTold : Result Ran AskStop → ℕ → Result Report Stop → Type 0
IsTold answer made result = (result ≡ told_as answer made) ⊎ (result ≡ Err stop.Memory)
