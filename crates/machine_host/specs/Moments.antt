-- The moment at which a run over a machine and an asker stands.
use Rattle.std.specs.Prelude.{ℕ, List, map, Option}
use Rattle.turk_base.specs.Names.{Units, path_in}
use Rattle.turk_base.specs.Values as model
use Rattle.turk_base.specs.Asks.{posts, replies, draws}
use Rattle.turk_base.specs.Asks as asks
use Rattle.turk_base.specs.Told.{records_of}
use Rattle.ask_model.specs.declared.AskStop.{AskStop}
use Rattle.ask_model.specs.Asker.{Seen as Asked}
use Rattle.value_cells.specs.Seen.{Seen}
use Rattle.run_host.specs.Moment as moment
use Rattle.run_host.specs.Moment.{alone, Moment}
use Rattle.machine_host.specs.declared.Wait.{Wait}
use Rattle.machine_host.specs.declared.Wait.TheVariants.{Task, Crashed}
use Rattle.machine_host.specs.declared.Question.{Question}
use Rattle.machine_host.specs.declared.Question.TheVariants.{Post, Reply, Draw}
use Rattle.machine_host.specs.declared.Unmade.{Unmade}
use Rattle.machine_host.specs.declared.Unmade.TheVariants.{Asking, Keeping, Nothing}

abbrev pub wait_in : Wait → model.Wait
wait_in (Task token) = model.task token
wait_in (Crashed scope) = model.crashed (path_in scope)

abbrev pub question_in : Question → asks.Question
question_in (Post text) = posts text
question_in (Reply token) = replies token
question_in (Draw bound) = draws bound

abbrev pub unmade_in : Unmade → moment.Unmade
unmade_in (Asking path what) = moment.asking (path_in path) (question_in what)
unmade_in (Keeping path value) = moment.keeping (path_in path) value
unmade_in Nothing = moment.nothing_known

-- what is never taken back, and what the run knows of the outside
pub record Notes : Type 0 where
  pub forks : ℕ
  pub waits : List Wait
  pub session : Units
  pub stopped : Option AskStop
  pub unmade : Unmade

abbrev pub moment_at : Seen → Asked → (ℕ → ℕ) → Notes → Moment alone
moment_at heap asked words notes = record {
  heap = heap;
  asker = tt;
  forks = notes.forks;
  waits = map wait_in notes.waits;
  session = notes.session;
  trace = records_of asked.trace;
  pairs = asked.replies;
  made = records_of asked.made;
  words = words;
  stopped = notes.stopped;
  unmade = unmade_in notes.unmade;
}
