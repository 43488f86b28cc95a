-- A run over a machine and an asker, as contracts see it.
use Rattle.std.specs.Prelude.{ℕ}
use Rattle.ask_model.specs.declared.AskStop.{AskStop}
use Rattle.ask_model.specs.Asker.{Seen as Asked}
use Rattle.value_cells.specs.Seen.{Seen}
use Rattle.eval_ops.specs.Run.{seen_of}
use Rattle.run_host.specs.Moment.{Chain, alone, Moment}
use Rattle.machine_host.specs.declared.Notes.{Notes as Kept}
use Rattle.machine_host.specs.declared.AskedRun.{AskedRun}
use Rattle.machine_host.specs.Moments.{Notes, moment_at, unmade_in}
use Rattle.machine_host.specs.Sound.{IsGood, AreOpen, IsAsked}

abbrev pub notes_of : Kept → Notes
notes_of n = record { forks = n.forks; waits = n.waits.items; session = n.session; stopped = n.stopped; unmade = n.unmade }

abbrev pub heap_of : {A : Type 0} → AskedRun A → Seen
heap_of h = seen_of h.guarded.machine

abbrev pub moment_of : {A : Type 0} → (A → Asked) → (A → ℕ → ℕ) → AskedRun A → Moment alone
moment_of seen words h = moment_at (heap_of h) (seen h.asker) (words h.asker) (notes_of h.notes)

-- a moment of a run that nothing answers, as one of a run that this answers
abbrev pub moment_in : (κ : Chain) → κ.State → Moment alone → Moment κ
moment_in κ asker m = record { heap = m.heap; asker = asker; forks = m.forks; waits = m.waits; session = m.session; trace = m.trace; pairs = m.pairs; made = m.made; words = m.words; stopped = m.stopped; unmade = m.unmade }

pub record IsSound {A : Type 0} (is_sound : A → Type 0) (refuses : AskStop → Type 0) (seen : A → Asked) (h : AskedRun A) : Type 0 where
  pub asked : IsAsked is_sound refuses seen h.closed h.notes.stopped (unmade_in h.notes.unmade) h.asker
  pub good : IsGood (heap_of h)
  pub entered : AreOpen h.entered.items (heap_of h).outer
