-- What a function of an evaluator says, and what it says of a run.
use Rattle.std.specs.Prelude.{◌≡◌, ◌⊎◌, ℕ, suc, max, Option, Some, None, Result, Ok, Err}
use Rattle.turk_base.specs.Names.{Path, path_in}
use Rattle.turk_base.specs.Values as model
use Rattle.turk_base.specs.Values.{Val, Outcome}
use Rattle.turk_base.specs.declared.Record.TheVariants as kept
use Rattle.turk_base.specs.Asks.{Question, rec}
use Rattle.js_tree.specs.World as meaning
use Rattle.js_tree.specs.World.{World, Fresh, fresh}
use Rattle.js_tree.specs.Pieces.{Here}
use Rattle.js_tree.specs.Run.{Out, ended, waits, halted, bar, spent, diverged}
use Rattle.run_laws.proofs.Cuts.{Next, makes, lacks_draw, unknown}
use Rattle.ask_model.specs.declared.Called.{Called}
use Rattle.ask_model.specs.declared.Called.TheVariants as called
use Rattle.ask_model.specs.declared.Kept.{Kept}
use Rattle.ask_model.specs.declared.Kept.TheVariants as held
use Rattle.ask_model.specs.declared.Divergence.{Divergence}
use Rattle.ask_model.specs.declared.AskStop.{AskStop}
use Rattle.ask_model.specs.declared.AskStop.TheVariants as stop
use Rattle.run_host.specs.Moment.{Unmade, asking, keeping, nothing_known}
use Rattle.value_cells.specs.declared.Value.{Value}
use Rattle.value_cells.specs.Needs.{needs, number_needs}
use Rattle.value_cells.specs.Seen.{Naming, val_in}
use Rattle.run_host.specs.declared.Refusal.{Refusal}
use Rattle.run_host.specs.declared.Refusal.TheVariants as refusal
use Rattle.run_host.specs.declared.Halt.{Halt}
use Rattle.run_host.specs.declared.Halt.TheVariants as halt
use Rattle.run_host.specs.declared.Exit.{Exit}
use Rattle.run_host.specs.declared.Exit.TheVariants as exit
use Rattle.run_host.specs.declared.Flow.{Flow}
use Rattle.run_host.specs.declared.Flow.TheVariants as flow
use Rattle.run_host.specs.declared.Here.{Here as Spot}

-- ---- what a number stands for under a naming

abbrev pub refusal_in : Refusal → model.Refusal
refusal_in refusal.NotWhole = model.NotWhole
refusal_in refusal.NoPrimitive = model.NoPrimitive
refusal_in refusal.TooDeep = model.TooDeep
refusal_in refusal.TooLong = model.TooLong
refusal_in refusal.NotData = model.NotData
refusal_in refusal.ForkInOnce = model.ForkInOnce

abbrev pub flow_in : Naming → Flow → Outcome
flow_in nu flow.Normal = model.Normal model.Undefined
flow_in nu flow.Break = model.Break
flow_in nu flow.Continue = model.Continue
flow_in nu (flow.Return v) = model.Return (val_in nu v)

abbrev pub this_in : Naming → Option ℕ → Val
this_in nu (Some cell) = model.Object (nu cell)
this_in nu None = model.Undefined

abbrev pub here_in : Naming → Spot → Here
here_in nu here = record { frame = nu here.frame; this = this_in nu here.this }

-- ---- how many cells there must be

abbrev pub here_needs : Spot → ℕ
here_needs here = max (suc here.frame) (number_needs here.this)

abbrev pub flow_needs : Flow → ℕ
flow_needs (flow.Return v) = needs v
flow_needs _ = 0

abbrev pub exit_needs : Exit → ℕ
exit_needs (exit.Throw v) = needs v
exit_needs _ = 0

-- ---- divergences

abbrev pub called_in : Called → meaning.Called
called_in (called.Post t) = meaning.called_post t
called_in (called.Reply t) = meaning.called_reply t
called_in (called.Random b) = meaning.called_random b
called_in called.Once = meaning.called_once
called_in called.Fork = meaning.called_fork

-- what is told of a record that was found, or of records below
abbrev pub KeptOf : Kept → meaning.Found → Type 0
KeptOf (held.Post t) (meaning.found_kept (kept.Post u)) = t ≡ u
KeptOf (held.Reply t) (meaning.found_kept (kept.Reply u x)) = t ≡ u
KeptOf (held.Draw b) (meaning.found_kept (kept.Draw m n)) = b ≡ m
KeptOf held.Once (meaning.found_kept (kept.Once d)) = Unit {0}
KeptOf held.Below meaning.found_below = Unit {0}
KeptOf _ _ = ⊥

pub record TellsOf (d : Divergence) (m : meaning.Divergence) : Type 0 where
  pub found : meaning.Found
  pub kept : KeptOf d.kept found
  pub is : m ≡ meaning.diverges (path_in d.path) found (called_in d.called)

-- ---- what is told

pub data Told : Type 0 where
  Says : (o : Outcome) → Told
  -- the run ends, or the branch that runs
  Halts : (h : Halt) → Told
  -- the asker refused a call, or memory ran out
  Fails : (why : AskStop) → Told

abbrev pub told_exit : Naming → Exit → Told
told_exit nu (exit.Throw v) = Says (model.Throw (val_in nu v))
told_exit nu (exit.Halted h) = Halts h
told_exit nu (exit.Stopped why) = Fails why

abbrev pub told_value : Naming → Result Value Exit → Told
told_value nu (Ok v) = Says (model.Normal (val_in nu v))
told_value nu (Err x) = told_exit nu x

abbrev pub told_flow : Naming → Result Flow Exit → Told
told_flow nu (Ok f) = Says (flow_in nu f)
told_flow nu (Err x) = told_exit nu x

-- how the run ended, by what is told
abbrev pub IsOut : Halt → Out → Type 0
IsOut (halt.Refused y) out = out ≡ ended (bar (refusal_in y))
IsOut halt.Waits out = out ≡ waits
IsOut halt.Spent out = out ≡ halted spent
IsOut (halt.Diverges d) out = (m : meaning.Divergence) × TellsOf d m × (out ≡ halted (diverged m))

-- the run goes on in its scope, or ends it so that the scope around can go on
abbrev pub GoesOn : Told → Type 0
GoesOn (Says o) = Unit {0}
GoesOn (Halts (halt.Refused y)) = Unit {0}
GoesOn (Halts halt.Waits) = Unit {0}
GoesOn (Halts halt.Spent) = ⊥
GoesOn (Halts (halt.Diverges d)) = ⊥
GoesOn (Fails why) = ⊥

-- ---- what the run does at a call that was refused

abbrev pub next_fresh : {q : Question} → Path → Option (Fresh q) → Next
next_fresh p (Some f) = makes (rec p f.what)
next_fresh p None = lacks_draw

-- where so many draws were made
abbrev pub next_in : World → ℕ → Unmade → Next
next_in E drawn (asking p q) = next_fresh p (fresh q E drawn p)
next_in E drawn (keeping p d) = makes (rec p (kept.Once d))
next_in E drawn nothing_known = unknown

-- after want of memory nothing is said
abbrev pub next_of : World → ℕ → Unmade → AskStop → Next
next_of E drawn u stop.Memory = unknown
next_of E drawn u (stop.Fault which) = next_in E drawn u
next_of E drawn u (stop.Diverged d) = next_in E drawn u
next_of E drawn u stop.TraceFull = next_in E drawn u
next_of E drawn u stop.LogFull = next_in E drawn u

-- By what is told of a run, from the refusal that its moment had to the one that it has: where a refusal is told, that one; where
-- memory ran out, it is that or none is new; else none is new.
abbrev pub IsShown : Told → Option AskStop → Option AskStop → Type 0
IsShown (Says o) before now = now ≡ before
IsShown (Halts h) before now = now ≡ before
IsShown (Fails stop.Memory) before now = (now ≡ before) ⊎ (now ≡ Some stop.Memory)
IsShown (Fails why) before now = now ≡ Some why
