-- How a part of a `try` ended, where a `finally` comes after it.
use Rattle.std.specs.Prelude.{◌≡◌, Result, Ok, Err}
use Rattle.turk_base.specs.Values.{Outcome, Throw}
use Rattle.value_cells.specs.Seen.{Naming, val_in}
use Rattle.run_host.specs.declared.Exit.{Exit}
use Rattle.run_host.specs.declared.Exit.TheVariants as exit
use Rattle.run_host.specs.declared.Flow.{Flow}
use Rattle.run_host.specs.Told.{flow_in}

-- with this outcome; a halt or a stop has none
abbrev pub EndsAs : Result Flow Exit → (Naming → Outcome) → Type 0
EndsAs (Ok f) o = (nu : Naming) → o nu ≡ flow_in nu f
EndsAs (Err (exit.Throw v)) o = (nu : Naming) → o nu ≡ Throw (val_in nu v)
EndsAs (Err x) o = ⊥
