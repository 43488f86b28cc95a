-- What a call that takes data says: none where there is no data.
use Rattle.std.specs.Prelude.{Option, Some, None, Result, Ok, Err}
use Rattle.turk_base.specs.Values as model
use Rattle.value_cells.specs.declared.OpStop.{OpStop}
use Rattle.value_cells.specs.Does.{Told, Says, Refuses, told_stop}

abbrev pub told_taken : {V A : Type 0} → (V → A) → Result (Option V) OpStop → Told A
told_taken f (Ok (Some v)) = Says (f v)
told_taken f (Ok None) = Refuses model.NotData
told_taken f (Err e) = told_stop e
