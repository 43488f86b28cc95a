-- Two numbers that are computed one after the other, or why the first that is refused is.
use Rattle.std.specs.Prelude.{ℤ, Result, Ok, Err}
use Rattle.turk_base.specs.Values as model
use Rattle.run_host.specs.declared.Refusal.{Refusal}
use Rattle.run_host.specs.Told.{refusal_in}

abbrev pub pair_then : {A : Type 0} → Result (ℤ × ℤ) Refusal → (ℤ → ℤ → Result A model.Refusal) → Result A model.Refusal
pair_then (Ok (m, n)) go = go m n
pair_then (Err why) go = Err (refusal_in why)
