-- How a built-in call ended, where what it throws was made.
use Rattle.std.specs.Prelude.{ℕ, suc}
use Rattle.turk_base.specs.Values.{Outcome, Normal, Throw, Object}
use Rattle.value_cells.specs.Needs.{needs}
use Rattle.value_cells.specs.Seen.{Naming, val_in}
use Rattle.builtin_calls.specs.declared.CallEnd.{CallEnd}
use Rattle.builtin_calls.specs.declared.CallEnd.TheVariants.{Value, Thrown}

abbrev pub end_in : Naming → CallEnd → Outcome
end_in nu (Value v) = Normal (val_in nu v)
end_in nu (Thrown cell) = Throw (Object (nu cell))

abbrev pub end_needs : CallEnd → ℕ
end_needs (Value v) = needs v
end_needs (Thrown cell) = suc cell
