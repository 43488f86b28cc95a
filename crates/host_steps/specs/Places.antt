-- Places as the evaluator holds them.
use Rattle.std.specs.Prelude.{ℕ}
use Rattle.js_tree.specs.Pieces as pieces
use Rattle.value_cells.specs.Needs.{needs}
use Rattle.value_cells.specs.Seen.{Naming, val_in}
use Rattle.host_steps.specs.declared.places.Place.{Place}
use Rattle.host_steps.specs.declared.places.Place.TheVariants as code

abbrev pub place_in : Naming → Place → pieces.Place
place_in nu (code.Variable x) = pieces.Variable x.now
place_in nu (code.Property base key) = pieces.Property (val_in nu base) key
place_in nu (code.Given v) = pieces.Given (val_in nu v)

-- how many cells there must be
abbrev pub place_needs : Place → ℕ
place_needs (code.Variable x) = 0
place_needs (code.Property base key) = needs base
place_needs (code.Given v) = needs v
