-- A machine seen as a heap that tells which branches are absent: they stand as a scope around all that there are.
use Rattle.std.specs.Prelude.{◌∷◌, map, reverse, false}
use Rattle.turk_base.specs.Names.{root, path_in}
use Rattle.turk_base.specs.Start.{start}
use Rattle.value_cells.specs.Seen.{Scope, Seen}
use Rattle.eval_ops.specs.Run.{Run, seen_of}

abbrev pub absent_in : Run → Scope
absent_in m = record { path = root; branch = root; body = false; back = λ nu. record start { gone = map path_in (reverse m.gone) } }

abbrev pub guarded : Run → Seen
guarded m = record (seen_of m) { outer = absent_in m ∷ (seen_of m).outer }
