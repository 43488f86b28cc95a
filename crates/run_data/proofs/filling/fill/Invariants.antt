use Rattle.std.proofs.Common.{◌≤◌, drop, map}
use Rattle.turk_base.specs.Values.{Val}
use Rattle.turk_base.specs.Steps.{fill}
use Rattle.value_cells.specs.Seen.{Naming, val_in}
use Rattle.value_cells.specs.Does.{Told}
use Rattle.run_heap.specs.Core.{Core, count, Rests}
use Rattle.run_heap.specs.Works.{Works}
use Rattle.run_data.proofs.filling.fill.Given as goal

abbrev pub invariant-loop-place : goal.invariant-loop-place
invariant-loop-place l = record {
  more : count l.initial.heap ≤ count l.heap;
  rests : Rests l.initial.heap l.heap;
  leads : (said : Naming → Told Val) (last : Core) → Works (λ nu. fill (nu l.cell) l.place (map (val_in nu) (drop l.place l.values))) said l.heap last
      → Works (λ nu. fill (nu l.cell) 0 (map (val_in nu) l.values)) said l.initial.heap last;
}
