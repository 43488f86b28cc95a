use Rattle.std.proofs.Common.{◌≡◌, ◌<◌, true, drop}
use Rattle.std.specs.Map.{keys_of}
use Rattle.turk_base.specs.Cells.{doomed, trim}
use Rattle.turk_base.specs.State.{change}
use Rattle.turk_base.specs.Steps.{give, step}
use Rattle.value_cells.specs.Held.{props_at}
use Rattle.value_cells.specs.Seen.{Naming}
use Rattle.value_cells.specs.Does.{Told}
use Rattle.run_heap.specs.Core.{Core, count, Rests}
use Rattle.run_heap.specs.Works.{Works}
use Rattle.run_heap.proofs.RunHeap.trim.Given as goal

abbrev pub invariant-loop-place : goal.invariant-loop-place
invariant-loop-place l = record {
  here : l.cell < count l.self;
  same : count l.self ≡ count l.fn.self;
  rests : Rests l.fn.self l.self;
  left : doomed l.length (keys_of (props_at l.self.cells.now l.cell)) ≡ drop l.place l.keys.items;
  leads : (said : Naming → Told (Unit {0})) (last : Core) → Works (λ nu. step (change true (nu l.cell) (trim l.length)) give) said l.self last
      → Works (λ nu. step (change true (nu l.cell) (trim l.length)) give) said l.fn.self last;
}
