use Rattle.std.proofs.Common.{◌≡◌, ◌<◌, ◌∷◌, Option, map}
use Rattle.turk_base.specs.Values.{Val}
use Rattle.turk_base.specs.Steps.{get_in, steps_of}
use Rattle.turk_base.specs.Prog.{Get}
use Rattle.value_cells.specs.Held.{kinds_of}
use Rattle.value_cells.specs.Seen.{Naming}
use Rattle.value_cells.specs.Does.{Told}
use Rattle.run_heap.specs.Core.{Core, count, Rests}
use Rattle.run_heap.specs.Placed.{chain_of}
use Rattle.run_heap.specs.Works.{Works}
use Rattle.run_heap.proofs.RunHeap.get.Given as goal

abbrev pub invariant-chain : goal.invariant-chain
invariant-chain l = record {
  here : l.at < count l.self;
  rests : Rests l.fn.self l.self;
  leads : (said : Naming → Told (Option Val)) (last : Core) → Works (λ nu. get_in (nu l.at ∷ map nu (chain_of (kinds_of l.self.cells.now) l.at)) l.key) said l.self last
      → Works (λ nu. steps_of (Get (nu l.cell) l.key)) said l.fn.self last;
}

abbrev pub decreases-chain : goal.decreases-chain
decreases-chain l = l.at
