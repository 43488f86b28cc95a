use Rattle.std.proofs.Common.{◌≡◌, ◌<◌, ◌∷◌, List, map}
use Rattle.turk_base.specs.Steps.{keys_in, steps_of}
use Rattle.turk_base.specs.Prog.{Keys}
use Rattle.value_cells.specs.Held.{Key, kinds_of}
use Rattle.value_cells.specs.Seen.{Naming}
use Rattle.value_cells.specs.Does.{Told}
use Rattle.run_heap.specs.Core.{Core, count, Rests}
use Rattle.run_heap.specs.Placed.{chain_of}
use Rattle.run_heap.specs.Works.{Works}
use Rattle.run_heap.proofs.RunHeap.listed.Given as goal

abbrev pub invariant-chain : goal.invariant-chain
invariant-chain l = record {
  here : l.at < count l.self;
  rests : Rests l.fn.self l.self;
  cells : l.self.cells ≡ l.fn.self.cells;
  leads : (said : Naming → Told (List Key)) (last : Core) → Works (λ nu. keys_in l.had.items (nu l.at ∷ map nu (chain_of (kinds_of l.self.cells.now) l.at))) said l.self last
      → Works (λ nu. steps_of (Keys (nu l.cell))) said l.fn.self last;
}

abbrev pub decreases-chain : goal.decreases-chain
decreases-chain l = l.at
