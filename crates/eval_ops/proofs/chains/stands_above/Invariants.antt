use Rattle.std.proofs.Common.{◌≡◌, ◌<◌, map}
use Rattle.turk_base.specs.Steps.{stands_in}
use Rattle.value_cells.specs.Held.{kinds_of}
use Rattle.value_cells.specs.Seen.{Naming}
use Rattle.slot_watch.specs.Named.{TellsApart}
use Rattle.run_heap.specs.Core.{count}
use Rattle.run_heap.specs.Placed.{chain_of}
use Rattle.eval_ops.proofs.chains.stands_above.Given as goal

abbrev pub invariant-chain : goal.invariant-chain
invariant-chain l = record {
  here : l.at < count l.heap;
  leads : (nu : Naming) → TellsApart nu (count l.heap) → stands_in (nu l.from) (map nu (chain_of (kinds_of l.heap.cells.now) l.cell)) ≡ stands_in (nu l.from) (map nu (chain_of (kinds_of l.heap.cells.now) l.at));
}

abbrev pub decreases-chain : goal.decreases-chain
decreases-chain l = l.at
