use Rattle.std.proofs.Common.{◌≡◌, ◌⊎◌, take}
use Rattle.trace_tree.specs.Traces.{StandsNone}
use Rattle.trace_tree.specs.Spots.{StandsAt}
use Rattle.trace_tree.proofs.Trace.follow.Given as goal

abbrev pub invariant-loop-index : goal.invariant-loop-index
invariant-loop-index l = record {
  here : StandsAt l.self.entries l.here (take l.index-index l.index-items);
  there : (l.index-index ≡ 0) ⊎ (StandsNone l.self.entries (take l.index-index l.index-items) → ⊥);
}
