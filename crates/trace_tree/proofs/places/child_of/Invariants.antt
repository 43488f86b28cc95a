use Rattle.std.proofs.Common.{◌↔◌, ◌++◌, [], ◌∷◌, drop}
use Rattle.trace_tree.specs.Traces.{StandsNone}
use Rattle.trace_tree.proofs.places.child_of.Given as goal

abbrev pub invariant-loop-number : goal.invariant-loop-number
invariant-loop-number l = StandsNone (drop l.number l.entries) (l.front ++ l.index ∷ []) ↔ StandsNone l.entries (l.front ++ l.index ∷ [])
