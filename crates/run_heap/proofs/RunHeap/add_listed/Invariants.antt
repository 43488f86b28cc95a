use Rattle.run_heap.proofs.Listed.{Adds}
use Rattle.run_heap.proofs.RunHeap.add_listed.Given as goal

abbrev pub invariant-loop-place : goal.invariant-loop-place
invariant-loop-place l = Adds l.kind l.fn.had.items l.had.items l.keys.items l.place
