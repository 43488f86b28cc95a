use Rattle.std.proofs.Common.{subst}
use Rattle.builtin_calls.specs.Called.{HasBuiltIns}
use Rattle.run_heap.specs.Core.{Core}
use Rattle.plain_heap.specs.Plain.{plain_seen}
use Rattle.plain_heap.proofs.Alone.{has_built_ins}
use Rattle.plain_heap.proofs.PlainHeap.known.Goals as goal

pub returns : goal.returns
returns c = subst (λ (s : Core). HasBuiltIns (plain_seen s)) c.self.view_is (has_built_ins c.self.inside.heap c.self.invariant)
