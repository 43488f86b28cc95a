use Rattle.std.proofs.Common.{◌≡◌, ◌++◌, ◌∷◌, [], ◌∙◌}
use Rattle.run_heap.specs.Stored.{core_of}
use Rattle.run_heap.proofs.Scoping.{ready_next}
use Rattle.run_heap.proofs.RunHeap.next_call.Goals as goal

pub returns-clause-ready : goal.returns-clause-ready
returns-clause-ready c =
    let a = c.self.inside in
    let path : c.in_ok-path.path ≡ a.place.path = c.in_ok-path.ensures in
    ready_next (core_of a) c.self.invariant c.push.new.self (c.in_ok-push.ensures.ok ∙ (λ i. path i ++ a.place.calls ∷ []))
