use Rattle.std.proofs.Common.{◌≡◌, refl, ap, sym, subst, ◌++◌, ◌∷◌, []}
use Rattle.run_heap.specs.Core.{Core}
use Rattle.run_heap.specs.Stored.{core_of}
use Rattle.run_heap.specs.Scopes.{LeavesKeep}
use Rattle.run_heap.proofs.Scoping.{after, core_keep}
use Rattle.run_heap.proofs.RunHeap.leave_keep.Goals as goal

pub invariant_of-self : goal.invariant_of-self
invariant_of-self c =
    let a = c.self.inside in
    core_keep (core_of a) c.self.invariant c.keep.new.self c.keep-2.new.self c.in-Some.around c.pop.new.self.items a.left c.in-Some.ensures.items
    c.keep.ensures.now c.keep-2.ensures.now c.keep.ensures.closed.0 c.keep.ensures.closed.1 c.keep-2.ensures.closed.0 c.keep-2.ensures.closed.1

pub returns : goal.returns
returns c =
    let a = c.self.inside in
    let new : Core = record { cells = c.keep.new.self; slots = c.keep-2.new.self; place = c.in-Some.around; outer = c.pop.new.self.items; left = a.left } in
    subst (λ (s : Core). LeavesKeep s new) c.self.view_is
    (record { now = c.keep.ensures.now; current = c.keep-2.ensures.now; keys = c.keep-2.ensures.keys; cells = c.keep.ensures.closed; slots = c.keep-2.ensures.closed; outer = c.in-Some.ensures.items; left = refl })
