use Rattle.std.proofs.Common.{◌≡◌, refl, subst, length}
use Rattle.turk_base.specs.Names.{path_in}
use Rattle.branch_check.specs.Watch.{after_once}
use Rattle.run_heap.specs.Core.{Core}
use Rattle.run_heap.specs.Stored.{core_of}
use Rattle.run_heap.specs.Watching.{Watches}
use Rattle.run_heap.proofs.Turn.{core}
use Rattle.run_heap.proofs.Verdicts.{watches_of}
use Rattle.run_heap.proofs.Whole.{core_kept}
use Rattle.run_heap.proofs.RunHeap.once_at.Goals as goal

pub invariant_of-self : goal.invariant_of-self
invariant_of-self c =
    let a = c.self.inside in
    core_kept (core_of a) c.self.invariant a.cells c.once_at.new.self a.left refl c.once_at.ensures.marks.marks refl (c.once_at.ensures.within (length a.cells.now) c.self.invariant.within)

pub returns-clause-did : goal.returns-clause-did
returns-clause-did c =
    let a = c.self.inside in
    subst (λ (s : Core). Watches (λ w. after_once (path_in s.place.branch) w) s (core a.cells c.once_at.new.self a.place a.outer.items a.left)) c.self.view_is
    (watches_of (λ w. after_once (path_in a.place.branch) w) (core_of a) c.once_at.new.self c.known.ensures (c.once_at.ensures.now (length a.cells.now)))
