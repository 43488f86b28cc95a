use Rattle.std.proofs.Common.{sym, subst, length}
use Rattle.slot_watch.specs.Within.{KeysWithin}
use Rattle.slot_watch.proofs.Naming.{first_marks}
use Rattle.slot_watch.proofs.SlotWatch.keep.Goals as goal

pub invariant_of-self : goal.invariant_of-self
invariant_of-self c =
    let a = c.self.inside in
    record {
      current = subst (λ k. KeysWithin (length a.keys) k) (sym c.keep.ensures.now) c.self.invariant.current;
      marks = first_marks (KeysWithin (length a.keys)) a.monitor.marks c.keep.new.self.marks c.keep.ensures.closed.0 c.keep.ensures.closed.1 c.self.invariant.marks;
    }
