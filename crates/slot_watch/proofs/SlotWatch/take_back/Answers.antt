use Rattle.std.proofs.Common.{length}
use Rattle.slot_watch.specs.Within.{KeysWithin}
use Rattle.slot_watch.proofs.Naming.{first_marks, last_mark}
use Rattle.slot_watch.proofs.SlotWatch.take_back.Goals as goal

pub invariant_of-self : goal.invariant_of-self
invariant_of-self c =
    let a = c.self.inside in
    record {
      current = last_mark (KeysWithin (length a.keys)) a.monitor.marks c.take_back.new.self.marks c.take_back.new.self.current c.take_back.ensures c.self.invariant.marks;
      marks = first_marks (KeysWithin (length a.keys)) a.monitor.marks c.take_back.new.self.marks c.take_back.new.self.current c.take_back.ensures c.self.invariant.marks;
    }
