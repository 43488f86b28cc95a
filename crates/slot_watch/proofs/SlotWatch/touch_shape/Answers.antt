use Rattle.std.proofs.Common.{refl, subst, length, arith}
use Rattle.turk_base.specs.Names.{path_in, slot, shape}
use Rattle.branch_check.specs.Watch.{after_touch}
use Rattle.slot_watch.specs.Within.{CellsWithin, KeysWithin}
use Rattle.slot_watch.specs.Slots.{Slots, Turns}
use Rattle.slot_watch.proofs.Naming.{slots, keys_touch, marks_same, touch_turns}
use Rattle.slot_watch.proofs.SlotWatch.touch_shape.Goals as goal

pub invariant_of-self : goal.invariant_of-self
invariant_of-self c =
    let a = c.self.inside in
    record {
      current = keys_touch (length a.keys) (path_in c.args.by.now) (record { cell = c.args.cell; key = 0 }) a.monitor.current c.touch.new.self.current (omega arith) c.self.invariant.current c.touch.ensures.now;
      marks = marks_same (KeysWithin (length a.keys)) a.monitor.marks c.touch.new.self.marks c.touch.ensures.marks c.self.invariant.marks;
    }

pub returns-clause-now : goal.returns-clause-now
returns-clause-now c = λ n here.
    let a = c.self.inside in
    subst (λ (s : Slots). CellsWithin n s.current → Turns (λ nu w. after_touch (path_in c.args.by.now) (slot (nu c.args.cell) shape) w) n s (slots a.keys c.touch.new.self.current c.touch.new.self.marks)) c.self.view_is
    (touch_turns a.keys c.known.ensures a.monitor.current a.monitor.marks c.self.invariant.current (record { cell = c.args.cell; key = 0 }) (omega arith) shape refl c.touch.new.self.current c.touch.new.self.marks (path_in c.args.by.now) c.touch.ensures.now n here)
