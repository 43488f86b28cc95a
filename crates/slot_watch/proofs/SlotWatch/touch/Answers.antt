use Rattle.std.proofs.Common.{subst, length}
use Rattle.turk_base.specs.Names.{path_in, slot, at}
use Rattle.branch_check.specs.Watch.{after_touch}
use Rattle.slot_watch.specs.Within.{CellsWithin, KeysWithin}
use Rattle.slot_watch.specs.Slots.{Slots, Turns}
use Rattle.slot_watch.proofs.Naming.{slots, keys_touch, marks_same, touch_turns, has_part, has_within, untouched_named}
use Rattle.slot_watch.proofs.SlotWatch.touch.Goals as goal

pub invariant_of-self : goal.invariant_of-self
invariant_of-self c =
    let a = c.self.inside in
    record {
      current = keys_touch (length a.keys) (path_in c.args.by.now) (record { cell = c.args.cell; key = c.in-Some.number }) a.monitor.current c.touch.new.self.current (has_within a.keys c.args.key.now c.in-Some.number c.in-Some.ensures) c.self.invariant.current c.touch.ensures.now;
      marks = marks_same (KeysWithin (length a.keys)) a.monitor.marks c.touch.new.self.marks c.touch.ensures.marks c.self.invariant.marks;
    }

pub returns-in-Some-clause-now : goal.returns-in-Some-clause-now
returns-in-Some-clause-now c = λ n here.
    let a = c.self.inside in
    subst (λ (s : Slots). CellsWithin n s.current → Turns (λ nu w. after_touch (path_in c.args.by.now) (slot (nu c.args.cell) (at c.args.key.now)) w) n s (slots a.keys c.touch.new.self.current c.touch.new.self.marks)) c.self.view_is
    (touch_turns a.keys c.known.ensures a.monitor.current a.monitor.marks c.self.invariant.current (record { cell = c.args.cell; key = c.in-Some.number }) (has_within a.keys c.args.key.now c.in-Some.number c.in-Some.ensures) (at c.args.key.now) (has_part a.keys c.args.key.now c.in-Some.number c.in-Some.ensures) c.touch.new.self.current c.touch.new.self.marks (path_in c.args.by.now) c.touch.ensures.now n here)

pub returns-in-None-clause-now : goal.returns-in-None-clause-now
returns-in-None-clause-now c = λ n here w.
    let a = c.self.inside in
    subst (λ (s : Slots). Turns (λ nu w. after_touch (path_in c.args.by.now) (slot (nu c.args.cell) (at c.args.key.now)) w) n s s) c.self.view_is
    (record { now = λ nu tells. untouched_named nu a.keys c.args.key.now (nu c.args.cell) (path_in c.args.by.now) a.monitor.current c.in-None.ensures c.self.invariant.current })
