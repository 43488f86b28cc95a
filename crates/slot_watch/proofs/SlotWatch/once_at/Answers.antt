use Rattle.std.proofs.Common.{sym, subst, ◌<◌, ◌≤◌, length}
use Rattle.turk_base.specs.Names.{path_in}
use Rattle.branch_check.specs.Watch.{after_once}
use Rattle.slot_watch.specs.Named.{number_of_key, number_of_cell}
use Rattle.slot_watch.specs.Within.{CellsWithin, KeysWithin}
use Rattle.slot_watch.specs.Slots.{Slots, Turns}
use Rattle.slot_watch.proofs.Naming.{slots, after_once_holds, marks_same, once_turns}
use Rattle.slot_watch.proofs.SlotWatch.once_at.Goals as goal

pub invariant_of-self : goal.invariant_of-self
invariant_of-self c =
    let a = c.self.inside in
    record {
      current = after_once_holds (λ x. number_of_key x ≤ length a.keys) a.monitor.current c.once_at.new.self.current c.self.invariant.current (path_in c.args.by.now) c.once_at.ensures.now;
      marks = marks_same (KeysWithin (length a.keys)) a.monitor.marks c.once_at.new.self.marks c.once_at.ensures.marks c.self.invariant.marks;
    }

pub returns-clause-now : goal.returns-clause-now
returns-clause-now c = λ n.
    let a = c.self.inside in
    subst (λ (s : Slots). Turns (λ nu w. after_once (path_in c.args.by.now) w) n s (slots a.keys c.once_at.new.self.current c.once_at.new.self.marks)) c.self.view_is
    (once_turns a.keys a.monitor.current a.monitor.marks c.once_at.new.self.current c.once_at.new.self.marks n (path_in c.args.by.now) c.once_at.ensures.now)

pub returns-clause-within : goal.returns-clause-within
returns-clause-within c = λ n w.
    let a = c.self.inside in
    after_once_holds (λ x. number_of_cell x < n) a.monitor.current c.once_at.new.self.current (subst (λ (s : Slots). CellsWithin n s.current) (sym c.self.view_is) w) (path_in c.args.by.now) c.once_at.ensures.now
