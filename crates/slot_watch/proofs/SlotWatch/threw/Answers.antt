use Rattle.std.proofs.Common.{sym, subst, ◌<◌, ◌≤◌, length}
use Rattle.turk_base.specs.Names.{path_in}
use Rattle.branch_check.specs.Watch.{after_throw}
use Rattle.slot_watch.specs.Named.{number_of_key, number_of_cell}
use Rattle.slot_watch.specs.Within.{CellsWithin, KeysWithin}
use Rattle.slot_watch.specs.Slots.{Slots, Turns}
use Rattle.slot_watch.proofs.Naming.{slots, after_throw_holds, marks_same, throw_turns, either, on_ok, same_holds}
use Rattle.slot_watch.proofs.SlotWatch.threw.Goals as goal

pub invariant_of-self : goal.invariant_of-self
invariant_of-self c =
    let a = c.self.inside in
    record {
      current = either c.threw.result c.threw.ensures.ok c.threw.ensures.err
          (after_throw_holds (λ x. number_of_key x ≤ length a.keys) a.monitor.current c.threw.new.self.current c.self.invariant.current (path_in c.args.branch.now))
          (λ e. same_holds (λ x. number_of_key x ≤ length a.keys) a.monitor.current c.threw.new.self.current e c.self.invariant.current);
      marks = marks_same (KeysWithin (length a.keys)) a.monitor.marks c.threw.new.self.marks c.threw.ensures.marks c.self.invariant.marks;
    }

pub returns-clause-now : goal.returns-clause-now
returns-clause-now c = λ n.
    let a = c.self.inside in
    on_ok c.threw.result
    (λ e. subst (λ (s : Slots). Turns (λ nu w. after_throw (path_in c.args.branch.now) w) n s (slots a.keys c.threw.new.self.current c.threw.new.self.marks)) c.self.view_is
    (throw_turns a.keys a.monitor.current a.monitor.marks c.threw.new.self.current c.threw.new.self.marks n (path_in c.args.branch.now) e))
    c.threw.ensures.ok

pub returns-clause-within : goal.returns-clause-within
returns-clause-within c = λ n w.
    let a = c.self.inside in
    let h : CellsWithin n a.monitor.current = subst (λ (s : Slots). CellsWithin n s.current) (sym c.self.view_is) w in
    either c.threw.result c.threw.ensures.ok c.threw.ensures.err
    (after_throw_holds (λ x. number_of_cell x < n) a.monitor.current c.threw.new.self.current h (path_in c.args.branch.now))
    (λ e. same_holds (λ x. number_of_cell x < n) a.monitor.current c.threw.new.self.current e h)
