use Rattle.std.proofs.Common.{sym, subst, ◌<◌, ◌≤◌, length}
use Rattle.turk_base.specs.Names.{path_in}
use Rattle.branch_check.specs.Watch.{after_join}
use Rattle.slot_watch.specs.Named.{number_of_key, number_of_cell}
use Rattle.slot_watch.specs.Within.{CellsWithin, KeysWithin}
use Rattle.slot_watch.specs.Slots.{Slots, Turns}
use Rattle.slot_watch.proofs.Naming.{slots, after_join_holds, marks_same, join_turns, either, on_ok, same_holds}
use Rattle.slot_watch.proofs.SlotWatch.joined.Goals as goal

pub invariant_of-self : goal.invariant_of-self
invariant_of-self c =
    let a = c.self.inside in
    record {
      current = either c.joined.result c.joined.ensures.ok c.joined.ensures.err
          (after_join_holds (λ x. number_of_key x ≤ length a.keys) a.monitor.current c.joined.new.self.current c.self.invariant.current (path_in c.args.scope.now))
          (λ e. same_holds (λ x. number_of_key x ≤ length a.keys) a.monitor.current c.joined.new.self.current e c.self.invariant.current);
      marks = marks_same (KeysWithin (length a.keys)) a.monitor.marks c.joined.new.self.marks c.joined.ensures.marks c.self.invariant.marks;
    }

pub returns-clause-now : goal.returns-clause-now
returns-clause-now c = λ n.
    let a = c.self.inside in
    on_ok c.joined.result
    (λ e. subst (λ (s : Slots). Turns (λ nu w. after_join (path_in c.args.scope.now) w) n s (slots a.keys c.joined.new.self.current c.joined.new.self.marks)) c.self.view_is
    (join_turns a.keys a.monitor.current a.monitor.marks c.joined.new.self.current c.joined.new.self.marks n (path_in c.args.scope.now) e))
    c.joined.ensures.ok

pub returns-clause-within : goal.returns-clause-within
returns-clause-within c = λ n w.
    let a = c.self.inside in
    let h : CellsWithin n a.monitor.current = subst (λ (s : Slots). CellsWithin n s.current) (sym c.self.view_is) w in
    either c.joined.result c.joined.ensures.ok c.joined.ensures.err
    (after_join_holds (λ x. number_of_cell x < n) a.monitor.current c.joined.new.self.current h (path_in c.args.scope.now))
    (λ e. same_holds (λ x. number_of_cell x < n) a.monitor.current c.joined.new.self.current e h)
