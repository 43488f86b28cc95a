use Rattle.std.proofs.Common.{sym, subst, ◌<◌, ◌≤◌, length}
use Rattle.turk_base.specs.Names.{path_in, slot, at}
use Rattle.branch_check.specs.Watch.{after_write}
use Rattle.slot_watch.specs.Named.{number_of_key, number_of_cell}
use Rattle.slot_watch.specs.Within.{CellsWithin, KeysWithin}
use Rattle.slot_watch.specs.Slots.{Slots, Turns, KeepsMarks}
use Rattle.slot_watch.proofs.Naming.{slots, keys_write, cells_write, marks_same, keeps_more, write_turns, has_part, has_within, more_keys, from_more, either, on_ok, same_holds}
use Rattle.slot_watch.proofs.SlotWatch.wrote_under.Goals as goal

pub invariant_of-self-2 : goal.invariant_of-self-2
invariant_of-self-2 c =
    let a = c.self.inside in
    let keys = c.number.new.self in
    let old = more_keys a.keys keys a.monitor.current c.number.ensures.grows c.self.invariant.current in
    record {
      current = either c.wrote.result c.wrote.ensures.ok c.wrote.ensures.err
          (keys_write (length keys) (path_in c.args.by.now) (record { cell = c.args.cell; key = c.in_ok-number.number }) a.monitor.current c.wrote.new.self.current (has_within keys c.args.key.now c.in_ok-number.number c.in_ok-number.ensures.ok) old (path_in c.args.maker.now))
          (λ e. same_holds (λ x. number_of_key x ≤ length keys) a.monitor.current c.wrote.new.self.current e old);
      marks = marks_same (KeysWithin (length keys)) a.monitor.marks c.wrote.new.self.marks c.wrote.ensures.marks (λ i k e. more_keys a.keys keys k c.number.ensures.grows (c.self.invariant.marks i k e));
    }

pub returns-clause-now : goal.returns-clause-now
returns-clause-now c = λ n here w.
    let a = c.self.inside in
    let keys = c.number.new.self in
    let old = more_keys a.keys keys a.monitor.current c.number.ensures.grows c.self.invariant.current in
    let h : CellsWithin n a.monitor.current = subst (λ (s : Slots). CellsWithin n s.current) (sym c.self.view_is) w in
    on_ok c.wrote.result
    (λ e. subst (λ (s : Slots). Turns (λ nu w. after_write (path_in c.args.by.now) (path_in c.args.maker.now) (slot (nu c.args.cell) (at c.args.key.now)) w) n s (slots keys c.wrote.new.self.current c.wrote.new.self.marks)) c.self.view_is
    (from_more a.keys keys a.monitor.current a.monitor.marks c.number.ensures.grows c.self.invariant.current (λ nu w. after_write (path_in c.args.by.now) (path_in c.args.maker.now) (slot (nu c.args.cell) (at c.args.key.now)) w) n (slots keys c.wrote.new.self.current c.wrote.new.self.marks)
    (write_turns keys c.known.ensures a.monitor.current a.monitor.marks old (record { cell = c.args.cell; key = c.in_ok-number.number }) (has_within keys c.args.key.now c.in_ok-number.number c.in_ok-number.ensures.ok) (at c.args.key.now) (has_part keys c.args.key.now c.in_ok-number.number c.in_ok-number.ensures.ok) c.wrote.new.self.current c.wrote.new.self.marks (path_in c.args.by.now) (path_in c.args.maker.now) e n here h)))
    c.wrote.ensures.ok

pub returns-clause-within : goal.returns-clause-within
returns-clause-within c = λ n here w.
    let a = c.self.inside in
    let h : CellsWithin n a.monitor.current = subst (λ (s : Slots). CellsWithin n s.current) (sym c.self.view_is) w in
    either c.wrote.result c.wrote.ensures.ok c.wrote.ensures.err
    (cells_write n (path_in c.args.by.now) (record { cell = c.args.cell; key = c.in_ok-number.number }) a.monitor.current c.wrote.new.self.current here h (path_in c.args.maker.now))
    (λ e. same_holds (λ x. number_of_cell x < n) a.monitor.current c.wrote.new.self.current e h)

pub returns-clause-marks : goal.returns-clause-marks
returns-clause-marks c =
    let a = c.self.inside in
    subst (λ (s : Slots). KeepsMarks s (slots c.number.new.self c.wrote.new.self.current c.wrote.new.self.marks)) c.self.view_is
    (keeps_more a.keys c.number.new.self a.monitor.current c.wrote.new.self.current a.monitor.marks c.wrote.new.self.marks c.number.ensures.grows c.wrote.ensures.marks c.self.invariant.marks)
