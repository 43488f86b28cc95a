use Rattle.std.proofs.Common.{refl, sym, subst, ◌<◌, ◌≤◌, length, arith}
use Rattle.turk_base.specs.Names.{path_in, slot, shape}
use Rattle.branch_check.specs.Watch.{after_write}
use Rattle.slot_watch.specs.Named.{number_of_key, number_of_cell}
use Rattle.slot_watch.specs.Within.{CellsWithin, KeysWithin}
use Rattle.slot_watch.specs.Slots.{Slots, Turns}
use Rattle.slot_watch.proofs.Naming.{slots, keys_write, cells_write, marks_same, write_turns, either, on_ok, same_holds}
use Rattle.slot_watch.proofs.SlotWatch.wrote_shape.Goals as goal

pub invariant_of-self : goal.invariant_of-self
invariant_of-self c =
    let a = c.self.inside in
    record {
      current = either c.wrote.result c.wrote.ensures.ok c.wrote.ensures.err
          (keys_write (length a.keys) (path_in c.args.by.now) (record { cell = c.args.cell; key = 0 }) a.monitor.current c.wrote.new.self.current (omega arith) c.self.invariant.current (path_in c.args.maker.now))
          (λ e. same_holds (λ x. number_of_key x ≤ length a.keys) a.monitor.current c.wrote.new.self.current e c.self.invariant.current);
      marks = marks_same (KeysWithin (length a.keys)) a.monitor.marks c.wrote.new.self.marks c.wrote.ensures.marks c.self.invariant.marks;
    }

pub returns-clause-now : goal.returns-clause-now
returns-clause-now c = λ n here w.
    let a = c.self.inside in
    on_ok c.wrote.result
    (λ e. subst (λ (s : Slots). CellsWithin n s.current → Turns (λ nu w. after_write (path_in c.args.by.now) (path_in c.args.maker.now) (slot (nu c.args.cell) shape) w) n s (slots a.keys c.wrote.new.self.current c.wrote.new.self.marks)) c.self.view_is
    (write_turns a.keys c.known.ensures a.monitor.current a.monitor.marks c.self.invariant.current (record { cell = c.args.cell; key = 0 }) (omega arith) shape refl c.wrote.new.self.current c.wrote.new.self.marks (path_in c.args.by.now) (path_in c.args.maker.now) e n here) w)
    c.wrote.ensures.ok

pub returns-clause-within : goal.returns-clause-within
returns-clause-within c = λ n here w.
    let a = c.self.inside in
    let h : CellsWithin n a.monitor.current = subst (λ (s : Slots). CellsWithin n s.current) (sym c.self.view_is) w in
    either c.wrote.result c.wrote.ensures.ok c.wrote.ensures.err
    (cells_write n (path_in c.args.by.now) (record { cell = c.args.cell; key = 0 }) a.monitor.current c.wrote.new.self.current here h (path_in c.args.maker.now))
    (λ e. same_holds (λ x. number_of_cell x < n) a.monitor.current c.wrote.new.self.current e h)
