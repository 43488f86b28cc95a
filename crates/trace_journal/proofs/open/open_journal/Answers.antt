use Rattle.std.proofs.Common.{rules, ◌≡◌, []}
use Rattle.gate_log.specs.GateLog.{entries_of}
use Rattle.trace_journal.specs.Journal.{IsUnbegun}
use Rattle.trace_journal.proofs.Adding.{leaves_map, leaves_then}
use Rattle.trace_journal.proofs.Opening.{blank_begun, found_none}
use Rattle.trace_journal.proofs.open.open_journal.Goals as goal

pub returns-in-Ok-None-clause-any_moment : goal.returns-in-Ok-None-clause-any_moment
returns-in-Ok-None-clause-any_moment g c told =
    let none : entries_of c.in-Ok.log ≡ [] = search rules in
    let unbegun : IsUnbegun (g.D.Disk.bytes c.args.disk.now) = found_none _ _ (c.in-Ok.ensures.log told) none in
    leaves_then g.D.Disk.moment g.D.Disk.left_since c.args.disk.now c.open_log.new.disk c.begin.new.disk _
    (leaves_map g.D.Disk.moment g.D.Disk.left_since c.args.disk.now c.open_log.new.disk _ _ (blank_begun (g.D.Disk.bytes c.args.disk.now) c.args.head.now) (c.open_log.ensures.crash told))
    (leaves_map g.D.Disk.moment g.D.Disk.left_since c.open_log.new.disk c.begin.new.disk _ _ (λ b after. (unbegun, after)) (c.begin.ensures.any_moment told))
