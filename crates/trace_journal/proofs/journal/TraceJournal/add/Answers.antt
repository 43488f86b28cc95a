use Rattle.std.proofs.Common.{List, ℕ, sym, subst}
use Rattle.gate_log.specs.GateLog as log
use Rattle.record_bytes.specs.Limits.{Spells}
use Rattle.trace_journal.specs.TraceJournal.{records_of, entries_of}
use Rattle.trace_journal.proofs.Adding.{leaves_map, with_or_without, keeps_ok}
use Rattle.trace_journal.proofs.journal.TraceJournal.add.Goals as goal

pub returns-in-Ok-clause-keeps : goal.returns-in-Ok-clause-keeps
returns-in-Ok-clause-keeps g c h keeps =
    let spelled : Spells c.deref.result.now c.args.ready.entry = subst (λ (b : List ℕ). Spells b c.args.ready.entry) (sym c.deref.ensures.value) c.requires.ready.spelled in
    keeps_ok (entries_of c.args.self.now) (log.entries_of c.append.new.self) h (records_of c.args.self.now) c.push_ready.new.trace.entries c.deref.result.now c.args.ready.entry keeps spelled c.requires.ready.fresh c.requires.ready.few c.in-Ok.ensures.ok c.push_ready.ensures

pub returns-in-Ok-clause-any_moment : goal.returns-in-Ok-clause-any_moment
returns-in-Ok-clause-any_moment g c told h keeps =
    let spelled : Spells c.deref.result.now c.args.ready.entry = subst (λ (b : List ℕ). Spells b c.args.ready.entry) (sym c.deref.ensures.value) c.requires.ready.spelled in
    leaves_map g.D.Disk.moment g.D.Disk.left_since c.args.disk.now c.append.new.disk _ _ (with_or_without (entries_of c.args.self.now) h (records_of c.args.self.now) c.deref.result.now c.args.ready.entry keeps spelled c.requires.ready.fresh c.requires.ready.few) (c.append.ensures.any_moment told)

pub returns-in-Err-clause-any_moment : goal.returns-in-Err-clause-any_moment
returns-in-Err-clause-any_moment g c told h keeps =
    let spelled : Spells c.deref.result.now c.args.ready.entry = subst (λ (b : List ℕ). Spells b c.args.ready.entry) (sym c.deref.ensures.value) c.requires.ready.spelled in
    leaves_map g.D.Disk.moment g.D.Disk.left_since c.args.disk.now c.append.new.disk _ _ (with_or_without (entries_of c.args.self.now) h (records_of c.args.self.now) c.deref.result.now c.args.ready.entry keeps spelled c.requires.ready.fresh c.requires.ready.few) (c.append.ensures.any_moment told)
