use Rattle.std.proofs.Common.{List, ℕ, sym, subst}
use Rattle.gate_log.specs.GateLog.{entries_of}
use Rattle.record_bytes.specs.Limits.{SpellsHead}
use Rattle.trace_journal.proofs.Adding.{leaves_map}
use Rattle.trace_journal.proofs.Opening.{begun_kinds, begun_moment}
use Rattle.trace_journal.proofs.open.begin.Goals as goal

pub returns-in-Ok-append-clause-any_moment : goal.returns-in-Ok-append-clause-any_moment
returns-in-Ok-append-clause-any_moment g c told =
    let spelled : SpellsHead c.deref.result.now c.args.head.now = subst (λ (b : List ℕ). SpellsHead b c.args.head.now) (sym c.deref.ensures.value) c.in-Ok.ensures in
    leaves_map g.D.Disk.moment g.D.Disk.left_since c.args.disk.now c.append.new.disk _ _ (begun_moment (entries_of c.args.log) c.deref.result.now c.args.head.now c.requires.empty spelled) (c.append.ensures.any_moment told)

pub returns-in-Err-clause-kinds : goal.returns-in-Err-clause-kinds
returns-in-Err-clause-kinds g c =
    let spelled : SpellsHead c.deref.result.now c.args.head.now = subst (λ (b : List ℕ). SpellsHead b c.args.head.now) (sym c.deref.ensures.value) c.in-Ok.ensures in
    rw c.stop_of.ensures (begun_kinds (entries_of c.args.log) c.args.log.is_closed c.deref.result.now c.args.head.now c.in-Err.stop c.requires.empty c.requires.open spelled c.in-Err.ensures.kinds)

pub returns-in-Err-clause-any_moment : goal.returns-in-Err-clause-any_moment
returns-in-Err-clause-any_moment g c told =
    let spelled : SpellsHead c.deref.result.now c.args.head.now = subst (λ (b : List ℕ). SpellsHead b c.args.head.now) (sym c.deref.ensures.value) c.in-Ok.ensures in
    leaves_map g.D.Disk.moment g.D.Disk.left_since c.args.disk.now c.append.new.disk _ _ (begun_moment (entries_of c.args.log) c.deref.result.now c.args.head.now c.requires.empty spelled) (c.append.ensures.any_moment told)
