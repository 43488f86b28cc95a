use Rattle.std.proofs.Common.{◌≡◌, drop}
use Rattle.turk_base.specs.Trace.{at}
use Rattle.ask_model.proofs.scans.record_at.Given as goal

abbrev pub invariant-loop-entry : goal.invariant-loop-entry
invariant-loop-entry l = at (drop l.entry-index l.entries) l.path ≡ at l.entries l.path
