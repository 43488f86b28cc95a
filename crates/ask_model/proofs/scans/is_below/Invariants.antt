use Rattle.std.proofs.Common.{◌≡◌, drop}
use Rattle.turk_base.specs.Trace.{below}
use Rattle.ask_model.proofs.scans.is_below.Given as goal

abbrev pub invariant-loop-entry : goal.invariant-loop-entry
invariant-loop-entry l = below (drop l.entry-index l.entries) l.path ≡ below l.entries l.path
