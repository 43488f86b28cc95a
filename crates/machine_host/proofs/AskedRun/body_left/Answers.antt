use Rattle.std.proofs.Common.{sym, ◌∙◌}
use Rattle.machine_host.proofs.Closing.{left_kept}
use Rattle.machine_host.proofs.AskedRun.body_left.Goals as goal

pub returns-in-Ok-clause-left : goal.returns-in-Ok-clause-left
returns-in-Ok-clause-left g c = left_kept g.A.Asker.seen g.A.Asker.words c.args.exit c.args.self.now c.keep_done.new.self (sym c.goes_on.ensures ∙ c.if-not-goes_on.false) c.in-Ok.ensures.left c.keep_done.ensures.asker c.keep_done.ensures.notes
