use Rattle.std.proofs.Common.{refl}
use Rattle.turkit_top.proofs.AnswerLemmas.{asked_so, not_asked}
use Rattle.turkit_top.proofs.sources.replies_of.Goals as goal

pub returns-then-asked-clause-read : goal.returns-then-asked-clause-read
returns-then-asked-clause-read g c =
    asked_so c.args.asked (record { before = g.S.Source.faults c.args.events.now; now = g.S.Source.faults c.replies_in.new.events; left = g.S.Source.left c.args.events.now; rest = g.S.Source.left c.replies_in.new.events })
    c.replies_in.result c.if-asked.true c.replies_in.ensures.read

pub returns-else-asked-clause-read : goal.returns-else-asked-clause-read
returns-else-asked-clause-read g c = not_asked _ _ _ c.if-asked.false (refl, refl) c.new.ensures
