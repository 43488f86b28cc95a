use Rattle.machine_host.proofs.Counted.{short_data}
use Rattle.machine_host.proofs.AskedRun.put_anew.Goals as goal

pub put_data-answer-requires-clause-short : goal.put_data-answer-requires-clause-short
put_data-answer-requires-clause-short g c = short_data c.args.gift.now c.requires.within.1
