use Rattle.gate_log.specs.GateLog.{entries_of}
use Rattle.trace_journal.proofs.Parts.{read_more}
use Rattle.trace_journal.proofs.reading.records_in.Goals as goal

pub loop-bytes-preserved : goal.loop-bytes-preserved
loop-bytes-preserved c =
    let good = c.in-Ok.ensures.good in
    read_more (entries_of c.args.log.now) c.loop-bytes.i c.loop-bytes.trace.entries c.push_spelled.new.trace.entries c.in-Some.bytes.now good.0 c.loop-bytes.invariant c.in-Some.ensures.0 c.in-Some.ensures.1 good.1 good.2 good.3 good.4
