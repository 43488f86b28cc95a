use Rattle.std.proofs.Common.{rules}
use Rattle.record_bytes.specs.Limits.{Spells}
use Rattle.trace_journal.proofs.Parts.{bad_repeated}
use Rattle.trace_journal.proofs.reading.push_spelled.Goals as goal

pub returns-clause-bad : goal.returns-clause-bad
returns-clause-bad c is =
    let spelled : Spells c.args.bytes.now c.in-Some.entry = search rules in
    let why = rw c.in-Err-Repeated.field-0-is at c.in-Err-Repeated.ensures.why in
    bad_repeated c.args.trace.now.entries c.args.bytes.now c.in-Some.entry spelled why.1
