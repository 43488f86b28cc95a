use Rattle.std.proofs.Common.{arith}
use Rattle.record_bytes.specs.Unique.{entry_whole, none_apart}
use Rattle.record_bytes.specs.Reading.{entry_at, whole}
use Rattle.record_bytes.proofs.Takes.{entry_spelled}
use Rattle.record_bytes.proofs.records.decode.Goals as goal

pub returns-in-Ok-clause-some : goal.returns-in-Ok-clause-some
returns-in-Ok-clause-some c = entry_spelled c.args.bytes.now c.in-Ok.entry (λ i. omega (arith, c.type_inv.bytes i)) c.in-Ok.ensures

pub returns-in-Err-Bad-clause-none : goal.returns-in-Err-Bad-clause-none
returns-in-Err-Bad-clause-none c e spelled =
    none_apart (whole entry_at c.args.bytes.now) e (rw c.in-Err-Bad.field-0-is at c.in-Err-Bad.ensures) (entry_whole c.args.bytes.now e spelled)
