use Rattle.record_bytes.proofs.Named.{no_utf8}
use Rattle.record_bytes.proofs.heads.name_of.Goals as goal

pub returns-in-Err-clause-cause : goal.returns-in-Err-clause-cause
returns-in-Err-clause-cause c = no_utf8 c.args.bytes.now c.in-Err.ensures.cases.0
