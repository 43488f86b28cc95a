use Rattle.turkit_top.proofs.AnswerLemmas.{gives, source_fault, source_large, source_memory}
use Rattle.turkit_top.proofs.sources.bytes_of.Goals as goal

pub returns-in-Ok-clause-read : goal.returns-in-Ok-clause-read
returns-in-Ok-clause-read g c = gives _ _ c.in-Ok.bytes.items _ c.in-Ok.ensures.all c.in-Ok.ensures.end c.in-Ok.ensures.within c.from_vec.ensures

pub returns-in-Err-Fault-clause-read : goal.returns-in-Err-Fault-clause-read
returns-in-Err-Fault-clause-read g c = source_fault _ _ _ c.in-Err-Fault.field-0 _ c.in-Err-Fault.ensures.stop c.in-Err-Fault.field-0-is c.nothing.ensures

pub returns-in-Err-TooLarge-clause-read : goal.returns-in-Err-TooLarge-clause-read
returns-in-Err-TooLarge-clause-read g c = source_large _ _ _ c.in-Err-TooLarge.field-0 _ c.in-Err-TooLarge.ensures.stop c.in-Err-TooLarge.field-0-is c.with_text.ensures

pub returns-in-Err-Memory-clause-read : goal.returns-in-Err-Memory-clause-read
returns-in-Err-Memory-clause-read g c = source_memory _ _ _ _ c.nothing-in-Err-Memory.ensures
