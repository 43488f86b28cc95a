use Rattle.std.proofs.Common.{arith}
use Rattle.record_bytes.specs.Unique.{task_whole, none_apart}
use Rattle.record_bytes.specs.Reading.{task_at, whole}
use Rattle.record_bytes.proofs.Takes.{task_spelled}
use Rattle.record_bytes.proofs.tasks.decode_task.Goals as goal

pub returns-in-Ok-clause-some : goal.returns-in-Ok-clause-some
returns-in-Ok-clause-some c = task_spelled c.args.bytes.now c.in-Ok.task.0 c.in-Ok.task.1 (λ i. omega (arith, c.type_inv.bytes i)) c.in-Ok.ensures

pub returns-in-Err-Bad-clause-none : goal.returns-in-Err-Bad-clause-none
returns-in-Err-Bad-clause-none c token text spelled =
    none_apart (whole task_at c.args.bytes.now) (token, text) (rw c.in-Err-Bad.field-0-is at c.in-Err-Bad.ensures) (task_whole c.args.bytes.now token text spelled)
