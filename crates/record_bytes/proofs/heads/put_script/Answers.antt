use Rattle.std.proofs.Common.{arith}
use Rattle.record_bytes.proofs.Named.{all_bytes}
use Rattle.record_bytes.proofs.heads.put_script.Goals as goal

pub returns-clause-script : goal.returns-clause-script
returns-clause-script c = all_bytes c.args.script.now (λ i. omega (arith, c.type_inv.script i))
