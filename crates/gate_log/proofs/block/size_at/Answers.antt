use Rattle.std.proofs.Common.{arith}
use Rattle.std.proofs.lemmas.Nat.{be_bytes_4}
use Rattle.gate_log.specs.Log.{size_bytes}
use Rattle.gate_log.proofs.block.size_at.Goals as goal

pub returns-clause-size : goal.returns-clause-size
unfolding size_bytes
returns-clause-size c = be_bytes_4 c.args.front.now c.from_be_bytes-size.result c.requires (λ i. omega (arith, c.type_inv.front i)) c.from_be_bytes-size.ensures
