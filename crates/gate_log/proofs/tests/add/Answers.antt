use Rattle.gate_log.specs.Some.{on_same}
use Rattle.gate_log.proofs.tests.add.Goals as goal

pub append-requires : goal.append-requires
append-requires c = record { on = λ shut told. on_same c.in-Ok.log c.reserve.new.self _ _ c.reserve.ensures.entries (c.in-Ok.ensures.on told) }
