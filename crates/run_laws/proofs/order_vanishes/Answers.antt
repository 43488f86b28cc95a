-- The law is proved over the definitions alone.
use Rattle.run_laws.proofs.Order.{order_vanishes}
use Rattle.run_laws.proofs.order_vanishes.Goals as goal

pub returns : goal.returns
returns c = order_vanishes
