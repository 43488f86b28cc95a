use Rattle.std.proofs.Common.{subst}
use Rattle.eval_ops.specs.Run.{Run, seen_of}
use Rattle.eval_ops.specs.Stored.{run_of}
use Rattle.eval_ops.specs.Looks.{IsTold}
use Rattle.eval_ops.proofs.Tells.{is_told}
use Rattle.eval_ops.proofs.Machine.known.Goals as goal

pub returns : goal.returns
returns c = subst (λ (m : Run). IsTold (seen_of m)) c.self.view_is (is_told (run_of c.self.inside) c.self.invariant.run c.known.ensures.cells c.known.ensures.core)
