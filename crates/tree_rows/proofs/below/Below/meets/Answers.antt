use Rattle.std.specs.Prelude.{Ok, Err, true, false, Some}
use Rattle.std.proofs.Common.{ap}
use Rattle.turk_base.specs.Errors.{choose}
use Rattle.turk_base.specs.Operators.{same}
use Rattle.js_tree.specs.Rows.{expr_to}
use Rattle.value_cells.specs.Seen.{val_in}
use Rattle.run_host.proofs.Sequence.{evaluated, leads_then, leads_same, gives_on, leaves_on}
use Rattle.run_host.proofs.Exits.{takes_exit}
use Rattle.run_host.proofs.Fits.{leads_fits, leads_eq}
use Rattle.tree_rows.proofs.Clauses.{chosen}
use Rattle.tree_rows.proofs.below.Below.meets.Goals as goal

pub returns-in_default-clause-did : goal.returns-in_default-clause-did
returns-in_default-clause-did g c = rw c.in_default.is leads_same

pub returns-in_err-other-clause-did : goal.returns-in_err-other-clause-did
returns-in_err-other-clause-did g c = rw c.in-Some.is (takes_exit _ _ c.from_residual.ensures.1 (leaves_on (evaluated (Err _) c.in_err-other.ensures.ran) (λ nu w go. choose (same (val_in nu c.args.value.now) w) (go true) (go false))))

pub returns-clause-did : goal.returns-clause-did
returns-clause-did g c = rw c.in-Some.is (leads_then (gives_on (evaluated (Ok _) c.in_ok-other.ensures.ran) (λ nu w go. choose (same (val_in nu c.args.value.now) w) (go true) (go false)))
    (leads_then (leads_fits (λ nu f go. ap (λ b. choose b (go true) (go false)) (c.same.ensures nu f))) (leads_eq (λ nu go. chosen c.same.result go))))
