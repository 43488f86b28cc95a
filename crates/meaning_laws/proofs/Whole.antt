-- Laws of whole runs: what is made, the fuel, the verdict without a fork.
use Rattle.std.specs.Prelude.{false}
use Rattle.std.proofs.Common.{suc, refl}
use Rattle.turk_base.specs.Names.{root}
use Rattle.turk_base.specs.Start.{start}
use Rattle.turk_base.specs.Values.{Normal, Break, Continue, Return, Throw}
use Rattle.js_tree.specs.Run.{branch_end}
use Rattle.js_tree.specs.Eval.{fuel}
use Rattle.run_laws.proofs.Falls.{run_left, branch_end_left}
use Rattle.meaning_laws.specs.Laws.{MadeIsNew, FuelFalls, NoForkIndependent}
use Rattle.meaning_laws.proofs.Apart.{run_apart, branch_end_apart}
use Rattle.meaning_laws.proofs.Rises.{branch_end_rises}
use Rattle.meaning_laws.proofs.Calm.{CalmK, run_calm}

pub made_is_new : MadeIsNew
made_is_new S E T n = let a = run_apart S E T (suc n) root root false branch_end (branch_end_apart T root) start (fuel n) in record { distinct = a.distinct; new = a.new }

pub fuel_falls : FuelFalls
fuel_falls S E T n = run_left S E T (suc n) root root false branch_end branch_end_left start (fuel n)

branch_end_calm : CalmK branch_end
branch_end_calm (Normal v) τ w c = λ e. c
branch_end_calm Break τ w c = λ e. c
branch_end_calm Continue τ w c = λ e. c
branch_end_calm (Return v) τ w c = λ e. c
branch_end_calm (Throw v) τ w c = λ e. c

pub no_fork_independent : NoForkIndependent
no_fork_independent S E T n e = (run_calm S E T (suc n) root false branch_end branch_end_rises branch_end_calm start (fuel n) (record { opened = refl; verdict = refl }) e).verdict
