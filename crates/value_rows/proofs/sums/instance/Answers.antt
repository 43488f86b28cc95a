use Rattle.std.proofs.Common.{refl}
use Rattle.turk_base.specs.Errors.{not_a_function}
use Rattle.js_tree.specs.Operate.{instance_of}
use Rattle.value_cells.specs.Seen.{val_in}
use Rattle.run_host.specs.Told.{told_exit}
use Rattle.run_host.proofs.Fits.{runs_on}
use Rattle.value_rows.proofs.sums.instance.Goals as goal

pub returns-in-Some-clause-ran : goal.returns-in-Some-clause-ran
returns-in-Some-clause-ran g c = runs_on (λ nu f. instance_of (val_in nu c.args.x.now) f) (c.in-Some.ensures.some not_a_function) c.instance_of.ensures.ran

pub returns-in-None-clause-ran : goal.returns-in-None-clause-ran
returns-in-None-clause-ran g c = (c.function_in.ensures.none c.in-None.is not_a_function (λ nu. instance_of (val_in nu c.args.x.now))).goes (λ nu. told_exit nu c.no_function.result) (g.H.Host.moment c.no_function.new.host) c.no_function.ensures.did
