use Rattle.host_steps.proofs.Made.{runs_as}
use Rattle.js_tree.specs.Calls.{call_method}
use Rattle.std.proofs.Common.{ap}
use Rattle.std.specs.Prelude.{map}
use Rattle.value_cells.specs.Seen.{val_in}
use Rattle.call_steps.proofs.ends.call_method.Goals as goal

pub returns-in-Some-clause-ran : goal.returns-in-Some-clause-ran
returns-in-Some-clause-ran g c = λ t s. runs_as (λ nu. ap (λ w. call_method t s w (val_in nu c.args.this.now) (map (val_in nu) c.args.arguments.now)) c.in-Some.is) c.built_in.ensures.did

pub returns-in-None-clause-ran : goal.returns-in-None-clause-ran
returns-in-None-clause-ran g c = λ t s. runs_as (λ nu. ap (λ w. call_method t s w (val_in nu c.args.this.now) (map (val_in nu) c.args.arguments.now)) c.in-None.is) c.no_function.ensures.did
