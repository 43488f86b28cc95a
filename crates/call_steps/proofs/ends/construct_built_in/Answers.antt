use Rattle.call_steps.proofs.Others.{not_equal}
use Rattle.host_steps.proofs.Made.{runs_as}
use Rattle.std.proofs.Common.{ap}
use Rattle.std.specs.Prelude.{codes, if◌then◌else◌, map, ◌==◌}
use Rattle.turk_base.specs.BuiltIns.{call_built_in}
use Rattle.turk_base.specs.Errors.{type_error}
use Rattle.turk_base.specs.Values.{Undefined}
use Rattle.value_cells.specs.Seen.{val_in}
use Rattle.call_steps.proofs.ends.construct_built_in.Goals as goal

pub returns-then-which-eq12-clause-ran : goal.returns-then-which-eq12-clause-ran
returns-then-which-eq12-clause-ran g c = runs_as (λ nu. ap (λ w. if w == 12 then type_error (codes "not a constructor") else call_built_in w Undefined (map (val_in nu) c.args.arguments.now)) c.if-which-eq12.true) c.no_constructor.ensures.did

pub returns-clause-ran : goal.returns-clause-ran
returns-clause-ran g c = runs_as (λ nu. ap (λ w. if w then type_error (codes "not a constructor") else call_built_in c.args.which Undefined (map (val_in nu) c.args.arguments.now)) (not_equal c.args.which 12 c.if-which-eq12.false)) c.built_in.ensures.did
