use Rattle.host_steps.proofs.Made.{runs_as}
use Rattle.js_tree.specs.Calls.{call_found, call_method}
use Rattle.js_tree.specs.Rows.{stmt_to}
use Rattle.run_host.proofs.Fits.{runs_on}
use Rattle.std.proofs.Common.{ap}
use Rattle.std.specs.Option.{option_map}
use Rattle.std.specs.Prelude.{map}
use Rattle.tree_rows.specs.Codes.{table_in}
use Rattle.turk_base.specs.BuiltIns.{cell_method}
use Rattle.turk_base.specs.Values.{Object}
use Rattle.value_cells.specs.Seen.{val_in}
use Rattle.call_rows.proofs.calls.call_found.Goals as goal

pub returns-in-Some-clause-ran : goal.returns-in-Some-clause-ran
returns-in-Some-clause-ran g c = let t = table_in c.args.codes.now in let s = stmt_to t c.args.below.now.left in runs_as (λ nu. ap (λ o. call_found t s (option_map (val_in nu) o) (nu c.args.base) c.args.key.now (map (val_in nu) c.args.arguments.now)) c.in-Some.is) c.call_value.ensures.ran

pub returns-in-None-clause-ran : goal.returns-in-None-clause-ran
returns-in-None-clause-ran g c = let t = table_in c.args.codes.now in let s = stmt_to t c.args.below.now.left in runs_as (λ nu. ap (λ o. call_found t s (option_map (val_in nu) o) (nu c.args.base) c.args.key.now (map (val_in nu) c.args.arguments.now)) c.in-None.is)
    (runs_on (λ nu kind. call_method t s (cell_method kind c.args.key.now) (Object (nu c.args.base)) (map (val_in nu) c.args.arguments.now)) c.kind.ensures.did
    (runs_as (λ nu. ap (λ w. call_method t s w (Object (nu c.args.base)) (map (val_in nu) c.args.arguments.now)) (c.cell_method-which.ensures nu)) (c.call_method.ensures.ran t s)))
