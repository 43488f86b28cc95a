use Rattle.host_steps.proofs.Made.{runs_as}
use Rattle.js_tree.specs.Calls.{call_kind}
use Rattle.js_tree.specs.Rows.{stmt_to}
use Rattle.run_host.proofs.Fits.{runs_on}
use Rattle.run_host.specs.Told.{this_in}
use Rattle.std.proofs.Common.{ap}
use Rattle.std.specs.Prelude.{map}
use Rattle.tree_rows.specs.Codes.{table_in}
use Rattle.value_cells.specs.Seen.{kind_in, val_in}
use Rattle.call_rows.proofs.calls.call_cell.Goals as goal

pub returns-in-Function-clause-ran : goal.returns-in-Function-clause-ran
returns-in-Function-clause-ran g c = let t = table_in c.args.codes.now in let s = stmt_to t c.args.below.now.left in runs_on (λ nu kind. call_kind t s kind (this_in nu c.args.this) (map (val_in nu) c.args.arguments.now)) c.kind.ensures.did (runs_as (λ nu. ap (λ k. call_kind t s (kind_in nu k) (this_in nu c.args.this) (map (val_in nu) c.args.arguments.now)) c.in-Function.is) c.call_code.ensures.ran)

pub returns-in-BuiltIn-clause-ran : goal.returns-in-BuiltIn-clause-ran
returns-in-BuiltIn-clause-ran g c = let t = table_in c.args.codes.now in let s = stmt_to t c.args.below.now.left in runs_on (λ nu kind. call_kind t s kind (this_in nu c.args.this) (map (val_in nu) c.args.arguments.now)) c.kind.ensures.did (runs_as (λ nu. ap (λ k. call_kind t s (kind_in nu k) (this_in nu c.args.this) (map (val_in nu) c.args.arguments.now)) c.in-BuiltIn.is) c.built_in.ensures.did)

pub returns-in-Frame-clause-ran : goal.returns-in-Frame-clause-ran
returns-in-Frame-clause-ran g c = let t = table_in c.args.codes.now in let s = stmt_to t c.args.below.now.left in runs_on (λ nu kind. call_kind t s kind (this_in nu c.args.this) (map (val_in nu) c.args.arguments.now)) c.kind.ensures.did (runs_as (λ nu. ap (λ k. call_kind t s (kind_in nu k) (this_in nu c.args.this) (map (val_in nu) c.args.arguments.now)) c.in-Frame.is) c.no_function.ensures.did)

pub returns-in-Plain-clause-ran : goal.returns-in-Plain-clause-ran
returns-in-Plain-clause-ran g c = let t = table_in c.args.codes.now in let s = stmt_to t c.args.below.now.left in runs_on (λ nu kind. call_kind t s kind (this_in nu c.args.this) (map (val_in nu) c.args.arguments.now)) c.kind.ensures.did (runs_as (λ nu. ap (λ k. call_kind t s (kind_in nu k) (this_in nu c.args.this) (map (val_in nu) c.args.arguments.now)) c.in-Plain.is) c.no_function-in-Plain.ensures.did)

pub returns-in-Array-clause-ran : goal.returns-in-Array-clause-ran
returns-in-Array-clause-ran g c = let t = table_in c.args.codes.now in let s = stmt_to t c.args.below.now.left in runs_on (λ nu kind. call_kind t s kind (this_in nu c.args.this) (map (val_in nu) c.args.arguments.now)) c.kind.ensures.did (runs_as (λ nu. ap (λ k. call_kind t s (kind_in nu k) (this_in nu c.args.this) (map (val_in nu) c.args.arguments.now)) c.in-Array.is) c.no_function-in-Array.ensures.did)
