use Rattle.call_steps.proofs.Others.{no_construct}
use Rattle.host_steps.proofs.Made.{runs_as}
use Rattle.js_tree.specs.Calls.{construct, construct_kind}
use Rattle.js_tree.specs.Rows.{stmt_to}
use Rattle.run_host.proofs.Fits.{runs_on}
use Rattle.std.proofs.Common.{ap}
use Rattle.std.specs.Prelude.{map}
use Rattle.tree_rows.specs.Codes.{table_in}
use Rattle.value_cells.specs.Seen.{kind_in, val_in}
use Rattle.call_rows.proofs.news.construct.Goals as goal

pub returns-in-Function-clause-ran : goal.returns-in-Function-clause-ran
returns-in-Function-clause-ran g c = let t = table_in c.args.codes.now in let s = stmt_to t c.args.below.now.left in runs_as (λ nu. ap (λ v. construct t s (val_in nu v) (map (val_in nu) c.args.arguments.now)) c.in-Object.is) (runs_on (λ nu kind. construct_kind t s kind (nu c.in-Object.cell) (map (val_in nu) c.args.arguments.now)) c.kind.ensures.did (runs_as (λ nu. ap (λ k. construct_kind t s (kind_in nu k) (nu c.in-Object.cell) (map (val_in nu) c.args.arguments.now)) c.in-Function.is) c.construct_code.ensures.ran))

pub returns-in-BuiltIn-clause-ran : goal.returns-in-BuiltIn-clause-ran
returns-in-BuiltIn-clause-ran g c = let t = table_in c.args.codes.now in let s = stmt_to t c.args.below.now.left in runs_as (λ nu. ap (λ v. construct t s (val_in nu v) (map (val_in nu) c.args.arguments.now)) c.in-Object.is) (runs_on (λ nu kind. construct_kind t s kind (nu c.in-Object.cell) (map (val_in nu) c.args.arguments.now)) c.kind.ensures.did (runs_as (λ nu. ap (λ k. construct_kind t s (kind_in nu k) (nu c.in-Object.cell) (map (val_in nu) c.args.arguments.now)) c.in-BuiltIn.is) c.construct_built_in.ensures.ran))

pub returns-in-Frame-clause-ran : goal.returns-in-Frame-clause-ran
returns-in-Frame-clause-ran g c = let t = table_in c.args.codes.now in let s = stmt_to t c.args.below.now.left in runs_as (λ nu. ap (λ v. construct t s (val_in nu v) (map (val_in nu) c.args.arguments.now)) c.in-Object.is) (runs_on (λ nu kind. construct_kind t s kind (nu c.in-Object.cell) (map (val_in nu) c.args.arguments.now)) c.kind.ensures.did (runs_as (λ nu. ap (λ k. construct_kind t s (kind_in nu k) (nu c.in-Object.cell) (map (val_in nu) c.args.arguments.now)) c.in-Frame.is) c.no_constructor.ensures.did))

pub returns-in-Plain-clause-ran : goal.returns-in-Plain-clause-ran
returns-in-Plain-clause-ran g c = let t = table_in c.args.codes.now in let s = stmt_to t c.args.below.now.left in runs_as (λ nu. ap (λ v. construct t s (val_in nu v) (map (val_in nu) c.args.arguments.now)) c.in-Object.is) (runs_on (λ nu kind. construct_kind t s kind (nu c.in-Object.cell) (map (val_in nu) c.args.arguments.now)) c.kind.ensures.did (runs_as (λ nu. ap (λ k. construct_kind t s (kind_in nu k) (nu c.in-Object.cell) (map (val_in nu) c.args.arguments.now)) c.in-Plain.is) c.no_constructor-in-Plain.ensures.did))

pub returns-in-Array-clause-ran : goal.returns-in-Array-clause-ran
returns-in-Array-clause-ran g c = let t = table_in c.args.codes.now in let s = stmt_to t c.args.below.now.left in runs_as (λ nu. ap (λ v. construct t s (val_in nu v) (map (val_in nu) c.args.arguments.now)) c.in-Object.is) (runs_on (λ nu kind. construct_kind t s kind (nu c.in-Object.cell) (map (val_in nu) c.args.arguments.now)) c.kind.ensures.did (runs_as (λ nu. ap (λ k. construct_kind t s (kind_in nu k) (nu c.in-Object.cell) (map (val_in nu) c.args.arguments.now)) c.in-Array.is) c.no_constructor-in-Array.ensures.did))

pub returns-in_default-clause-ran : goal.returns-in_default-clause-ran
returns-in_default-clause-ran g c = let t = table_in c.args.codes.now in let s = stmt_to t c.args.below.now.left in runs_as (λ nu. no_construct t s c.args.function.now c.in_default.not-Object nu (map (val_in nu) c.args.arguments.now)) c.no_constructor-in_default.ensures.did
