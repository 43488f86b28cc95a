use Rattle.call_steps.proofs.Others.{no_member_call}
use Rattle.host_steps.proofs.Made.{runs_as}
use Rattle.js_tree.specs.Calls.{call_found, call_method, call_property}
use Rattle.js_tree.specs.Rows.{stmt_to}
use Rattle.run_host.proofs.Exits.{value_exit}
use Rattle.run_host.proofs.Fits.{runs_left, runs_on}
use Rattle.std.proofs.Common.{ap, sym, ◌∙◌}
use Rattle.std.specs.Prelude.{map}
use Rattle.tree_rows.specs.Codes.{table_in}
use Rattle.turk_base.specs.Values.{Text}
use Rattle.value_cells.specs.Seen.{val_in}
use Rattle.call_rows.proofs.calls.call_property.Goals as goal

pub returns-in_err-found-in-Object-clause-ran : goal.returns-in_err-found-in-Object-clause-ran
returns-in_err-found-in-Object-clause-ran g c = let t = table_in c.args.codes.now in let s = stmt_to t c.args.below.now.left in value_exit _ _ c.from_residual.ensures.1 (runs_as (λ nu. ap (λ v. call_property t s (val_in nu v) c.args.key.now (map (val_in nu) c.args.arguments.now)) c.in-Object.is)
    (runs_left (λ nu found. call_found t s found (nu c.in-Object.cell) c.args.key.now (map (val_in nu) c.args.arguments.now)) c.in_err-found-in-Object.ensures.did))

pub returns-in_ok-found-in-Object-clause-ran : goal.returns-in_ok-found-in-Object-clause-ran
returns-in_ok-found-in-Object-clause-ran g c = let t = table_in c.args.codes.now in let s = stmt_to t c.args.below.now.left in runs_as (λ nu. ap (λ v. call_property t s (val_in nu v) c.args.key.now (map (val_in nu) c.args.arguments.now)) c.in-Object.is)
    (runs_on (λ nu found. call_found t s found (nu c.in-Object.cell) c.args.key.now (map (val_in nu) c.args.arguments.now)) c.in_ok-found-in-Object.ensures.did c.call_found.ensures.ran)

pub returns-in-Text-clause-ran : goal.returns-in-Text-clause-ran
returns-in-Text-clause-ran g c = let t = table_in c.args.codes.now in let s = stmt_to t c.args.below.now.left in runs_as (λ nu. ap (λ v. call_property t s (val_in nu v) c.args.key.now (map (val_in nu) c.args.arguments.now)) c.in-Text.is
    ∙ ap (λ w. call_method t s w (Text c.in-Text.field-0) (map (val_in nu) c.args.arguments.now)) c.text_method.ensures ∙ ap (λ v. call_method t s c.text_method.result (val_in nu v) (map (val_in nu) c.args.arguments.now)) (sym c.in-Text.is)) (c.call_method.ensures.ran t s)

pub returns-in_default-clause-ran : goal.returns-in_default-clause-ran
returns-in_default-clause-ran g c = let t = table_in c.args.codes.now in let s = stmt_to t c.args.below.now.left in runs_as (λ nu. no_member_call t s c.args.base.now c.in_default.not-Object c.in_default.not-Text nu c.args.key.now (map (val_in nu) c.args.arguments.now)) c.no_function.ensures.did
