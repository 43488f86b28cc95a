use Rattle.std.proofs.Common.{ap, arith, ◌≡◌, ◌<◌, ◌≤◌, length, get_or}
use Rattle.std.specs.Prelude.{map}
use Rattle.js_tree.specs.Calls.{call_code}
use Rattle.js_tree.specs.Rows.{stmt_to}
use Rattle.run_host.specs.Told.{this_in}
use Rattle.value_cells.specs.Seen.{val_in}
use Rattle.host_steps.proofs.Made.{runs_as}
use Rattle.run_host.proofs.Sequence.{ends_with}
use Rattle.tree_rows.specs.Codes.{table_in}
use Rattle.call_rows.proofs.Tables.{code_there, code_past}
use Rattle.call_rows.proofs.calls.call_code.Goals as goal

pub returns-then-at-len-clause-ran : goal.returns-then-at-len-clause-ran
returns-then-at-len-clause-ran g c = let t = table_in c.args.codes.now in let s = stmt_to t c.args.below.now.left in let all = c.args.codes.now.all.items in
    let there : c.args.number < length all = omega (arith, c.len.ensures, c.if-at-len.true, c.args.codes.now.all.ok.0) in
    let same : c.index.result.now ≡ get_or all c.args.number c.index.result.now = c.index.ensures in
    runs_as (λ nu. ap (λ o. call_code t s o (nu c.args.around) (this_in nu c.args.this) (map (val_in nu) c.args.arguments.now)) (code_there all c.args.number c.index.result.now there same)) c.run_code.ensures.ran

pub returns-else-at-len-clause-ran : goal.returns-else-at-len-clause-ran
returns-else-at-len-clause-ran g c = let t = table_in c.args.codes.now in let s = stmt_to t c.args.below.now.left in let all = c.args.codes.now.all.items in
    let past : length all ≤ c.args.number = omega (arith, c.len.ensures, c.if-at-len.false, c.args.codes.now.all.ok.0) in
    runs_as (λ nu. ap (λ o. call_code t s o (nu c.args.around) (this_in nu c.args.this) (map (val_in nu) c.args.arguments.now)) (code_past all c.args.number past)) ends_with
