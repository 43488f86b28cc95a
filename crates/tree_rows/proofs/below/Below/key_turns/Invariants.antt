use Rattle.js_tree.specs.Rows.{expr_to, stmt_to}
use Rattle.js_tree.specs.Statements.{key_turns}
use Rattle.js_tree.specs.declared.ForTarget.{out-ForTarget}
use Rattle.run_host.specs.Moment.{cells}
use Rattle.run_host.specs.Steps.{Onward}
use Rattle.run_host.specs.Told.{here_in}
use Rattle.std.proofs.Common.{◌≤◌}
use Rattle.tree_rows.proofs.Keys.{keys_from}
use Rattle.tree_rows.specs.Codes.{table_in}
use Rattle.tree_rows.proofs.below.Below.key_turns.Given as goal

abbrev pub invariant-loop-key : goal.invariant-loop-key
invariant-loop-key g l =
    let t = table_in l.codes in
    let old = g.H.Host.moment l.fn.host in
    let now = g.H.Host.moment l.host in
    record {
      rest : Onward (λ nu. key_turns t (expr_to t l.self.left) (stmt_to t l.self.left) (here_in nu l.here) (out-ForTarget l.into) l.s (nu l.cell) l.keys) (keys_from t (expr_to t l.self.left) (stmt_to t l.self.left) (λ nu. here_in nu l.here) (out-ForTarget l.into) l.s l.cell l.keys l.key-index) old now;
      more : cells old ≤ cells now;
      sound : g.H.Host.is_sound l.host;
    }
