use Rattle.std.proofs.Common.{◌≤◌, length}
use Rattle.js_tree.specs.Statements.{clause_for}
use Rattle.js_tree.specs.Rows.{expr_to, stmt_to}
use Rattle.value_cells.specs.Seen.{val_in}
use Rattle.run_host.specs.Moment.{cells}
use Rattle.run_host.specs.Told.{here_in}
use Rattle.run_host.specs.Steps.{Onward}
use Rattle.tree_rows.specs.Codes.{table_in}
use Rattle.tree_rows.proofs.Clauses.{tests_from}
use Rattle.tree_rows.proofs.below.Below.clause_for.Given as goal

abbrev pub invariant-loop-rest : goal.invariant-loop-rest
invariant-loop-rest g l =
    let t = table_in l.codes in
    let old = g.H.Host.moment l.fn.host in
    let now = g.H.Host.moment l.host in
    record {
      rest : Onward (λ nu. clause_for t (expr_to t l.self.left) (stmt_to t l.self.left) (here_in nu l.here) (val_in nu l.value) l.cases l.cases) (tests_from t (expr_to t l.self.left) (stmt_to t l.self.left) (λ nu. here_in nu l.here) l.cases (λ nu. val_in nu l.value) l.rest) old now;
      more : cells old ≤ cells now;
      sound : g.H.Host.is_sound l.host;
    }

abbrev pub decreases-loop-rest : goal.decreases-loop-rest
decreases-loop-rest g l = length l.rest
