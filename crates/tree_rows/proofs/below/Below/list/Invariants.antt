use Rattle.std.proofs.Common.{drop, ◌≤◌}
use Rattle.js_tree.specs.Calls.{list}
use Rattle.js_tree.specs.Rows.{stmt_to}
use Rattle.run_host.specs.Moment.{cells}
use Rattle.run_host.specs.Told.{here_in}
use Rattle.run_host.specs.Steps.{Onward}
use Rattle.tree_rows.specs.Codes.{table_in}
use Rattle.tree_rows.proofs.below.Below.list.Given as goal

abbrev pub invariant-loop-one : goal.invariant-loop-one
invariant-loop-one g l =
    let table = table_in l.codes in
    let old = g.H.Host.moment l.fn.host in
    let now = g.H.Host.moment l.host in
    record {
      rest : Onward (λ nu. list table (stmt_to table l.self.left) (here_in nu l.here) l.all) (λ nu. list table (stmt_to table l.self.left) (here_in nu l.here) (drop l.one-index l.all)) old now;
      more : cells old ≤ cells now;
      sound : g.H.Host.is_sound l.host;
    }
