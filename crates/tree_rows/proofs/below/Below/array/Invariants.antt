use Rattle.std.proofs.Common.{◌≡◌, ◌≤◌, ◌<◌}
use Rattle.js_tree.specs.Expressions.{array_row}
use Rattle.js_tree.specs.Rows.{expr_to}
use Rattle.run_host.specs.Moment.{cells}
use Rattle.run_host.specs.Told.{here_in}
use Rattle.run_host.specs.Steps.{Onward}
use Rattle.tree_rows.specs.Codes.{table_in}
use Rattle.tree_rows.proofs.Items.{items_from}
use Rattle.tree_rows.proofs.below.Below.array.Given as goal

abbrev pub invariant-loop-e : goal.invariant-loop-e
invariant-loop-e g l =
    let t = table_in l.codes in
    let old = g.H.Host.moment l.fn.host in
    let now = g.H.Host.moment l.host in
    record {
      rest : Onward (λ nu. array_row (expr_to t l.self.left) (here_in nu l.here) l.es) (items_from (expr_to t l.self.left) (λ nu. here_in nu l.here) l.array l.es l.e-index) old now;
      count : l.index ≡ l.e-index;
      more : cells old ≤ cells now;
      exists : l.array < cells now;
      sound : g.H.Host.is_sound l.host;
    }
