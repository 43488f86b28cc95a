use Rattle.std.proofs.Common.{◌≡◌, ◌≤◌, ◌<◌}
use Rattle.js_tree.specs.Expressions.{object_row}
use Rattle.js_tree.specs.Rows.{expr_to}
use Rattle.run_host.specs.Moment.{cells}
use Rattle.run_host.specs.Told.{here_in}
use Rattle.run_host.specs.Steps.{Onward}
use Rattle.tree_rows.specs.Codes.{table_in}
use Rattle.tree_rows.proofs.Items.{fields_from}
use Rattle.tree_rows.proofs.below.Below.object.Given as goal

abbrev pub invariant-loop-one : goal.invariant-loop-one
invariant-loop-one g l =
    let t = table_in l.codes in
    let old = g.H.Host.moment l.fn.host in
    let now = g.H.Host.moment l.host in
    record {
      rest : Onward (λ nu. object_row (expr_to t l.self.left) (here_in nu l.here) l.all) (fields_from (expr_to t l.self.left) (λ nu. here_in nu l.here) l.object l.all l.one-index) old now;
      more : cells old ≤ cells now;
      exists : l.object < cells now;
      sound : g.H.Host.is_sound l.host;
    }
