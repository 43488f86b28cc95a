use Rattle.std.proofs.Common.{◌≤◌}
use Rattle.js_tree.specs.Expressions.{each}
use Rattle.js_tree.specs.Rows.{expr_to}
use Rattle.value_cells.specs.Needs.{all_needs}
use Rattle.run_host.specs.Moment.{cells}
use Rattle.run_host.specs.Told.{here_in}
use Rattle.run_host.specs.Steps.{Leads}
use Rattle.tree_rows.specs.Codes.{table_in}
use Rattle.tree_rows.proofs.Each.{each_from}
use Rattle.tree_rows.proofs.below.Below.each.Given as goal

abbrev pub invariant-loop-e : goal.invariant-loop-e
invariant-loop-e g l =
    let expr = expr_to (table_in l.codes) l.self.left in
    let old = g.H.Host.moment l.fn.host in
    let now = g.H.Host.moment l.host in
    record {
      rest : Leads (λ nu. each expr (here_in nu l.here) l.es) (each_from expr (λ nu. here_in nu l.here) l.es l.e-index l.values.items) old now;
      more : cells old ≤ cells now;
      exists : all_needs l.values.items ≤ cells now;
      sound : g.H.Host.is_sound l.host;
    }
