use Rattle.std.proofs.Common.{◌≤◌, Some}
use Rattle.turk_base.specs.Prog.{Then, nothing}
use Rattle.js_tree.specs.Statements.{tested, body_of}
use Rattle.js_tree.specs.Rows.{expr_to, stmt_to}
use Rattle.run_host.specs.Moment.{cells}
use Rattle.run_host.specs.Told.{here_in}
use Rattle.run_host.proofs.Loops.{Rounds}
use Rattle.tree_rows.specs.Codes.{table_in}
use Rattle.tree_rows.proofs.below.Below.do_while.Given as goal

abbrev pub invariant-loop-other : goal.invariant-loop-other
invariant-loop-other g l =
    let t = table_in l.codes in
    let old = g.H.Host.moment l.fn.host in
    let now = g.H.Host.moment l.host in
    record {
      rest : Rounds (λ nu. Then (body_of t (expr_to t l.self.left) (stmt_to t l.self.left) (here_in nu l.here) l.s) (λ _. tested t (expr_to t l.self.left) (stmt_to t l.self.left) (here_in nu l.here) (Some l.e) nothing)) old now;
      more : cells old ≤ cells now;
      sound : g.H.Host.is_sound l.host;
    }

abbrev pub decreases-loop-other : goal.decreases-loop-other
decreases-loop-other g l = (g.H.Host.moment l.host).heap.left
