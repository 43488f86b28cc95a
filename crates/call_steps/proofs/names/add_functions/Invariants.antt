use Rattle.call_steps.proofs.Frames.{functions_from}
use Rattle.js_tree.specs.Calls.{add_functions}
use Rattle.run_host.specs.Moment.{cells}
use Rattle.run_host.specs.Steps.{Leads}
use Rattle.std.proofs.Common.{◌≤◌}
use Rattle.call_steps.proofs.names.add_functions.Given as goal

abbrev pub invariant-loop-i : goal.invariant-loop-i
invariant-loop-i g l =
    let old = g.H.Host.moment l.fn.host in
    let now = g.H.Host.moment l.host in
    record {
      rest : Leads (λ nu. add_functions (nu l.frame) l.parameters l.functions) (functions_from (λ nu. nu l.frame) l.parameters l.functions l.i) old now;
      more : cells old ≤ cells now;
      sound : g.H.Host.is_sound l.host;
    }
