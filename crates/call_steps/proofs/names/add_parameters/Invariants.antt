use Rattle.call_steps.proofs.Frames.{parameters_from}
use Rattle.js_tree.specs.Calls.{add_parameters}
use Rattle.run_host.specs.Moment.{cells}
use Rattle.run_host.specs.Steps.{Leads}
use Rattle.std.proofs.Common.{◌≤◌}
use Rattle.std.specs.Prelude.{map}
use Rattle.value_cells.specs.Seen.{val_in}
use Rattle.call_steps.proofs.names.add_parameters.Given as goal

abbrev pub invariant-loop-i : goal.invariant-loop-i
invariant-loop-i g l =
    let old = g.H.Host.moment l.fn.host in
    let now = g.H.Host.moment l.host in
    record {
      rest : Leads (λ nu. add_parameters (nu l.frame) l.parameters (map (val_in nu) l.arguments)) (parameters_from (λ nu. nu l.frame) l.parameters l.arguments l.i) old now;
      more : cells old ≤ cells now;
      sound : g.H.Host.is_sound l.host;
    }
