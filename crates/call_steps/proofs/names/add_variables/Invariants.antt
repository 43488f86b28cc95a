use Rattle.call_steps.proofs.Frames.{variables_from}
use Rattle.call_steps.specs.Frames.{after}
use Rattle.js_tree.specs.Calls.{add_variables, has}
use Rattle.run_host.specs.Moment.{cells}
use Rattle.run_host.specs.Steps.{Leads}
use Rattle.std.proofs.Common.{List, take, ◌||◌, ◌≡◌, ◌≤◌}
use Rattle.turk_base.specs.Names.{Units}
use Rattle.call_steps.proofs.names.add_variables.Given as goal

abbrev pub invariant-loop-i : goal.invariant-loop-i
invariant-loop-i g l =
    let old = g.H.Host.moment l.fn.host in
    let now = g.H.Host.moment l.host in
    record {
      names : List Units;
      same : (y : Units) → has names y ≡ (has (after l.parameters l.functions) y || has (take l.i l.variables) y);
      rest : Leads (λ nu. add_variables (nu l.frame) (after l.parameters l.functions) l.variables) (variables_from (λ nu. nu l.frame) l.variables l.i names) old now;
      more : cells old ≤ cells now;
      sound : g.H.Host.is_sound l.host;
    }
