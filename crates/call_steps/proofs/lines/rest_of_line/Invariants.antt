use Rattle.call_steps.proofs.Joined.{line_at}
use Rattle.call_steps.specs.Lines.{line_from}
use Rattle.run_host.specs.Moment.{cells}
use Rattle.run_host.specs.Steps.{Leads}
use Rattle.std.proofs.Common.{◌≤◌}
use Rattle.std.specs.Prelude.{map}
use Rattle.value_cells.specs.Seen.{val_in}
use Rattle.call_steps.proofs.lines.rest_of_line.Given as goal

abbrev pub invariant-loop-value : goal.invariant-loop-value
invariant-loop-value g l =
    let old = g.H.Host.moment l.fn.host in
    let now = g.H.Host.moment l.host in
    record {
      rest : Leads (λ nu. line_from l.fn.first (map (val_in nu) l.values)) (line_at l.values l.value-index l.line) old now;
      more : cells old ≤ cells now;
      sound : g.H.Host.is_sound l.host;
    }
