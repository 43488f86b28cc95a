use Rattle.std.proofs.Common.{◌-◌, ◌<◌}
use Rattle.js_tree.specs.Pieces.{frame_out}
use Rattle.run_host.specs.Moment.{cells}
use Rattle.run_host.specs.Steps.{Leads}
use Rattle.host_steps.proofs.names.frame_out.Given as goal

abbrev pub invariant-loop-i : goal.invariant-loop-i
invariant-loop-i g l =
    let m = g.H.Host.moment l.host in
    record {
      rest : Leads (λ nu. frame_out l.steps (nu l.frame)) (λ nu. frame_out (l.steps - l.i) (nu l.at)) m m;
      exists : l.at < cells m;
    }
