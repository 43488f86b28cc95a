use Rattle.turk_base.specs.Prog.{Inherits, ask}
use Rattle.turk_base.specs.Steps.{steps_of}
use Rattle.value_cells.specs.Seen.{Naming}
use Rattle.machine_host.specs.Runs.{moment_of}
use Rattle.machine_host.proofs.Turns.{asks_of}
use Rattle.machine_host.proofs.Answered.{looked}
use Rattle.machine_host.proofs.AskedRun.inherits.Goals as goal

pub returns : goal.returns
returns g c =
    let d = c.inherits.ensures.did in
    record {
      did = looked (λ (nu : Naming). ask (Inherits (nu c.args.cell) (nu c.args.from))) (λ nu. steps_of (Inherits (nu c.args.cell) (nu c.args.from))) (λ nu. asks_of (Inherits (nu c.args.cell) (nu c.args.from))) _ (moment_of g.A.Asker.seen g.A.Asker.words c.args.self.now) (record { stays = d.stays; did = d.did });
    }
