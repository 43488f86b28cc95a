use Rattle.turk_base.specs.Prog.{KindOf, ask}
use Rattle.turk_base.specs.Steps.{steps_of}
use Rattle.value_cells.specs.Seen.{Naming}
use Rattle.machine_host.specs.Runs.{moment_of}
use Rattle.machine_host.proofs.Turns.{asks_of}
use Rattle.machine_host.proofs.Answered.{looked}
use Rattle.machine_host.proofs.AskedRun.kind.Goals as goal

pub returns-clause-did : goal.returns-clause-did
returns-clause-did g c =
    let d = c.kind.ensures.did in
    looked (λ (nu : Naming). ask (KindOf (nu c.args.cell))) (λ nu. steps_of (KindOf (nu c.args.cell))) (λ nu. asks_of (KindOf (nu c.args.cell))) _ (moment_of g.A.Asker.seen g.A.Asker.words c.args.self.now) (record { stays = d.stays; did = d.did })
