use Rattle.turk_base.specs.Prog.{Remove, ask}
use Rattle.turk_base.specs.Steps.{steps_of}
use Rattle.value_cells.specs.Seen.{Naming}
use Rattle.machine_host.proofs.Turns.{asks_of}
use Rattle.machine_host.proofs.Answered.{request}
use Rattle.machine_host.proofs.AskedRun.remove.Goals as goal

pub returns-clause-did : goal.returns-clause-did
returns-clause-did g c =
    let d = c.remove-answer.ensures.did in
    request (λ (nu : Naming). ask (Remove (nu c.args.cell) c.args.key.now)) (λ nu. steps_of (Remove (nu c.args.cell) c.args.key.now)) (λ nu. asks_of (Remove (nu c.args.cell) c.args.key.now)) (λ nu b. b) g.A.Asker.seen g.A.Asker.words c.args.self.now c.remove-answer.new.self c.remove-answer.result c.answer_of.result c.answer_of.ensures
    (record { stays = d.stays; did = d.did }) c.remove-answer.ensures.gone
