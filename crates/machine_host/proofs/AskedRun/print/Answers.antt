use Rattle.turk_base.specs.Prog.{Print, ask}
use Rattle.turk_base.specs.Steps.{steps_of}
use Rattle.value_cells.specs.Seen.{Naming}
use Rattle.machine_host.proofs.Turns.{asks_of}
use Rattle.machine_host.proofs.Answered.{request}
use Rattle.machine_host.proofs.AskedRun.print.Goals as goal

pub returns-clause-did : goal.returns-clause-did
returns-clause-did g c =
    let d = c.print-answer.ensures.did in
    request (λ (nu : Naming). ask (Print c.args.line.now)) (λ nu. steps_of (Print c.args.line.now)) (λ nu. asks_of (Print c.args.line.now)) (λ nu u. u) g.A.Asker.seen g.A.Asker.words c.args.self.now c.print-answer.new.self c.print-answer.result c.answer_of.result c.answer_of.ensures
    (record { stays = d.stays; did = d.did }) c.print-answer.ensures.gone
