use Rattle.turk_base.specs.Prog.{Make, ask}
use Rattle.turk_base.specs.Steps.{steps_of}
use Rattle.value_cells.specs.Seen.{Naming, kind_in}
use Rattle.machine_host.proofs.Turns.{asks_of}
use Rattle.machine_host.proofs.Answered.{request}
use Rattle.machine_host.proofs.AskedRun.make.Goals as goal

pub returns-clause-did : goal.returns-clause-did
returns-clause-did g c =
    let d = c.make-answer.ensures.did in
    request (λ (nu : Naming). ask (Make (kind_in nu c.args.kind))) (λ nu. steps_of (Make (kind_in nu c.args.kind))) (λ nu. asks_of (Make (kind_in nu c.args.kind))) (λ nu i. nu i) g.A.Asker.seen g.A.Asker.words c.args.self.now c.make-answer.new.self c.make-answer.result c.answer_of.result c.answer_of.ensures
    (record { stays = d.stays; did = d.did }) c.make-answer.ensures.gone
