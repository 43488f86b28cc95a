use Rattle.turk_base.specs.Prog.{Put, ask}
use Rattle.turk_base.specs.Steps.{steps_of}
use Rattle.value_cells.specs.Seen.{Naming, val_in}
use Rattle.machine_host.proofs.Turns.{asks_of}
use Rattle.machine_host.proofs.Answered.{request}
use Rattle.machine_host.proofs.AskedRun.put.Goals as goal

pub returns-clause-did : goal.returns-clause-did
returns-clause-did g c =
    let d = c.put-answer.ensures.did in
    request (λ (nu : Naming). ask (Put (nu c.args.cell) c.args.key.now (val_in nu c.args.value))) (λ nu. steps_of (Put (nu c.args.cell) c.args.key.now (val_in nu c.args.value))) (λ nu. asks_of (Put (nu c.args.cell) c.args.key.now (val_in nu c.args.value))) (λ nu u. u) g.A.Asker.seen g.A.Asker.words c.args.self.now c.put-answer.new.self c.put-answer.result c.answer_of.result c.answer_of.ensures
    (record { stays = d.stays; did = d.did }) c.put-answer.ensures.gone
