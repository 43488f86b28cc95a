use Rattle.turk_base.specs.Prog.{WriteName, Declare, ask}
use Rattle.turk_base.specs.Steps.{steps_of}
use Rattle.value_cells.specs.Seen.{Naming, val_in}
use Rattle.machine_host.proofs.Answered.{request, declares}
use Rattle.machine_host.proofs.AskedRun.declare.Goals as goal

pub returns-clause-did : goal.returns-clause-did
returns-clause-did g c =
    let d = c.set_name-answer.ensures.did in
    request (λ (nu : Naming). ask (Declare (nu c.args.frame) c.args.name.now (val_in nu c.args.value))) (λ nu. steps_of (WriteName (nu c.args.frame) c.args.name.now (val_in nu c.args.value))) (λ nu. declares (nu c.args.frame) c.args.name.now (val_in nu c.args.value)) (λ nu u. u) g.A.Asker.seen g.A.Asker.words c.args.self.now c.set_name-answer.new.machine c.set_name-answer.result c.answer_of.result c.answer_of.ensures
    (record { stays = d.stays; did = d.did }) c.set_name-answer.ensures.gone
