use Rattle.eval_ops.specs.Run.{seen_of}
use Rattle.machine_host.specs.Runs.{heap_of}
use Rattle.turk_base.specs.Prog.{Pay, ask}
use Rattle.turk_base.specs.Steps.{steps_of}
use Rattle.value_cells.specs.Seen.{Naming}
use Rattle.machine_host.proofs.Turns.{asks_of}
use Rattle.machine_host.proofs.Answered.{request, pay_left}
use Rattle.machine_host.proofs.AskedRun.pay.Goals as goal

pub returns-clause-did : goal.returns-clause-did
returns-clause-did g c =
    let d = c.pay-answer.ensures.did in
    request (λ (nu : Naming). ask (Pay c.args.units)) (λ nu. steps_of (Pay c.args.units)) (λ nu. asks_of (Pay c.args.units)) (λ nu u. u) g.A.Asker.seen g.A.Asker.words c.args.self.now c.pay-answer.new.self c.pay-answer.result c.answer_of.result c.answer_of.ensures
    (record { stays = d.stays; did = d.did }) c.pay-answer.ensures.gone

pub returns-clause-spent : goal.returns-clause-spent
returns-clause-spent g c =
    let d = c.pay-answer.ensures.did in
    pay_left (heap_of c.args.self.now) (seen_of c.pay-answer.new.self) c.args.units c.pay-answer.result c.answer_of.result c.answer_of.ensures (record { stays = d.stays; did = d.did })
