use Rattle.turk_base.specs.Prog.{Keys, ask}
use Rattle.turk_base.specs.Steps.{steps_of}
use Rattle.value_cells.specs.Seen.{Naming}
use Rattle.machine_host.proofs.Turns.{asks_of}
use Rattle.machine_host.proofs.Answered.{request}
use Rattle.machine_host.proofs.AskedRun.keys.Goals as goal

pub returns-clause-did : goal.returns-clause-did
returns-clause-did g c =
    let d = c.listed-answer.ensures.did in
    request (λ (nu : Naming). ask (Keys (nu c.args.cell))) (λ nu. steps_of (Keys (nu c.args.cell))) (λ nu. asks_of (Keys (nu c.args.cell))) (λ nu ks. ks.items) g.A.Asker.seen g.A.Asker.words c.args.self.now c.listed-answer.new.self c.listed-answer.result c.answer_of.result c.answer_of.ensures
    (record { stays = d.stays; did = d.did }) c.listed-answer.ensures.gone
