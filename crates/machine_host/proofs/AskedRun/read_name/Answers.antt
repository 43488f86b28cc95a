use Rattle.turk_base.specs.Prog.{ReadName, ask}
use Rattle.turk_base.specs.Steps.{steps_of}
use Rattle.value_cells.specs.Seen.{Naming, val_in}
use Rattle.machine_host.proofs.Turns.{asks_of}
use Rattle.machine_host.proofs.Answered.{request}
use Rattle.run_host.proofs.Fits.{leaves_lost}
use Rattle.machine_host.proofs.AskedRun.read_name.Goals as goal

pub returns-clause-did : goal.returns-clause-did
returns-clause-did g c =
    let d = c.read_name-answer.ensures.did in
    request (λ (nu : Naming). ask (ReadName (nu c.args.frame) c.args.name.now)) (λ nu. steps_of (ReadName (nu c.args.frame) c.args.name.now)) (λ nu. asks_of (ReadName (nu c.args.frame) c.args.name.now)) (val_in) g.A.Asker.seen g.A.Asker.words c.args.self.now c.read_name-answer.new.self c.read_name-answer.result c.answer_of.result c.answer_of.ensures
    (record { stays = d.stays; did = d.did }) c.read_name-answer.ensures.gone

pub returns-then-not-has-clause-did : goal.returns-then-not-has-clause-did
returns-then-not-has-clause-did g c = leaves_lost
