use Rattle.std.specs.Option.{option_map}
use Rattle.turk_base.specs.Prog.{Get, ask}
use Rattle.turk_base.specs.Steps.{steps_of}
use Rattle.value_cells.specs.Seen.{Naming, val_in}
use Rattle.machine_host.proofs.Turns.{asks_of}
use Rattle.machine_host.proofs.Answered.{request}
use Rattle.machine_host.proofs.AskedRun.get.Goals as goal

pub returns-clause-did : goal.returns-clause-did
returns-clause-did g c =
    let d = c.get-answer.ensures.did in
    request (λ (nu : Naming). ask (Get (nu c.args.cell) c.args.key.now)) (λ nu. steps_of (Get (nu c.args.cell) c.args.key.now)) (λ nu. asks_of (Get (nu c.args.cell) c.args.key.now)) (λ nu v. option_map (val_in nu) v) g.A.Asker.seen g.A.Asker.words c.args.self.now c.get-answer.new.self c.get-answer.result c.answer_of.result c.answer_of.ensures
    (record { stays = d.stays; did = d.did }) c.get-answer.ensures.gone
