use Rattle.turk_base.specs.declared.Record.TheVariants.{Once}
use Rattle.ask_model.specs.Asker.{entry, stop_of}
use Rattle.ask_model.proofs.Recorders.{order_by}
use Rattle.ask_model.proofs.recorder.RecorderAsker.once_done.Goals as goal

pub returns-clause-sound : goal.returns-clause-sound
returns-clause-sound g c =
    let s = c.args.self.now in
    order_by s.shelf.now c.keep_once-result.new.shelf s.start (entry c.args.path.now (Once c.args.value.now)) (stop_of c.keep_once-result.result) s.desk.now.tasks s.desk.now.tasks s.desk.now.faults s.desk.now.faults s.replies.now s.asked s.refused c.after-self.result
    c.requires.sound c.requires.within c.requires.new c.keep_once-result.ensures.shelved
