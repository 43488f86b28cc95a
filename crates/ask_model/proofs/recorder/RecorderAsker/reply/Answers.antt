use Rattle.std.proofs.Common.{rules, ◌≡◌, Some}
use Rattle.turk_base.specs.declared.Record.TheVariants.{Reply}
use Rattle.turk_base.specs.Trace.{answer}
use Rattle.ask_model.specs.Asker.{entry, stop_of}
use Rattle.ask_model.proofs.Recorders.{order_by}
use Rattle.ask_model.proofs.Tables.{answer_within}
use Rattle.ask_model.proofs.recorder.RecorderAsker.reply.Goals as goal

pub returns-in-Ok-clause-sound : goal.returns-in-Ok-clause-sound
returns-in-Ok-clause-sound g c =
    let s = c.args.self.now in
    let token = c.args.token.now in
    let text = c.in-Some.text.now in
    let path = c.args.path.now in
    let found : answer s.replies.now token ≡ Some text = search rules in
    order_by s.shelf.now c.keep_reply-result.new.shelf s.start (entry path (Reply token text)) (stop_of c.keep_reply-result.result) s.desk.now.tasks s.desk.now.tasks s.desk.now.faults s.desk.now.faults s.replies.now s.asked s.refused c.after-self-2.result
    c.requires.sound (record { some = c.requires.path.some; short = c.requires.path.short; what = (c.requires.token, answer_within s.replies.now token text c.requires.sound.within.replies found) }) c.requires.new c.keep_reply-result.ensures.shelved
