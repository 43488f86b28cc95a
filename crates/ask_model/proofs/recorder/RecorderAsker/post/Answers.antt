use Rattle.std.proofs.Common.{refl, arith, ap}
use Rattle.std.specs.Prelude.{Result}
use Rattle.turk_base.specs.declared.Record.TheVariants.{Post}
use Rattle.ask_model.specs.declared.AskStop.{AskStop}
use Rattle.ask_model.specs.Asker.{entry, stop_of}
use Rattle.ask_model.proofs.Recorders.{order_by, entries_after, holds_by}
use Rattle.ask_model.proofs.Tables.{later_is}
use Rattle.ask_model.proofs.recorder.RecorderAsker.post.Goals as goal

pub returns-clause-sound : goal.returns-clause-sound
returns-clause-sound g c =
    let s = c.args.self.now in
    let d = c.post_and_keep-result.new.desk in
    order_by s.shelf.now c.post_and_keep-result.new.shelf s.start (entry c.args.path.now (Post c.args.text.now)) (stop_of c.post_and_keep-result.result) s.desk.now.tasks d.tasks s.desk.now.faults d.faults s.replies.now s.asked s.refused c.after-self.result
    c.requires.sound c.requires.within c.requires.new c.post_and_keep-result.ensures.shelved

pub returns-clause-keeps : goal.returns-clause-keeps
returns-clause-keeps g c =
    let s = c.args.self.now in
    let r : Result (Unit {0}) AskStop = c.post_and_keep-result.result in
    let e = entry c.args.path.now (Post c.args.text.now) in
    holds_by g.W.Draws.rest s.shelf _ s.desk _ s.draws s.draws s.shelf.now.entries c.post_and_keep-result.new.shelf.entries e s.refused c.after-self.result (stop_of r) (later_is r c.is_err.result c.after-self.result s.refused c.is_err.ensures.value c.after-self.ensures) refl refl refl (entries_after e s.shelf.now c.post_and_keep-result.new.shelf (stop_of r) c.post_and_keep-result.ensures.shelved) (λ is. (tt, tt)) (λ is k. ap (g.W.Draws.rest s.draws.now) (omega arith))
