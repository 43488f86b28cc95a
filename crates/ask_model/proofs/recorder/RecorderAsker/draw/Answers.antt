use Rattle.std.proofs.Common.{refl, arith, ℤ}
use Rattle.std.proofs.lemmas.Grind.{common_steps}
use Rattle.std.specs.Prelude.{Result}
use Rattle.turk_base.specs.declared.Record.TheVariants.{Draw}
use Rattle.ask_model.specs.declared.AskStop.{AskStop}
use Rattle.ask_model.specs.Asker.{entry, stop_of}
use Rattle.ask_model.proofs.Recorders.{order_by, entries_after, holds_by}
use Rattle.ask_model.proofs.Tables.{later_is}
use Rattle.ask_model.proofs.recorder.RecorderAsker.draw.Goals as goal

pub returns-clause-drawn : goal.returns-clause-drawn
returns-clause-drawn g c =
    let drew = c.keep_draw-result.ensures.drew in
    record {
      value = drew.value;
      small = drew.small;
      is = drew.is;
      adds = grind (arith, common_steps);
      traces = grind (arith, common_steps);
    }

pub returns-clause-sound : goal.returns-clause-sound
returns-clause-sound g c =
    let s = c.args.self.now in
    let drew = c.keep_draw-result.ensures.drew in
    order_by s.shelf.now c.keep_draw-result.new.shelf s.start (entry c.args.path.now (Draw c.args.bound drew.value)) (stop_of c.keep_draw-result.result) s.desk.now.tasks s.desk.now.tasks s.desk.now.faults s.desk.now.faults s.replies.now s.asked s.refused c.after-self.result
    c.requires.sound (record { some = c.requires.path.some; short = c.requires.path.short; what = drew.small }) c.requires.new drew.shelved

pub returns-clause-keeps : goal.returns-clause-keeps
returns-clause-keeps g c =
    let s = c.args.self.now in
    let drew = c.keep_draw-result.ensures.drew in
    let r : Result ℤ AskStop = c.keep_draw-result.result in
    let e = entry c.args.path.now (Draw c.args.bound drew.value) in
    holds_by g.W.Draws.rest s.shelf _ s.desk s.desk s.draws _ s.shelf.now.entries c.keep_draw-result.new.shelf.entries e s.refused c.after-self.result (stop_of r) (later_is r c.is_err.result c.after-self.result s.refused c.is_err.ensures.value c.after-self.ensures) refl refl refl (entries_after e s.shelf.now c.keep_draw-result.new.shelf (stop_of r) drew.shelved) (λ is. (drew.word, tt)) (λ is k. drew.moves k)
