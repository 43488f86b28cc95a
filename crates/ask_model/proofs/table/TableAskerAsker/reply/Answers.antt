use Rattle.std.proofs.Common.{rules, ◌≡◌, length, List, Some, Err, subst}
use Rattle.turk_base.specs.declared.Record.TheVariants.{Reply}
use Rattle.turk_base.specs.Trace.{answer}
use Rattle.std.specs.Prelude.{ℕ, Result, IfErr}
use Rattle.ask_model.specs.declared.AskStop.{AskStop}
use Rattle.ask_model.specs.Table.{IsFullOrLost}
use Rattle.ask_model.specs.Asker.{entry, stop_of}
use Rattle.ask_model.proofs.Tables.{sound_by, answer_within, refusal_by}
use Rattle.ask_model.proofs.table.TableAskerAsker.reply.Goals as goal

pub returns-in-Ok-clause-sound : goal.returns-in-Ok-clause-sound
returns-in-Ok-clause-sound g c =
    let s = c.args.self.now in
    let token = c.args.token.now in
    let text = c.in-Some.text.now in
    let path = c.args.path.now in
    let count : c.len.result ≡ length s.trace.items = search rules in
    let found : answer s.replies.now token ≡ Some text = search rules in
    sound_by c.len.result s.trace.items s.made.items c.add_reply-result.new.made.items s.replies.now s.asked s.refused c.after-self-2.result (entry path (Reply token text)) (stop_of c.add_reply-result.result) count c.requires.sound
    (record { some = c.requires.path.some; short = c.requires.path.short; what = (c.requires.token, answer_within s.replies.now token text c.requires.sound.replies found) })
    c.requires.new c.add_reply-result.ensures.added

pub returns-in-Err-clause-refusal : goal.returns-in-Err-clause-refusal
returns-in-Err-clause-refusal g c =
    let s = c.args.self.now in
    let is : c.add_reply-result.result ≡ Err c.in-Err.stop = search rules in
    subst (λ (r : Result (List ℕ) AskStop). IfErr r (λ why. IsFullOrLost why)) is
    (refusal_by c.len.result (entry c.args.path.now (Reply c.args.token.now c.in-Some.text.now)) s.made.items c.add_reply-result.new.made.items c.add_reply-result.result c.add_reply-result.ensures.added)
