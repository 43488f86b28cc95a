use Rattle.std.proofs.Common.{rules, ◌≡◌, length}
use Rattle.turk_base.specs.declared.Record.TheVariants.{Post}
use Rattle.ask_model.specs.Asker.{entry, stop_of}
use Rattle.ask_model.proofs.Tables.{sound_by, refusal_by}
use Rattle.ask_model.proofs.table.TableAskerAsker.post.Goals as goal

pub returns-clause-sound : goal.returns-clause-sound
returns-clause-sound g c =
    let s = c.args.self.now in
    let count : c.len.result ≡ length s.trace.items = search rules in
    sound_by c.len.result s.trace.items s.made.items c.add_post-result.new.made.items s.replies.now s.asked s.refused c.after-self.result (entry c.args.path.now (Post c.args.text.now)) (stop_of c.add_post-result.result) count c.requires.sound c.requires.within c.requires.new c.add_post-result.ensures

pub returns-clause-refusal : goal.returns-clause-refusal
returns-clause-refusal g c =
    let s = c.args.self.now in
    refusal_by c.len.result (entry c.args.path.now (Post c.args.text.now)) s.made.items c.add_post-result.new.made.items c.add_post-result.result c.add_post-result.ensures
