use Rattle.std.proofs.Common.{sym, ◌∙◌}
use Rattle.turkit_top.proofs.AnswerLemmas.{own_note}
use Rattle.turkit_top.proofs.answer.note_of.Goals as goal

pub returns-in_default : goal.returns-in_default
returns-in_default c = c.as_slice.ensures ∙ sym (own_note c.args.answer.now.status c.args.answer.now.note c.in_default.not-Usage c.in_default.not-ReadFault c.in_default.not-Memory c.in_default.not-NotBuilt)
