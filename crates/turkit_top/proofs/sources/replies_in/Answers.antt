use Rattle.std.proofs.Common.{refl}
use Rattle.turkit_top.specs.Answers.{unread}
use Rattle.turkit_top.proofs.AnswerLemmas.{replies_read, replies_unread, are_replies}
use Rattle.turkit_top.proofs.sources.replies_in.Goals as goal

pub returns-in-Err-clause-read : goal.returns-in-Err-clause-read
returns-in-Err-clause-read g c = unread refl c.in-Err.ensures.read

pub returns-in-Ok-replies-clause-read : goal.returns-in-Ok-replies-clause-read
returns-in-Ok-replies-clause-read g c = replies_read _ c.in-Ok.bytes c.as_slice.result.now _ c.in-Ok.ensures.read c.as_slice.ensures c.in-Ok-replies.ensures.ok

pub returns-in-Ok-replies-clause-within : goal.returns-in-Ok-replies-clause-within
returns-in-Ok-replies-clause-within g c = are_replies c.in-Ok-replies.ensures.ok

pub returns-clause-read : goal.returns-clause-read
returns-clause-read g c = replies_unread _ c.in-Ok.bytes c.as_slice.result.now c.in-Err-replies.stop _ c.in-Ok.ensures.read c.as_slice.ensures c.in-Err-replies.ensures.stop c.of_line.ensures
