use Rattle.std.proofs.Common.{◌≡◌, drop}
use Rattle.turk_base.specs.Trace.{answer}
use Rattle.turk_base.proofs.reply_lists.find_in.Given as goal

abbrev pub invariant-loop-reply : goal.invariant-loop-reply
invariant-loop-reply l = answer l.replies l.token ≡ answer (drop l.reply-index l.replies) l.token
