use Rattle.std.proofs.Common.{◌∙◌}
use Rattle.builtin_calls.proofs.Places.{begins_is}
use Rattle.builtin_calls.proofs.texts.begins.Goals as goal

pub returns : goal.returns
returns c = c.starts_with.ensures.value ∙ begins_is c.args.part.now c.args.text.now
