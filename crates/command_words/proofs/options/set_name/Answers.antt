use Rattle.std.proofs.Common.{subst}
use Rattle.turk_base.specs.SessionName.{HasCause}
use Rattle.command_words.proofs.NumberLemmas.{named, unnamed}
use Rattle.command_words.proofs.options.set_name.Goals as goal

pub returns-in-Ok : goal.returns-in-Ok
returns-in-Ok c = named c.args.choices.name _ c.args.value.now c.in-Ok.name c.if-is_some.ensures c.in-Ok.ensures.ok c.in-Ok.ensures.is_name

pub returns-in-Err-Bad : goal.returns-in-Err-Bad
returns-in-Err-Bad c = unnamed c.args.choices.name _ c.args.value.now c.if-is_some.ensures (subst (λ s. HasCause s c.args.value.now) c.in-Err-Bad.field-0-is c.in-Err-Bad.ensures.cause)
