use Rattle.std.proofs.Common.{sym, arith, ap, ◌∙◌}
use Rattle.command_words.specs.Numbers.{is_number}
use Rattle.command_words.proofs.NumberLemmas.{no_number}
use Rattle.command_words.proofs.numbers.number_in.Goals as goal

pub returns-in-Err : goal.returns-in-Err
returns-in-Err c = no_number c.args.low c.args.high c.args.word.now c.in-Err.field-0 (sym (c.if-not-is_number.ensures ∙ ap is_number c.as_bytes.ensures.value)) (omega arith) c.in-Err.ensures.value.0
