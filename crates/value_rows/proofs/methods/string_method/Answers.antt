use Rattle.std.proofs.Common.{◌∙◌}
use Rattle.turk_base.specs.Errors.{is_key}
use Rattle.value_rows.proofs.Chains.{by_string_method}
use Rattle.value_rows.proofs.methods.string_method.Goals as goal

pub returns-then-is_word : goal.returns-then-is_word
returns-then-is_word c = λ i. by_string_method ((c.is_word.ensures ∙ c.if-is_word.true) i)

pub returns-else-is_word : goal.returns-else-is_word
returns-else-is_word c = λ i. by_string_method ((c.is_word.ensures ∙ c.if-is_word.false) i)
