use Rattle.std.proofs.Common.{◌∙◌}
use Rattle.turk_base.specs.Errors.{is_key}
use Rattle.value_rows.proofs.Chains.{by_array_method}
use Rattle.value_rows.proofs.methods.array_method.Goals as goal

pub returns-then-is_word : goal.returns-then-is_word
returns-then-is_word c = λ i. by_array_method ((c.is_word.ensures ∙ c.if-is_word.true) i) (is_key "pop" c.args.key.now) (is_key "join" c.args.key.now) (is_key "concat" c.args.key.now) (is_key "slice" c.args.key.now) (is_key "reverse" c.args.key.now)

pub returns-then-is_word-2 : goal.returns-then-is_word-2
returns-then-is_word-2 c = λ i. by_array_method ((c.is_word.ensures ∙ c.if-is_word.false) i) ((c.is_word-else-is_word.ensures ∙ c.if-is_word-2.true) i) (is_key "join" c.args.key.now) (is_key "concat" c.args.key.now) (is_key "slice" c.args.key.now) (is_key "reverse" c.args.key.now)

pub returns-then-is_word-3 : goal.returns-then-is_word-3
returns-then-is_word-3 c = λ i. by_array_method ((c.is_word.ensures ∙ c.if-is_word.false) i) ((c.is_word-else-is_word.ensures ∙ c.if-is_word-2.false) i) ((c.is_word-else-is_word-2.ensures ∙ c.if-is_word-3.true) i) (is_key "concat" c.args.key.now) (is_key "slice" c.args.key.now) (is_key "reverse" c.args.key.now)

pub returns-then-is_word-4 : goal.returns-then-is_word-4
returns-then-is_word-4 c = λ i. by_array_method ((c.is_word.ensures ∙ c.if-is_word.false) i) ((c.is_word-else-is_word.ensures ∙ c.if-is_word-2.false) i) ((c.is_word-else-is_word-2.ensures ∙ c.if-is_word-3.false) i) ((c.is_word-else-is_word-3.ensures ∙ c.if-is_word-4.true) i) (is_key "slice" c.args.key.now) (is_key "reverse" c.args.key.now)

pub returns-then-is_word-5 : goal.returns-then-is_word-5
returns-then-is_word-5 c = λ i. by_array_method ((c.is_word.ensures ∙ c.if-is_word.false) i) ((c.is_word-else-is_word.ensures ∙ c.if-is_word-2.false) i) ((c.is_word-else-is_word-2.ensures ∙ c.if-is_word-3.false) i) ((c.is_word-else-is_word-3.ensures ∙ c.if-is_word-4.false) i) ((c.is_word-else-is_word-4.ensures ∙ c.if-is_word-5.true) i) (is_key "reverse" c.args.key.now)

pub returns-then-is_word-6 : goal.returns-then-is_word-6
returns-then-is_word-6 c = λ i. by_array_method ((c.is_word.ensures ∙ c.if-is_word.false) i) ((c.is_word-else-is_word.ensures ∙ c.if-is_word-2.false) i) ((c.is_word-else-is_word-2.ensures ∙ c.if-is_word-3.false) i) ((c.is_word-else-is_word-3.ensures ∙ c.if-is_word-4.false) i) ((c.is_word-else-is_word-4.ensures ∙ c.if-is_word-5.false) i) ((c.is_word-else-is_word-5.ensures ∙ c.if-is_word-6.true) i)

pub returns-else-is_word-6 : goal.returns-else-is_word-6
returns-else-is_word-6 c = λ i. by_array_method ((c.is_word.ensures ∙ c.if-is_word.false) i) ((c.is_word-else-is_word.ensures ∙ c.if-is_word-2.false) i) ((c.is_word-else-is_word-2.ensures ∙ c.if-is_word-3.false) i) ((c.is_word-else-is_word-3.ensures ∙ c.if-is_word-4.false) i) ((c.is_word-else-is_word-4.ensures ∙ c.if-is_word-5.false) i) ((c.is_word-else-is_word-5.ensures ∙ c.if-is_word-6.false) i)
