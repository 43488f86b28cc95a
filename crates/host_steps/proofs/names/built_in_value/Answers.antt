use Rattle.std.proofs.Common.{ap, ◌∙◌, arith}
use Rattle.turk_base.specs.Errors.{is_key}
use Rattle.run_host.proofs.Fits.{leads_eq, built_in_there}
use Rattle.host_steps.proofs.Parts.{built_in_gives, by_names}
use Rattle.host_steps.proofs.names.built_in_value.Goals as goal

pub returns-then-is_word-clause-did : goal.returns-then-is_word-clause-did
returns-then-is_word-clause-did g c = built_in_gives 0 _ (g.met.H.Host.built_ins c.args.host.now c.requires.sound) (omega arith) (λ i. by_names ((c.is_word.ensures ∙ c.if-is_word.true) i) (is_key "TypeError" c.args.name.now) (is_key "ReferenceError" c.args.name.now) (is_key "String" c.args.name.now))

pub returns-then-is_word-2-clause-did : goal.returns-then-is_word-2-clause-did
returns-then-is_word-2-clause-did g c = built_in_gives 2 _ (g.met.H.Host.built_ins c.args.host.now c.requires.sound) (omega arith) (λ i. by_names ((c.is_word.ensures ∙ c.if-is_word.false) i) ((c.is_word-else-is_word.ensures ∙ c.if-is_word-2.true) i) (is_key "ReferenceError" c.args.name.now) (is_key "String" c.args.name.now))

pub returns-then-is_word-2-clause-exists : goal.returns-then-is_word-2-clause-exists
returns-then-is_word-2-clause-exists g c = built_in_there 2 (g.met.H.Host.built_ins c.args.host.now c.requires.sound) (omega arith)

pub returns-then-is_word-3-clause-did : goal.returns-then-is_word-3-clause-did
returns-then-is_word-3-clause-did g c = built_in_gives 4 _ (g.met.H.Host.built_ins c.args.host.now c.requires.sound) (omega arith) (λ i. by_names ((c.is_word.ensures ∙ c.if-is_word.false) i) ((c.is_word-else-is_word.ensures ∙ c.if-is_word-2.false) i) ((c.is_word-else-is_word-2.ensures ∙ c.if-is_word-3.true) i) (is_key "String" c.args.name.now))

pub returns-then-is_word-3-clause-exists : goal.returns-then-is_word-3-clause-exists
returns-then-is_word-3-clause-exists g c = built_in_there 4 (g.met.H.Host.built_ins c.args.host.now c.requires.sound) (omega arith)

pub returns-then-is_word-4-clause-did : goal.returns-then-is_word-4-clause-did
returns-then-is_word-4-clause-did g c = built_in_gives 6 _ (g.met.H.Host.built_ins c.args.host.now c.requires.sound) (omega arith) (λ i. by_names ((c.is_word.ensures ∙ c.if-is_word.false) i) ((c.is_word-else-is_word.ensures ∙ c.if-is_word-2.false) i) ((c.is_word-else-is_word-2.ensures ∙ c.if-is_word-3.false) i) ((c.is_word-else-is_word-3.ensures ∙ c.if-is_word-4.true) i))

pub returns-then-is_word-4-clause-exists : goal.returns-then-is_word-4-clause-exists
returns-then-is_word-4-clause-exists g c = built_in_there 6 (g.met.H.Host.built_ins c.args.host.now c.requires.sound) (omega arith)

pub returns-else-is_word-4-clause-did : goal.returns-else-is_word-4-clause-did
returns-else-is_word-4-clause-did g c = leads_eq (λ nu go. ap go (λ i. by_names ((c.is_word.ensures ∙ c.if-is_word.false) i) ((c.is_word-else-is_word.ensures ∙ c.if-is_word-2.false) i) ((c.is_word-else-is_word-2.ensures ∙ c.if-is_word-3.false) i) ((c.is_word-else-is_word-3.ensures ∙ c.if-is_word-4.false) i)))
