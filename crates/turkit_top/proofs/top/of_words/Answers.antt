use Rattle.std.proofs.Common.{refl}
use Rattle.turkit_top.specs.Answers.{by_command}
use Rattle.turkit_top.proofs.AnswerLemmas.{no_words, words_wrong, words_memory}
use Rattle.turkit_top.proofs.top.of_words.Goals as goal

pub returns-in-Ok-clause-answer : goal.returns-in-Ok-clause-answer
returns-in-Ok-clause-answer g c = by_command c.in-Ok.command c.in-Ok.ensures.command c.of_command.ensures.answer

pub returns-in-Err-Usage-clause-answer : goal.returns-in-Err-Usage-clause-answer
returns-in-Err-Usage-clause-answer g c =
    words_wrong _ _ _ _ _ (no_words _ c.in-Err-Usage.field-0 c.in-Err-Usage.ensures.command c.in-Err-Usage.field-0-is) (refl, refl) (refl, refl) c.nothing.ensures

pub returns-in-Err-Memory-clause-answer : goal.returns-in-Err-Memory-clause-answer
returns-in-Err-Memory-clause-answer g c = words_memory _ _ _ _ _ (refl, refl) (refl, refl) c.nothing-in-Err-Memory.ensures
