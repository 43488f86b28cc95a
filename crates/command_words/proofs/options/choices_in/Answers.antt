use Rattle.command_words.proofs.OptionLemmas.{word_taken, word_refused, all_taken}
use Rattle.command_words.proofs.options.choices_in.Goals as goal

pub loop-word-preserved : goal.loop-word-preserved
loop-word-preserved c = word_taken c.args.words.now c.loop-word.word-index _ c.loop-word.pending c.loop-word.choices _ _ _ c.loop-word-test.true c.in-Ok.ensures c.loop-word.invariant

pub returns-in-Err : goal.returns-in-Err
returns-in-Err c = word_refused c.args.words.now c.loop-word.word-index _ c.loop-word.pending c.loop-word.choices _ _ c.loop-word-test.true c.in-Err.ensures c.loop-word.invariant

pub returns-in-None : goal.returns-in-None
returns-in-None c = all_taken c.args.words.now c.loop-word.word-index c.loop-word.pending _ c.loop-word.choices _ c.loop-word-test.false c.in-None.is c.loop-word.invariant

pub returns-in-Some : goal.returns-in-Some
returns-in-Some c = all_taken c.args.words.now c.loop-word.word-index c.loop-word.pending _ c.loop-word.choices _ c.loop-word-test.false c.in-Some.is c.loop-word.invariant
