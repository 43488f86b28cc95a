use Rattle.std.proofs.Common.{subst, sym, ap, codes}
use Rattle.command_words.specs.Options.{Answers}
use Rattle.command_words.specs.Words.{command_of}
use Rattle.command_words.proofs.WordLemmas.{first_word}
use Rattle.command_words.proofs.words.read_words.Goals as goal

pub returns-in-play-clause-command : goal.returns-in-play-clause-command
returns-in-play-clause-command c =
    subst (λ due. Answers due c.play_of.result) (sym (ap command_of (first_word c.args.words.now _ (codes "play") c.in-len1-up.len_at_least c.in-play.is))) c.play_of.ensures.command
