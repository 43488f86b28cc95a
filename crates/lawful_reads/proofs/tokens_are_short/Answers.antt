use Rattle.lawful_reads.proofs.ShortTokens.{tokens_short}
use Rattle.lawful_reads.proofs.tokens_are_short.Goals as goal

pub returns : goal.returns
returns c bytes ts le h = tokens_short bytes ts le h
