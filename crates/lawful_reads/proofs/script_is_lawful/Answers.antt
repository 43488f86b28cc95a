use Rattle.lawful_reads.proofs.ShortTokens.{tokens_short}
use Rattle.lawful_reads.proofs.States.{read_lawful}
use Rattle.lawful_reads.proofs.script_is_lawful.Goals as goal

pub returns : goal.returns
returns c bytes ts tree le h read = read_lawful ts tree (tokens_short bytes ts le h) read
