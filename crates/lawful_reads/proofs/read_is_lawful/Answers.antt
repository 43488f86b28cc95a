use Rattle.lawful_reads.proofs.States.{read_lawful}
use Rattle.lawful_reads.proofs.read_is_lawful.Goals as goal

pub returns : goal.returns
returns c ts tree s read = read_lawful ts tree s read
