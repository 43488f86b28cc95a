use Rattle.meaning_laws.proofs.Parts.{sequence_goes, always_goes}
use Rattle.meaning_laws.proofs.sequences.Goals as goal

pub returns : goal.returns
returns c = record { then = sequence_goes; always = always_goes }
