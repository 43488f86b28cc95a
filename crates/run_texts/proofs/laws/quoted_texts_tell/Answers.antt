use Rattle.run_texts.proofs.Telling.{on_one_line, its_units}
use Rattle.run_texts.proofs.Pairing.{no_lone_surrogate}
use Rattle.run_texts.proofs.laws.quoted_texts_tell.Goals as goal

pub returns-clause-line : goal.returns-clause-line
returns-clause-line c = on_one_line

pub returns-clause-units : goal.returns-clause-units
returns-clause-units c = its_units

pub returns-clause-paired : goal.returns-clause-paired
returns-clause-paired c = no_lone_surrogate
