use Rattle.thrown_text.proofs.Looks.{finds}
use Rattle.thrown_text.proofs.text_at.Goals as goal

pub returns-clause-found : goal.returns-clause-found
returns-clause-found g c = finds c.in-Ok.found c.text_in.result c.in-Ok.ensures.did c.text_in.ensures
