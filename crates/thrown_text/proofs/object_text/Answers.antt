use Rattle.thrown_text.proofs.Looks.{object_is, always}
use Rattle.thrown_text.proofs.object_text.Goals as goal

pub returns-clause-told : goal.returns-clause-told
returns-clause-told g c = object_is c.error_text.result c.in_ok-key.ensures c.in_ok-name.ensures.found c.in_ok-key-2.ensures c.in_ok-message.ensures.found c.error_text.ensures

pub returns-clause-grows : goal.returns-clause-grows
returns-clause-grows g c = always c.error_text.result (λ i n e. c.in_ok-message.ensures.found.grows i n (c.in_ok-name.ensures.found.grows i n e))
