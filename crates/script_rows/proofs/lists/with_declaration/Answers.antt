use Rattle.script_rows.proofs.Members.{declared, undeclared}
use Rattle.script_rows.proofs.lists.with_declaration.Goals as goal

pub returns-in-Ok-declarations_with-clause-takes : goal.returns-in-Ok-declarations_with-clause-takes
returns-in-Ok-declarations_with-clause-takes g c f = declared _ c.in-Ok-declarations_with.ensures c.in-Ok.ensures.meets

pub returns-in-Err-clause-takes : goal.returns-in-Err-clause-takes
returns-in-Err-clause-takes g c f not = undeclared (c.in-Err.ensures.meets not)
