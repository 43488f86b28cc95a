use Rattle.script_rows.proofs.Members.{stated, unstated}
use Rattle.script_rows.proofs.lists.with_statement.Goals as goal

pub returns-in-Ok-stmts_with-clause-takes : goal.returns-in-Ok-stmts_with-clause-takes
returns-in-Ok-stmts_with-clause-takes g c = stated _ c.in-Ok-stmts_with.ensures c.outer.ensures c.in-Ok.ensures.meets

pub returns-in-Err-clause-takes : goal.returns-in-Err-clause-takes
returns-in-Err-clause-takes g c not = unstated c.outer.ensures (c.in-Err.ensures.meets not)
