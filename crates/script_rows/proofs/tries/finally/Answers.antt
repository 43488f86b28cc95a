use Rattle.std.proofs.Common.{arith}
use Rattle.script_grammar.proofs.Along.{row, gives, passes, fails}
use Rattle.script_rows.proofs.tries.finally.Goals as goal

pub returns-in_ok-made-in-Ok-clause-meets : goal.returns-in_ok-made-in-Ok-clause-meets
returns-in_ok-made-in-Ok-clause-meets g c = row (passes c.in-Ok.ensures.meets (gives c.in_ok-made-in-Ok.ensures (omega arith)))

pub returns-in-Err-clause-meets : goal.returns-in-Err-clause-meets
returns-in-Err-clause-meets g c not = row (fails (c.in-Err.ensures.meets not))
