use Rattle.expression_rows.proofs.Members.{as_left}
use Rattle.expression_rows.proofs.deeper.Grammar.left.Goals as goal

pub returns-clause-meets : goal.returns-clause-meets
returns-clause-meets g c = as_left c.args.base c.args.tokens.now c.operand.result c.operand.ensures.row
