use Rattle.std.proofs.Common.{ap}
use Rattle.js_tree.specs.Operate.{answered}
use Rattle.value_cells.specs.Seen.{val_in}
use Rattle.value_rows.proofs.operators.answer.Goals as goal

pub returns-in-Prefix-clause-value : goal.returns-in-Prefix-clause-value
returns-in-Prefix-clause-value c = λ nu. ap (λ f. answered f c.args.old (val_in nu c.args.new)) c.in-Prefix.is

pub returns-in-Postfix-clause-value : goal.returns-in-Postfix-clause-value
returns-in-Postfix-clause-value c = λ nu. ap (λ f. answered f c.args.old (val_in nu c.args.new)) c.in-Postfix.is
