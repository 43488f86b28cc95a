use Rattle.std.proofs.Common.{arith, Some, true}
use Rattle.js_tree.specs.declared.Catch as caught
use Rattle.js_tree.specs.declared.Stmt.{Stmt}
use Rattle.part_rows.specs.Lines.{catch_rule}
use Rattle.part_rows.proofs.Joints.{onward}
use Rattle.script_grammar.specs.Grammar.{after_try}
use Rattle.script_grammar.specs.Rules.{Context, Rule}
use Rattle.script_grammar.specs.Rules.Rule.{peek}
use Rattle.script_grammar.specs.Rules.Symbol.{Statement}
use Rattle.script_grammar.proofs.Along.{row, whole, handed}
use Rattle.script_rows.proofs.tries.catch.Goals as goal

abbrev after : {c : Context} → Stmt → caught.Catch → Rule (Statement c)
after body x = peek (after_try body (Some x) true)

pub returns-in_err-made-in-Ok-clause-meets : goal.returns-in_err-made-in-Ok-clause-meets
returns-in_err-made-in-Ok-clause-meets g c = handed (Statement c.args.around) c.args.base (catch_rule c.args.body) c.args.tokens.now c.from_residual.result c.from_residual.ensures.1
    (λ not. c.in-Ok.ensures.takes.row (Statement c.args.around) 0 (after c.args.body) _ (whole (c.in_err-made-in-Ok.ensures.meets not)))

pub returns-in_ok-made-in-Ok-clause-meets : goal.returns-in_ok-made-in-Ok-clause-meets
returns-in_ok-made-in-Ok-clause-meets g c = row (c.in-Ok.ensures.takes.row (Statement c.args.around) 0 (after c.args.body) _ (onward (omega arith) c.in_ok-made-in-Ok.ensures.meets))

pub returns-in-Err-clause-meets : goal.returns-in-Err-clause-meets
returns-in-Err-clause-meets g c not = row ((c.in-Err.ensures.takes not).row (Statement c.args.around) 0 (after c.args.body))
