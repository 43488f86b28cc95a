use Rattle.std.proofs.Common.{[], ◌∷◌, ap, ◌∙◌, arith}
use Rattle.script_grammar.specs.Rules.Rule.{node}
use Rattle.script_grammar.specs.Rules.Symbol.{Statement}
use Rattle.script_grammar.proofs.Along.{row, whole, passes, fails, by, handed}
use Rattle.part_rows.specs.Lines.{for_assigned_rule, for_more_rule}
use Rattle.part_rows.proofs.Joints.{onward}
use Rattle.loop_rows.proofs.for_var_value.Goals as goal

pub returns-in_err-stood-clause-meets : goal.returns-in_err-stood-clause-meets
returns-in_err-stood-clause-meets g c = handed (Statement c.args.around) c.args.base (node 2 (for_assigned_rule c.args.units)) c.args.tokens.now c.from_residual.result c.from_residual.ensures.1
    (λ not. c.in_err-stood.ensures.stands.row (Statement c.args.around) 0 (for_assigned_rule c.args.units))

pub returns-in_err-value-clause-meets : goal.returns-in_err-value-clause-meets
returns-in_err-value-clause-meets g c = handed (Statement c.args.around) c.args.base (node 2 (for_assigned_rule c.args.units)) c.args.tokens.now c.from_residual-in_err-value.result c.from_residual-in_err-value.ensures.1
    (λ not. c.in_ok-stood.ensures.stands.row (Statement c.args.around) 0 (for_assigned_rule c.args.units) _ (fails (c.in_err-value.ensures.meets not)))

pub returns-in_err-made-clause-meets : goal.returns-in_err-made-clause-meets
returns-in_err-made-clause-meets g c = handed (Statement c.args.around) c.args.base (node 2 (for_assigned_rule c.args.units)) c.args.tokens.now c.from_residual-in_err-made.result c.from_residual-in_err-made.ensures.1
    (λ not. c.in_ok-stood.ensures.stands.row (Statement c.args.around) 0 (for_assigned_rule c.args.units) _ (passes c.in_ok-value.ensures.meets (by (λ y. for_more_rule y) (c.in_ok-all.ensures ∙ ap (λ x. x ∷ []) c.variable.ensures) (whole (c.in_err-made.ensures.meets not)))))

pub returns-clause-meets : goal.returns-clause-meets
returns-clause-meets g c = row (c.in_ok-stood.ensures.stands.row (Statement c.args.around) 0 (for_assigned_rule c.args.units) _ (passes c.in_ok-value.ensures.meets (by (λ y. for_more_rule y) (c.in_ok-all.ensures ∙ ap (λ x. x ∷ []) c.variable.ensures) (onward (omega arith) c.in_ok-made.ensures.meets))))
