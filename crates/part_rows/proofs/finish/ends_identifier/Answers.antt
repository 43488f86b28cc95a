use Rattle.std.proofs.Common.{sym, ◌∙◌}
use Rattle.script_grammar.proofs.Along.{refuses, peeks, peeks_end, yes, handed_on}
use Rattle.part_rows.proofs.Joints.{ends_named}
use Rattle.part_rows.specs.Lines.{FinishedName, UnfinishedName}
use Rattle.part_rows.proofs.finish.ends_identifier.Goals as goal

pub returns-in_err-token : goal.returns-in_err-token
returns-in_err-token c = handed_on (λ r. FinishedName c.args.expr.now c.args.tokens.now r.now) (λ e. UnfinishedName c.args.expr.now c.args.tokens.now e)
    c.from_residual.result c.from_residual.ensures.1 (record { row = λ d b h. peeks_end c.in_err-token.ensures.0 c.in_err-token.ensures.1 })

pub returns-then-labelled : goal.returns-then-labelled
returns-then-labelled c = record { row = λ d b h. peeks c.in_ok-token.ensures (yes _ (sym c.labelled.ensures ∙ c.if-labelled.true) (refuses c.in_ok-token.ensures c.refused.ensures)) }

pub returns : goal.returns
returns c = ends_named c.args.expr.now c.ends.result c.in_ok-token.ensures (sym c.labelled.ensures ∙ c.if-labelled.false) c.ends.ensures
