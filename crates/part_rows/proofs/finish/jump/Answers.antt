use Rattle.std.proofs.Common.{sym, ◌∙◌}
use Rattle.script_grammar.proofs.Along.{refuses, peeks, peeks_end, yes, handed_on}
use Rattle.part_rows.proofs.Joints.{jumps}
use Rattle.script_grammar.specs.Grammar.{jump}
use Rattle.part_rows.specs.Lines.{Finished, Unfinished}
use Rattle.part_rows.proofs.finish.jump.Goals as goal

pub returns-in_err-token : goal.returns-in_err-token
returns-in_err-token c = handed_on (λ r. Finished (λ d made. jump made) c.args.tokens.now r.now) (λ e. Unfinished (λ d made. jump made) c.args.tokens.now e)
    c.from_residual.result c.from_residual.ensures.1 (record { row = λ d b h made. peeks_end c.in_err-token.ensures.0 c.in_err-token.ensures.1 })

pub returns-then-labels : goal.returns-then-labels
returns-then-labels c = record { row = λ d b h made. peeks c.in_ok-token.ensures (yes _ (sym c.labels.ensures ∙ c.if-labels.true) (refuses c.in_ok-token.ensures c.refused.ensures)) }

pub returns : goal.returns
returns c = jumps c.halts.result c.in_ok-token.ensures (sym c.labels.ensures ∙ c.if-labels.false) c.halts.ensures
