use Rattle.std.proofs.Common.{◌+◌, max, refl, ap, sym, ◌∙◌, arith}
use Rattle.script_grammar.specs.Grammar.{a_target}
use Rattle.script_grammar.proofs.Along.{rises, sinks}
use Rattle.expression_rows.proofs.Members.{made_as}
use Rattle.expression_rows.proofs.deeper.Grammar.fixed.Goals as goal

pub returns-then-deep-eq-LIMIT-clause-part : goal.returns-then-deep-eq-LIMIT-clause-part
returns-then-deep-eq-LIMIT-clause-part g c _ = record { row = λ t n h rule live. sinks live refl (omega arith) }

pub returns-in_ok-made-in-Ok-clause-part : goal.returns-in_ok-made-in-Ok-clause-part
returns-in_ok-made-in-Ok-clause-part g c = record { row = λ t n h rule o live w. rises live refl (omega arith) (c.in-Ok.ensures.row _ _ _ _ _ (made_as rule (c.target.ensures ∙ ap a_target c.in_ok-made-in-Ok.ensures) refl (omega arith) w)) }

pub returns-in-Err-clause-part : goal.returns-in-Err-clause-part
returns-in-Err-clause-part g c not = record { row = λ t n h rule live. rises live refl (omega arith) ((c.in-Err.ensures not).row _ _ _ _) }
