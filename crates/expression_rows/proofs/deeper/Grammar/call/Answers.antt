use Rattle.std.proofs.Common.{◌+◌, max, refl, ap, sym, ◌∙◌, arith}
use Rattle.script_grammar.specs.Exprs as e
use Rattle.script_grammar.specs.Grammar.{plain}
use Rattle.script_grammar.proofs.Along.{rises, sinks}
use Rattle.expression_rows.proofs.Members.{made_as}
use Rattle.expression_rows.proofs.deeper.Grammar.call.Goals as goal

pub returns-then-base-height-gt-LIMIT-clause-part : goal.returns-then-base-height-gt-LIMIT-clause-part
returns-then-base-height-gt-LIMIT-clause-part g c _ = record { row = λ t n h rule live. sinks live refl (omega arith) }

pub returns-in_ok-made-in-Ok-clause-part : goal.returns-in_ok-made-in-Ok-clause-part
returns-in_ok-made-in-Ok-clause-part g c = record {
  row = λ t n h rule o live w. rises live refl (omega arith) (c.in-Ok.ensures.row.row n _ (λ all i. rule (plain (e.Call c.args.left.expr all)) (max (c.args.height + 1) (i + 1))) _ (omega arith)
      (made_as rule (c.plain.ensures ∙ ap plain c.in_ok-made-in-Ok.ensures) (omega arith) (omega arith) w));
}

pub returns-in-Err-clause-part : goal.returns-in-Err-clause-part
returns-in-Err-clause-part g c not = record { row = λ t n h rule live. rises live refl (omega arith) ((c.in-Err.ensures.row not).row n _ (λ all i. rule (plain (e.Call c.args.left.expr all)) (max (c.args.height + 1) (i + 1)))) }
