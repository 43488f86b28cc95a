use Rattle.std.proofs.Common.{refl, ap, sym, ◌∙◌, arith}
use Rattle.script_grammar.specs.Grammar.{deleted_end}
use Rattle.script_grammar.specs.Rules.Symbol.{Deleted}
use Rattle.script_grammar.proofs.Along.{row, refuses, rises, sinks, onward, handed}
use Rattle.expression_rows.proofs.Unaries.{deleted_stepped, live_after, refuses_end}
use Rattle.expression_rows.proofs.delete.deleted_end.Goals as goal

pub returns-then-base-height-gt-LIMIT-clause-end : goal.returns-then-base-height-gt-LIMIT-clause-end
returns-then-base-height-gt-LIMIT-clause-end c _ = row (deleted_stepped c.args.token.now _ c.in-Some.ensures (sinks (live_after c.args.left.target c.args.token.now _ c.in-Some.ensures) c.requires.whole (omega arith)))

pub returns-in_err-next-in-Some-clause-end : goal.returns-in_err-next-in-Some-clause-end
returns-in_err-next-in-Some-clause-end c = handed (Deleted c.args.left c.args.height) c.args.base (deleted_end c.args.left c.args.height c.args.token.now) c.args.tokens.now c.from_residual.result c.from_residual.ensures.1
    (λ _. deleted_stepped c.args.token.now _ c.in-Some.ensures (rises (live_after c.args.left.target c.args.token.now _ c.in-Some.ensures) c.requires.whole (omega arith) (refuses_end _ c.in_err-next-in-Some.ensures.0 c.in_err-next-in-Some.ensures.1)))

pub returns-in_ok-next-in-Some-clause-end : goal.returns-in_ok-next-in-Some-clause-end
returns-in_ok-next-in-Some-clause-end c _ = row (deleted_stepped c.args.token.now _ c.in-Some.ensures (rises (live_after c.args.left.target c.args.token.now _ c.in-Some.ensures) c.requires.whole (omega arith) (refuses c.in_ok-next-in-Some.ensures c.refused.ensures)))

pub returns-in-None-clause-end : goal.returns-in-None-clause-end
returns-in-None-clause-end c = onward c.deletion.result (λ o w. deleted_stepped c.args.token.now _ c.in-None.ensures w) (c.deletion.ensures.end _ _)
