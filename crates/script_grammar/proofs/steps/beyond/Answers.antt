use Rattle.std.proofs.Common.{◌+◌, arith, ap, length}
use Rattle.script_grammar.proofs.TooDeep.{deep_at, deep_end}
use Rattle.script_grammar.proofs.steps.beyond.Goals as goal

pub returns-in-Some : goal.returns-in-Some
returns-in-Some c not = c.loop-token.invariant _ (λ b deep. deep_at c.in-Ok.ensures (c.in-Some.ensures not b _ deep))

pub returns-in-Err : goal.returns-in-Err
returns-in-Err c _ = c.loop-token.invariant _ (λ b _. deep_end b c.in-Err.ensures.0 c.in-Err.ensures.1)

pub loop-token-preserved : goal.loop-token-preserved
loop-token-preserved c = λ e later. c.loop-token.invariant e (λ b deep. deep_at c.in-Ok.ensures (c.in-None.ensures b _ e (later (b + 1) (omega arith))))
