use Rattle.std.proofs.Common.{ℕ, length, List, []}
use Rattle.script_grammar.specs.Words.{Units}
use Rattle.script_grammar.specs.Rules.Symbol.{Names}
use Rattle.script_grammar.specs.Meets.{Continues}
use Rattle.script_grammar.proofs.steps.names.Given as goal

abbrev pub invariant-loop-all : goal.invariant-loop-all
invariant-loop-all l = (b : ℕ) → Continues (List Units) b (Names l.all) (Names []) (λ v. v) (λ v. v) 0 l.left l.tokens

abbrev pub decreases-loop-all : goal.decreases-loop-all
decreases-loop-all l = length l.left
