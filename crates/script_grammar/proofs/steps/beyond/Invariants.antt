use Rattle.std.proofs.Common.{ℕ, ◌<◌, Err, false, length}
use Rattle.script_grammar.specs.declared.stop.Stop.{Stop}
use Rattle.script_grammar.specs.Grammar.{grammar}
use Rattle.script_grammar.specs.Goes.{Goes}
use Rattle.script_grammar.specs.Rules.Symbol.{Expr}
use Rattle.script_grammar.proofs.steps.beyond.Given as goal

-- what stops the tokens that are left stops all of them
abbrev pub invariant-loop-token : goal.invariant-loop-token
invariant-loop-token l = (e : Stop) → ((b : ℕ) → 200 < b → Goes 200 (Expr false) b (grammar (Expr false)) l.left (Err e)) → (b : ℕ) → 200 < b → Goes 200 (Expr false) b (grammar (Expr false)) l.tokens (Err e)

abbrev pub decreases-loop-token : goal.decreases-loop-token
decreases-loop-token l = length l.left
