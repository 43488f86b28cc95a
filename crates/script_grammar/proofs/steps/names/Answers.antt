use Rattle.std.proofs.Common.{ℕ, ◌≢◌, [], Ok, Err, sym, ◌∙◌}
use Rattle.script_grammar.specs.declared.stop.Stop.TheVariants.{Memory}
use Rattle.script_grammar.specs.Rules.Symbol.{Names}
use Rattle.script_grammar.specs.Grammar.{grammar}
use Rattle.script_grammar.specs.Goes.{Goes}
use Rattle.script_grammar.proofs.Along.{row, peeks_end, handed_on}
use Rattle.script_grammar.proofs.Repeated.{again_names, last_names, smaller_names}
use Rattle.script_grammar.proofs.steps.names.Goals as goal

pub returns-in_err-one : goal.returns-in_err-one
returns-in_err-one c = handed_on (λ p. (b : ℕ) → Goes 200 (Names []) b (grammar (Names [])) c.args.tokens.now (Ok record { value = p.0; height = 0; rest = p.1.now }))
    (λ e. e ≢ Memory → (b : ℕ) → Goes 200 (Names []) b (grammar (Names [])) c.args.tokens.now (Err e)) c.from_residual.result c.from_residual.ensures.1
    (λ not b. (c.loop-all.invariant b).stops _ (row ((c.in_err-one.ensures not).row _ b 0 _)))

pub returns-in_err-token : goal.returns-in_err-token
returns-in_err-token c = handed_on (λ p. (b : ℕ) → Goes 200 (Names []) b (grammar (Names [])) c.args.tokens.now (Ok record { value = p.0; height = 0; rest = p.1.now }))
    (λ e. e ≢ Memory → (b : ℕ) → Goes 200 (Names []) b (grammar (Names [])) c.args.tokens.now (Err e)) c.from_residual-in_err-token.result c.from_residual-in_err-token.ensures.1
    (λ _ b. (c.loop-all.invariant b).stops _ (row (c.in_ok-one.ensures.row _ b 0 _ _ (peeks_end c.in_err-token.ensures.0 c.in_err-token.ensures.1))))

pub returns-then-not-is : goal.returns-then-not-is
returns-then-not-is c b = last_names (c.loop-all.invariant b) c.in_ok-one.ensures c.in_ok-token.ensures (sym c.is.ensures ∙ c.if-not-is.true) _ c.in_ok-push.ensures.ok

pub loop-all-smaller : goal.loop-all-smaller
loop-all-smaller c = smaller_names (c.loop-all.invariant 0) c.in_ok-one.ensures c.in_ok-token.ensures

pub loop-all-preserved : goal.loop-all-preserved
loop-all-preserved c b = again_names (c.loop-all.invariant b) c.in_ok-one.ensures c.in_ok-token.ensures (sym c.is.ensures ∙ c.if-not-is.false) _ c.in_ok-push.ensures.ok
