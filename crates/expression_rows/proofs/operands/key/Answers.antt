use Rattle.std.proofs.Common.{◌≢◌, sym, ◌∙◌}
use Rattle.script_grammar.specs.declared.stop.Stop.TheVariants.{Memory}
use Rattle.script_grammar.specs.Grammar.{fixed}
use Rattle.script_grammar.proofs.Along.{peeks, peeks_end, by, eats, refuses, handed_on}
use Rattle.script_grammar.proofs.Tokens.{live_key}
use Rattle.expression_rows.specs.Parts.{TookKey, MissesKey}
use Rattle.expression_rows.proofs.operands.key.Goals as goal

pub returns-in_err-token : goal.returns-in_err-token
returns-in_err-token c = handed_on (λ p. TookKey c.args.tokens.now p.0 p.1.now) (λ e. e ≢ Memory → MissesKey c.args.tokens.now e) c.from_residual.result c.from_residual.ensures.1
    (λ _. record { row = λ n b h rule. peeks_end c.in_err-token.ensures.0 c.in_err-token.ensures.1 })

pub returns-in-Some : goal.returns-in-Some
returns-in-Some c = let q = sym c.in-Some.is ∙ c.in_ok-units.ensures in
    record { row = λ n b h rule o w. peeks c.in_ok-token.ensures (by (λ x. fixed x rule) q (eats (live_key _ _ (sym q)) c.in_ok-token.ensures w)) }

pub returns-in-None : goal.returns-in-None
returns-in-None c _ = record { row = λ n b h rule. peeks c.in_ok-token.ensures (by (λ x. fixed x rule) (sym c.in-None.is ∙ c.in_ok-units.ensures) (refuses c.in_ok-token.ensures c.refused.ensures)) }
