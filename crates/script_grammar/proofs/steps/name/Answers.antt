use Rattle.std.proofs.Common.{◌≢◌, sym, ◌∙◌}
use Rattle.script_grammar.specs.declared.stop.Stop.TheVariants.{Memory}
use Rattle.script_grammar.specs.Grammar.{name_by}
use Rattle.script_grammar.specs.Meets.{TookName, MissesName}
use Rattle.script_grammar.proofs.Along.{peeks, peeks_end, by, eats, refuses, handed_on}
use Rattle.script_grammar.proofs.Tokens.{live_name}
use Rattle.script_grammar.proofs.steps.name.Goals as goal

pub returns-in_err-token : goal.returns-in_err-token
returns-in_err-token c = handed_on (λ p. TookName c.args.tokens.now p.0 p.1.now) (λ e. e ≢ Memory → MissesName c.args.tokens.now e) c.from_residual.result c.from_residual.ensures.1
    (λ _. record { row = λ n b h rule. peeks_end c.in_err-token.ensures.0 c.in_err-token.ensures.1 })

pub returns-in-Named : goal.returns-in-Named
returns-in-Named c = let q = sym c.in-Named.is ∙ c.in_ok-units.ensures in
    record { row = λ n b h rule o w. peeks c.in_ok-token.ensures (by (λ x. name_by x rule) q (eats (live_name _ _ (sym q)) c.in_ok-token.ensures w)) }

pub returns-in-Out : goal.returns-in-Out
returns-in-Out c _ = record { row = λ n b h rule. peeks c.in_ok-token.ensures (by (λ x. name_by x rule) (sym c.in-Out.is ∙ c.in_ok-units.ensures) (refuses c.in_ok-token.ensures c.refused.ensures)) }

pub returns-in-Other : goal.returns-in-Other
returns-in-Other c _ = record { row = λ n b h rule. peeks c.in_ok-token.ensures (by (λ x. name_by x rule) (sym c.in-Other.is ∙ c.in_ok-units.ensures) (refuses c.in_ok-token.ensures c.refused-in-Other.ensures)) }
