use Rattle.std.proofs.Common.{◌≢◌, sym, ◌∙◌, arith}
use Rattle.js_lexer.specs.declared.Mark.TheVariants as m
use Rattle.script_grammar.specs.declared.stop.Stop.TheVariants.{Memory}
use Rattle.script_grammar.specs.Meets.{TookParameters, MissesParameters}
use Rattle.script_grammar.proofs.Along.{peeks, peeks_end, eats, by, yes, no, passes, fails, expects, misses, as_high, handed_on}
use Rattle.script_grammar.proofs.Tokens.{live_mark}
use Rattle.script_grammar.proofs.steps.parameters.Goals as goal

pub returns-in_err-rest : goal.returns-in_err-rest
returns-in_err-rest c = handed_on (λ p. TookParameters c.args.tokens.now p.0 p.1.now) (λ e. e ≢ Memory → MissesParameters c.args.tokens.now e) c.from_residual.result c.from_residual.ensures.1
    (λ _. record { row = λ n b h rule. misses _ _ c.in_err-rest.ensures })

pub returns-in_err-token : goal.returns-in_err-token
returns-in_err-token c = handed_on (λ p. TookParameters c.args.tokens.now p.0 p.1.now) (λ e. e ≢ Memory → MissesParameters c.args.tokens.now e) c.from_residual-in_err-token.result c.from_residual-in_err-token.ensures.1
    (λ _. record { row = λ n b h rule. expects c.in_ok-rest.ensures (peeks_end c.in_err-token.ensures.0 c.in_err-token.ensures.1) })

pub returns-then-is : goal.returns-then-is
returns-then-is c = let q = sym c.is.ensures ∙ c.if-is.true in
    record { row = λ n b h rule o w. expects c.in_ok-rest.ensures (peeks c.in_ok-token.ensures (yes _ q (eats (live_mark m.CloseParen _ q) c.in_ok-token.ensures (by rule c.new.ensures w)))) }

pub returns-in_err-all : goal.returns-in_err-all
returns-in_err-all c = handed_on (λ p. TookParameters c.args.tokens.now p.0 p.1.now) (λ e. e ≢ Memory → MissesParameters c.args.tokens.now e) c.from_residual-in_err-all.result c.from_residual-in_err-all.ensures.1
    (λ not. record { row = λ n b h rule. expects c.in_ok-rest.ensures (peeks c.in_ok-token.ensures (no _ (sym c.is.ensures ∙ c.if-is.false) (fails (c.in_err-all.ensures not _)))) })

pub returns-in_err-rest-2 : goal.returns-in_err-rest-2
returns-in_err-rest-2 c = handed_on (λ p. TookParameters c.args.tokens.now p.0 p.1.now) (λ e. e ≢ Memory → MissesParameters c.args.tokens.now e) c.from_residual-in_err-rest-2.result c.from_residual-in_err-rest-2.ensures.1
    (λ _. record { row = λ n b h rule. expects c.in_ok-rest.ensures (peeks c.in_ok-token.ensures (no _ (sym c.is.ensures ∙ c.if-is.false) (passes (c.in_ok-all.ensures _) (misses _ _ c.in_err-rest-2.ensures)))) })

pub returns : goal.returns
returns c = record {
  row = λ n b h rule o w. expects c.in_ok-rest.ensures (peeks c.in_ok-token.ensures (no _ (sym c.is.ensures ∙ c.if-is.false)
      (passes (c.in_ok-all.ensures _) (as_high (omega arith) (expects c.in_ok-rest-2.ensures w)))));
}
