use Rattle.std.proofs.Common.{◌≡◌, ◌≢◌, true, false, sym, ◌∙◌, ap, length, arith}
use Rattle.js_lexer.specs.declared.Mark.TheVariants as m
use Rattle.script_grammar.specs.declared.stop.Stop.TheVariants.{Memory}
use Rattle.script_grammar.specs.Grammar.{field_by}
use Rattle.script_grammar.specs.Rules.Symbol.{Fields}
use Rattle.script_grammar.specs.Meets.{TookItem, MissesItem, after_field}
use Rattle.script_grammar.proofs.Along.{peeks, peeks_end, eats, by, refuses, yes, no, passes_level, fails_level, expects, misses, handed_on}
use Rattle.script_grammar.proofs.Generic.{shorter}
use Rattle.script_grammar.proofs.Tokens.{live_literal_key, live_mark}
use Rattle.expression_rows.proofs.deeper.Grammar.field.Goals as goal

pub returns-in_err-token-clause-item : goal.returns-in_err-token-clause-item
returns-in_err-token-clause-item g c = handed_on (λ r. TookItem Fields after_field c.args.base c.args.tokens.now r.0 r.1 r.2 r.3.now) (λ e. e ≢ Memory → MissesItem Fields c.args.base c.args.tokens.now e)
    c.from_residual.result c.from_residual.ensures.1 (λ _. record { row = λ so_far h. peeks_end c.in_err-token.ensures.0 c.in_err-token.ensures.1 })

pub returns-in_err-rest-in-Some-clause-item : goal.returns-in_err-rest-in-Some-clause-item
returns-in_err-rest-in-Some-clause-item g c = let q = sym c.in-Some.is ∙ c.in_ok-key.ensures in handed_on (λ r. TookItem Fields after_field c.args.base c.args.tokens.now r.0 r.1 r.2 r.3.now) (λ e. e ≢ Memory → MissesItem Fields c.args.base c.args.tokens.now e)
    c.from_residual-in_err-rest-in-Some.result c.from_residual-in_err-rest-in-Some.ensures.1
    (λ _. record { row = λ so_far h. peeks c.in_ok-token.ensures (by (field_by {so_far = so_far}) q (eats (live_literal_key _ _ (sym q)) c.in_ok-token.ensures (misses _ _ c.in_err-rest-in-Some.ensures))) })

pub returns-in_err-one-in-Some-clause-item : goal.returns-in_err-one-in-Some-clause-item
returns-in_err-one-in-Some-clause-item g c = let q = sym c.in-Some.is ∙ c.in_ok-key.ensures in handed_on (λ r. TookItem Fields after_field c.args.base c.args.tokens.now r.0 r.1 r.2 r.3.now) (λ e. e ≢ Memory → MissesItem Fields c.args.base c.args.tokens.now e)
    c.from_residual-in_err-one-in-Some.result c.from_residual-in_err-one-in-Some.ensures.1
    (λ not. record { row = λ so_far h. peeks c.in_ok-token.ensures (by (field_by {so_far = so_far}) q (eats (live_literal_key _ _ (sym q)) c.in_ok-token.ensures (expects c.in_ok-rest-in-Some.ensures (fails_level (c.in_err-one-in-Some.ensures.meets not))))) })

pub returns-then-is-clause-item : goal.returns-then-is-clause-item
returns-then-is-clause-item g c = let q = sym c.in-Some.is ∙ c.in_ok-key.ensures in let z = sym c.is.ensures ∙ c.if-is.true in record {
  row = λ so_far h o w. peeks c.in_ok-token.ensures (by (field_by {so_far = so_far}) q (eats (live_literal_key _ _ (sym q)) c.in_ok-token.ensures (expects c.in_ok-rest-in-Some.ensures (passes_level c.in_ok-one-in-Some.ensures.meets
      (peeks c.in-Ok.ensures (yes _ z (eats (live_mark m.Comma _ z) c.in-Ok.ensures (by (λ x. after_field so_far x true) c.field.ensures w))))))));
  shorter = λ _. omega (arith, ap length c.in_ok-token.ensures, ap length c.in_ok-rest-in-Some.ensures.whole, ap length c.in-Ok.ensures, shorter c.in_ok-one-in-Some.ensures.meets);
}

pub returns-else-is-clause-item : goal.returns-else-is-clause-item
returns-else-is-clause-item g c = let q = sym c.in-Some.is ∙ c.in_ok-key.ensures in record {
  row = λ so_far h o w. peeks c.in_ok-token.ensures (by (field_by {so_far = so_far}) q (eats (live_literal_key _ _ (sym q)) c.in_ok-token.ensures (expects c.in_ok-rest-in-Some.ensures (passes_level c.in_ok-one-in-Some.ensures.meets
      (peeks c.in-Ok.ensures (no _ (sym c.is.ensures ∙ c.if-is.false) (by (λ x. after_field so_far x false) c.field-else-is.ensures w)))))));
  shorter = λ e. absurd (let x : false ≡ true = e in cc);
}

pub returns-in-Err-clause-item : goal.returns-in-Err-clause-item
returns-in-Err-clause-item g c = let q = sym c.in-Some.is ∙ c.in_ok-key.ensures in λ _. record {
  row = λ so_far h. peeks c.in_ok-token.ensures (by (field_by {so_far = so_far}) q (eats (live_literal_key _ _ (sym q)) c.in_ok-token.ensures (expects c.in_ok-rest-in-Some.ensures (passes_level c.in_ok-one-in-Some.ensures.meets
      (peeks_end c.in-Err.ensures.0 c.in-Err.ensures.1)))));
}

pub returns-in-None-clause-item : goal.returns-in-None-clause-item
returns-in-None-clause-item g c _ = record { row = λ so_far h. peeks c.in_ok-token.ensures (by (field_by {so_far = so_far}) (sym c.in-None.is ∙ c.in_ok-key.ensures) (refuses c.in_ok-token.ensures c.refused.ensures)) }
