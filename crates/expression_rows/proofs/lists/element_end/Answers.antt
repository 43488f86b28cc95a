use Rattle.std.proofs.Common.{◌≡◌, true, false, sym, ◌∙◌, ap, length, arith}
use Rattle.js_lexer.specs.declared.Mark.TheVariants as m
use Rattle.script_grammar.specs.Meets.{TookElementEnd, MissesElementEnd}
use Rattle.script_grammar.proofs.Along.{peeks, peeks_end, eats, yes, no, handed_on}
use Rattle.script_grammar.proofs.Tokens.{live_mark}
use Rattle.expression_rows.proofs.lists.element_end.Goals as goal

pub returns-in_err-token : goal.returns-in_err-token
returns-in_err-token c = handed_on (λ r. TookElementEnd c.args.tokens.now r.0 r.1.now) (λ e. MissesElementEnd c.args.tokens.now e) c.from_residual.result c.from_residual.ensures.1
    (record { row = λ so_far one b h. peeks_end c.in_err-token.ensures.0 c.in_err-token.ensures.1 })

pub returns-then-not-is : goal.returns-then-not-is
returns-then-not-is c = record {
  row = λ so_far one b h o w. peeks c.in_ok-token.ensures (no _ (sym c.is.ensures ∙ c.if-not-is.true) w);
  shorter = λ e. absurd (let x : false ≡ true = e in cc);
}

pub returns-in_err-token-2 : goal.returns-in_err-token-2
returns-in_err-token-2 c = let q = sym c.is.ensures ∙ c.if-not-is.false in handed_on (λ r. TookElementEnd c.args.tokens.now r.0 r.1.now) (λ e. MissesElementEnd c.args.tokens.now e)
    c.from_residual-in_err-token-2.result c.from_residual-in_err-token-2.ensures.1
    (record { row = λ so_far one b h. peeks c.in_ok-token.ensures (yes _ q (eats (live_mark m.Comma _ q) c.in_ok-token.ensures (peeks_end c.in_err-token-2.ensures.0 c.in_err-token-2.ensures.1))) })

pub returns-then-is : goal.returns-then-is
returns-then-is c = let q = sym c.is.ensures ∙ c.if-not-is.false in record {
  row = λ so_far one b h o w. peeks c.in_ok-token.ensures (yes _ q (eats (live_mark m.Comma _ q) c.in_ok-token.ensures (peeks c.in_ok-token-2.ensures (yes _ (sym c.is-2.ensures ∙ c.if-is.true) w))));
  shorter = λ e. absurd (let x : false ≡ true = e in cc);
}

pub returns-else-is : goal.returns-else-is
returns-else-is c = let q = sym c.is.ensures ∙ c.if-not-is.false in record {
  row = λ so_far one b h o w. peeks c.in_ok-token.ensures (yes _ q (eats (live_mark m.Comma _ q) c.in_ok-token.ensures (peeks c.in_ok-token-2.ensures (no _ (sym c.is-2.ensures ∙ c.if-is.false) w))));
  shorter = λ _. omega (arith, ap length c.in_ok-token.ensures);
}
