use Rattle.std.proofs.Common.{◌≡◌, ◌≢◌, true, false, sym, ◌∙◌, ap, length, arith}
use Rattle.js_lexer.specs.declared.Mark.TheVariants as m
use Rattle.script_grammar.specs.declared.stop.Stop.TheVariants.{Memory}
use Rattle.script_grammar.specs.Rules.Symbol.{Arguments}
use Rattle.script_grammar.specs.Meets.{TookItem, MissesItem, after_argument}
use Rattle.script_grammar.proofs.Along.{peeks, peeks_end, eats, yes, no, passes_level, fails_level, handed_on}
use Rattle.script_grammar.proofs.Generic.{shorter}
use Rattle.script_grammar.proofs.Tokens.{live_mark}
use Rattle.expression_rows.proofs.deeper.Grammar.argument.Goals as goal

pub returns-in_err-one-clause-item : goal.returns-in_err-one-clause-item
returns-in_err-one-clause-item g c = handed_on (λ r. TookItem Arguments after_argument c.args.base c.args.tokens.now r.0 r.1 r.2 r.3.now) (λ e. e ≢ Memory → MissesItem Arguments c.args.base c.args.tokens.now e)
    c.from_residual.result c.from_residual.ensures.1 (λ not. record { row = λ so_far h. fails_level (c.in_err-one.ensures.meets not) })

pub returns-then-is-clause-item : goal.returns-then-is-clause-item
returns-then-is-clause-item g c = let q = sym c.is.ensures ∙ c.if-is.true in record {
  row = λ so_far h o w. passes_level c.in_ok-one.ensures.meets (peeks c.in-Ok.ensures (yes _ q (eats (live_mark m.Comma _ q) c.in-Ok.ensures w)));
  shorter = λ _. omega (arith, ap length c.in-Ok.ensures, shorter c.in_ok-one.ensures.meets);
}

pub returns-else-is-clause-item : goal.returns-else-is-clause-item
returns-else-is-clause-item g c = record {
  row = λ so_far h o w. passes_level c.in_ok-one.ensures.meets (peeks c.in-Ok.ensures (no _ (sym c.is.ensures ∙ c.if-is.false) w));
  shorter = λ e. absurd (let x : false ≡ true = e in cc);
}

pub returns-in-Err-clause-item : goal.returns-in-Err-clause-item
returns-in-Err-clause-item g c _ = record { row = λ so_far h. passes_level c.in_ok-one.ensures.meets (peeks_end c.in-Err.ensures.0 c.in-Err.ensures.1) }
