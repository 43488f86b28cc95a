-- One digit more.
use Rattle.std.proofs.Common.{◌<◌, ◌≤◌, ◌∙◌, ap, sym, subst, get_or, arith}
use Rattle.std.specs.Char.{digit_value}
use Rattle.js_lexer.proofs.NumberLemmas.{base_some, digit_within, digits_more, counted_step}
use Rattle.js_lexer.proofs.numbers.digits.Goals as goal

pub loop-digit-preserved : goal.loop-digit-preserved
loop-digit-preserved c =
    let bounds = base_some c.requires.base in
    let few : c.args.base ≤ 16 = bounds.1 in
    let digit : digit_value (get_or c.args.text.now c.loop-digit.after 0) < c.args.base = subst (λ x. digit_value x < c.args.base) c.at.ensures c.in-Some.ensures.value.0 in
    let within = digit_within c.args.base c.args.text.now c.loop-digit.after few digit in
    record {
      after = omega arith;
      within = omega (arith, within);
      each = digits_more c.args.base c.args.text.now c.args.place c.loop-digit.after c.loop-digit.invariant.each digit;
      counted = counted_step c.args.base c.args.text.now c.args.place c.loop-digit.after c.loop-digit.value c.in-Some.digit c.more-value.result c.loop-digit.invariant.after bounds.0 (sym (ap digit_value c.at.ensures) ∙ sym c.in-Some.ensures.value.1) c.more-value.ensures.small c.more-value.ensures.large c.loop-digit.invariant.counted;
    }
