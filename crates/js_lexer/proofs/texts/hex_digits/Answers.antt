-- The digits so far, and those that are left.
use Rattle.std.proofs.Common.{◌≡◌, ◌<◌, ◌+◌, ◌-◌, refl, ◌∙◌, ap, sym, subst, get_or, arith}
use Rattle.std.specs.Char.{digit_value}
use Rattle.js_lexer.proofs.TextLemmas.{hex_step, hex_open, hex_wrong, hex_place}
use Rattle.js_lexer.proofs.texts.hex_digits.Goals as goal

pub returns-then-place-i-clause-value : goal.returns-then-place-i-clause-value
returns-then-place-i-clause-value c =
    sym (c.loop-i.invariant.goes ∙ hex_open c.args.text.now c.loop-i.value (c.args.place + c.loop-i.i) (c.args.count - c.loop-i.i) (omega arith) (omega arith))

pub returns-in-None-clause-value : goal.returns-in-None-clause-value
returns-in-None-clause-value c =
    sym (c.loop-i.invariant.goes ∙ hex_wrong c.args.text.now c.loop-i.value (c.args.place + c.loop-i.i) (c.args.count - c.loop-i.i) (omega arith) (omega arith)
    (subst (λ x. digit_value x < 16 → ⊥) c.at-c.ensures c.in-None.ensures.value))

pub loop-i-preserved : goal.loop-i-preserved
loop-i-preserved c =
    let digit : digit_value (get_or c.args.text.now (c.args.place + c.loop-i.i) 0) < 16 = subst (λ x. digit_value x < 16) c.at-c.ensures c.in-Some.ensures.value.0 in
    let same : digit_value (get_or c.args.text.now (c.args.place + c.loop-i.i) 0) ≡ c.in-Some.digit = sym (ap digit_value c.at-c.ensures) ∙ sym c.in-Some.ensures.value.1 in
    let few : c.in-Some.digit < 16 = omega arith in
    record {
      goes = c.loop-i.invariant.goes
          ∙ hex_step c.args.text.now c.loop-i.value (c.args.place + c.loop-i.i) (c.args.count - c.loop-i.i) c.in-Some.digit (omega arith) (omega arith) digit same
          ∙ hex_place c.args.text.now refl (omega arith) (omega arith);
      within = omega arith;
      none = λ h. omega arith;
      one = λ h. omega (arith, c.loop-i.invariant.none);
      two = λ h. omega (arith, c.loop-i.invariant.one);
      three = λ h. omega (arith, c.loop-i.invariant.two);
      four = λ h. omega (arith, c.loop-i.invariant.three);
    }
