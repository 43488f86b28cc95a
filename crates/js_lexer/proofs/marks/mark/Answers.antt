-- A punctuator that is extended as far as may be is the longest.
use Rattle.std.proofs.Common.{◌≡◌, ◌<◌, length, get_or, Some, refl, sym, ◌∙◌, ap, arith}
use Rattle.js_lexer.specs.Marks.{single, extend}
use Rattle.js_lexer.specs.Pieces.{one, more}
use Rattle.js_lexer.proofs.PunctuatorLemmas.{longest_mark, extend_within, no_single}
use Rattle.js_lexer.proofs.marks.mark.Goals as goal

pub returns-in_err-mark-clause-none : goal.returns-in_err-mark-clause-none
returns-in_err-mark-clause-none c =
    rw c.from_residual.ensures (λ m j s. no_single (ap single (sym c.at-first.ensures) ∙ sym c.single.ensures ∙ c.in_err-mark.was) s)

pub loop-longer-init : goal.loop-longer-init
loop-longer-init c = record {
  spells = one (ap single (sym c.at-first.ensures) ∙ sym c.single.ensures ∙ c.in_ok-mark.was) refl;
  within = omega arith;
}

pub loop-longer-smaller : goal.loop-longer-smaller
loop-longer-smaller c =
    let w : c.loop-longer.after < length c.args.text.now = extend_within c.args.text.now c.loop-longer.after c.loop-longer.mark c.in-Some.longer (ap (extend c.loop-longer.mark) (sym c.at.ensures) ∙ sym c.extend.ensures ∙ c.in-Some.is) in
    omega arith

pub loop-longer-preserved : goal.loop-longer-preserved
loop-longer-preserved c =
    let e : extend c.loop-longer.mark (get_or c.args.text.now c.loop-longer.after 0) ≡ Some c.in-Some.longer = ap (extend c.loop-longer.mark) (sym c.at.ensures) ∙ sym c.extend.ensures ∙ c.in-Some.is in
    let w : c.loop-longer.after < length c.args.text.now = extend_within c.args.text.now c.loop-longer.after c.loop-longer.mark c.in-Some.longer e in
    record { spells = more c.loop-longer.invariant.spells e refl; within = omega arith }

pub returns-clause-longest : goal.returns-clause-longest
returns-clause-longest c m j s =
    longest_mark c.loop-longer.invariant.spells (ap (extend c.loop-longer.mark) (sym c.at.ensures) ∙ sym c.extend.ensures ∙ c.in_default.is) s
