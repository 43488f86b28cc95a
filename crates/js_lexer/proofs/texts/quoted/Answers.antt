-- The parts of a text, one after another.
use Rattle.std.proofs.Common.{◌+◌, refl, sym, subst, arith}
use Rattle.js_lexer.specs.Pieces.{Body, nothing, Ends}
use Rattle.js_lexer.proofs.TextLemmas.{body_more}
use Rattle.js_lexer.specs.declared.Next.TheVariants.{Close}
use Rattle.js_lexer.proofs.texts.quoted.Goals as goal

pub parts-init : goal.parts-init
parts-init c = record { body = nothing c.new-units.ensures refl; after = omega arith; within = omega arith }

pub returns-in-Close : goal.returns-in-Close
returns-in-Close c = (c.parts.here, subst (λ q. Ends c.args.text.now q Close (c.args.place + 1) c.parts.units c.parts.here) c.at-quote.ensures (record { body = c.parts.invariant.body; there = sym c.in-Close.ensures.value }), refl, omega arith, (let w = c.in-Close.ensures.goes_on in omega (arith, w)))

pub parts-preserved : goal.parts-preserved
parts-preserved c = record {
  body = subst (λ us. Body c.args.text.now c.at-quote.result (c.args.place + 1) us c.in-Part.next) (sym c.in_ok-push_part-in-Part.ensures) (body_more c.parts.invariant.body (sym c.in-Part.ensures.value));
  after = (let g = c.in-Part.ensures.goes_on.1 in omega (arith, g));
  within = c.in-Part.ensures.goes_on.2;
}
