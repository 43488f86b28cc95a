-- The first `*/` closes the comment.
use Rattle.std.proofs.Common.{◌≡◌, ◌+◌, ◌-◌, ℕ, ◌∙◌, sym, subst, arith}
use Rattle.js_lexer.specs.Pieces.{Closes, HasLineEnd}
use Rattle.js_lexer.proofs.Compared.{stands_within}
use Rattle.js_lexer.proofs.comments.block_comment.Goals as goal

two_less : (n : ℕ) → n + 2 - 2 ≡ n
two_less n = omega arith

pub returns-then-next-eq47-clause-found : goal.returns-then-next-eq47-clause-found
returns-then-next-eq47-clause-found c = record {
  slash = c.requires.slash;
  star = c.requires.star;
  after = omega arith;
  within = (let w = stands_within c.args.text.now (c.loop-i.i + 1) 47 (sym c.at-next.ensures ∙ c.if-next-eq47.true) (omega arith) in omega (arith, w));
  closes = subst (Closes c.args.text.now) (sym (two_less c.loop-i.i)) (sym c.at-c.ensures ∙ c.if-c-eq42.true, sym c.at-next.ensures ∙ c.if-next-eq47.true);
  first = λ k a b. c.loop-i.invariant.first k a (omega arith);
  lines = subst (HasLineEnd c.args.text.now c.loop-i.line (c.args.place + 2)) (sym (two_less c.loop-i.i)) c.loop-i.invariant.lines;
}
