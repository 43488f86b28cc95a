-- A comment, or a punctuator that begins with a slash.
use Rattle.std.proofs.Common.{◌+◌, ◌∙◌, sym, arith}
use Rattle.js_lexer.proofs.Compared.{stands_within}
use Rattle.js_lexer.proofs.PieceLemmas.{line_comment_found, block_comment_found, block_broken, block_unclosed, slash_found, slash_none}
use Rattle.js_lexer.proofs.pieces.slash_piece.Goals as goal

pub line_comment-after-requires-clause-within : goal.line_comment-after-requires-clause-within
line_comment-after-requires-clause-within c = let w = stands_within c.args.text.now (c.args.place + 1) 47 (sym c.at-second.ensures ∙ c.if-second-eq47.true) (omega arith) in omega (arith, w)

pub block_comment-requires-clause-within : goal.block_comment-requires-clause-within
block_comment-requires-clause-within c = let w = stands_within c.args.text.now (c.args.place + 1) 42 (sym c.at-second.ensures ∙ c.if-second-eq42.true) (omega arith) in omega (arith, w)

pub returns-then-second-eq47 : goal.returns-then-second-eq47
returns-then-second-eq47 c = line_comment_found c.args.text.now c.args.broken c.args.place c.line_comment-after.result c.line_comment-after.ensures

pub returns-in-Some : goal.returns-in-Some
returns-in-Some c = block_comment_found c.args.text.now c.args.broken c.in-Some.line c.args.place c.in-Some.after c.in-Some.ensures.found

pub returns-then-broken : goal.returns-then-broken
returns-then-broken c = block_broken c.args.text.now c.args.broken c.args.place c.if-broken.true c.requires.first (sym c.at-second.ensures ∙ c.if-second-eq42.true) c.in-None.ensures.none

pub returns-else-broken : goal.returns-else-broken
returns-else-broken c = block_unclosed c.args.text.now c.args.broken c.args.place c.if-broken.false c.requires.first (sym c.at-second.ensures ∙ c.if-second-eq42.true) c.in-None.ensures.none

pub returns-in-Some-mark : goal.returns-in-Some-mark
returns-in-Some-mark c = slash_found c.args.text.now c.args.broken c.args.place c.in-Some-mark.after c.in-Some-mark.mark c.requires.first (λ e. c.if-second-eq47.false (c.at-second.ensures ∙ e)) (λ e. c.if-second-eq42.false (c.at-second.ensures ∙ e)) c.in-Some-mark.ensures.found c.in-Some-mark.ensures.longest c.in-Some-mark.ensures.within

pub returns-in-None-mark : goal.returns-in-None-mark
returns-in-None-mark c = slash_none c.args.text.now c.args.broken c.args.place c.requires.first (λ e. c.if-second-eq47.false (c.at-second.ensures ∙ e)) (λ e. c.if-second-eq42.false (c.at-second.ensures ∙ e)) c.in-None-mark.ensures.none
