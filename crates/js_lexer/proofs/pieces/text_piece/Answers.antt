-- A text, or how it fails to end.
use Rattle.std.proofs.Common.{arith}
use Rattle.js_lexer.proofs.PieceLemmas.{text_found, text_broken, text_unclosed, text_wrong, text_long}
use Rattle.js_lexer.proofs.pieces.text_piece.Goals as goal

pub returns-then-len-gt-MOST_UNITS : goal.returns-then-len-gt-MOST_UNITS
returns-then-len-gt-MOST_UNITS c = let e = rw c.in-Ok-Closed.field-0-is at c.in-Ok-Closed.ensures in text_long c.args.text.now c.in-Ok-Closed.units c.args.broken c.args.place e.0 (omega arith) c.requires.first e.1

pub returns-else-len-gt-MOST_UNITS : goal.returns-else-len-gt-MOST_UNITS
returns-else-len-gt-MOST_UNITS c = let e = rw c.in-Ok-Closed.field-0-is at c.in-Ok-Closed.ensures in text_found c.args.text.now c.in-Ok-Closed.units c.args.broken c.args.place c.in-Ok-Closed.after (record { quote = c.requires.first; place = e.0; ends = e.1; past = e.2; small = omega arith }) (let w = e.3 in omega (arith, w)) e.4

pub returns-then-broken : goal.returns-then-broken
returns-then-broken c = let e = rw c.in-Ok-Open.field-0-is at c.in-Ok-Open.ensures in text_broken c.args.text.now e.0 c.args.broken c.args.place e.1 c.if-broken.true c.requires.first e.2

pub returns-else-broken : goal.returns-else-broken
returns-else-broken c = let e = rw c.in-Ok-Open.field-0-is at c.in-Ok-Open.ensures in text_unclosed c.args.text.now e.0 c.args.broken c.args.place e.1 c.if-broken.false c.requires.first e.2

pub returns-in-Ok-Wrong : goal.returns-in-Ok-Wrong
returns-in-Ok-Wrong c = let e = rw c.in-Ok-Wrong.field-0-is at c.in-Ok-Wrong.ensures in text_wrong c.args.text.now e.0 c.args.broken c.args.place e.1 c.requires.first e.2
