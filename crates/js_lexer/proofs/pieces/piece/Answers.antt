use Rattle.std.proofs.Common.{◌∙◌, ap, sym}
use Rattle.js_lexer.specs.Chars.{is_white, is_line_end}
use Rattle.js_lexer.proofs.PieceLemmas.{white_found, line_found}
use Rattle.js_lexer.proofs.pieces.piece.Goals as goal

pub returns-then-is_white : goal.returns-then-is_white
returns-then-is_white c = white_found c.args.text.now c.args.broken c.args.place (ap is_white (sym c.at-c.ensures) ∙ sym c.is_white.ensures ∙ c.if-is_white.true) c.requires

pub returns-then-is_line_end : goal.returns-then-is_line_end
returns-then-is_line_end c = line_found c.args.text.now c.args.broken c.args.place (ap is_line_end (sym c.at-c.ensures) ∙ sym c.is_line_end.ensures ∙ c.if-is_line_end.true) c.requires
