-- A number, or none.
use Rattle.std.proofs.Common.{sym, subst, Ok}
use Rattle.js_lexer.specs.Tokens.{PieceAt}
use Rattle.js_lexer.specs.declared.Kind.TheVariants as kind
use Rattle.js_lexer.specs.declared.Piece.TheVariants as piece
use Rattle.js_lexer.proofs.PieceLemmas.{number_found, number_refused}
use Rattle.js_lexer.proofs.pieces.number_piece.Goals as goal

pub returns-in_default : goal.returns-in_default
returns-in_default c = number_refused c.args.text.now c.args.broken c.args.place c.requires.first c.in_default.ensures.none

pub returns : goal.returns
returns c = subst (λ z. PieceAt c.args.text.now c.args.broken c.args.place (Ok (piece.Token (kind.Number z), c.in-Some.after))) (sym c.whole_of.ensures) (number_found c.args.text.now c.args.broken c.in-Some.value c.args.place c.in-Some.after c.in-Some.ensures.found)
