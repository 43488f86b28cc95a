use Rattle.js_lexer.proofs.PieceLemmas.{word_found}
use Rattle.js_lexer.proofs.pieces.word_piece.Goals as goal

pub returns-in-Ok : goal.returns-in-Ok
returns-in-Ok c = word_found c.args.text.now c.args.broken c.args.place c.word_end-after.result c.in-Ok.kind c.word_end-after.ensures.found c.word_end-after.ensures.longest c.in-Ok.ensures
