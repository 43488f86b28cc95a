use Rattle.std.proofs.Common.{◌≡◌, take}
use Rattle.js_lexer.specs.Tokens.{units_of}
use Rattle.js_lexer.proofs.pieces.units_of.Given as goal

abbrev pub invariant-loop-c : goal.invariant-loop-c
invariant-loop-c l = l.units ≡ units_of (take l.c-index l.word)
