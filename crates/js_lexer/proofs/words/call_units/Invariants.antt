use Rattle.std.proofs.Common.{◌≡◌, take}
use Rattle.js_lexer.proofs.words.call_units.Given as goal

abbrev pub invariant-loop-byte : goal.invariant-loop-byte
invariant-loop-byte l = l.units ≡ take l.byte-index l.text
