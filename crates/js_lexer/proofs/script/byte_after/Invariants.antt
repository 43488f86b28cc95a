use Rattle.std.proofs.Common.{◌≡◌}
use Rattle.js_lexer.specs.Tokens.{byte_of}
use Rattle.js_lexer.proofs.script.byte_after.Given as goal

abbrev pub invariant-loop-i : goal.invariant-loop-i
invariant-loop-i l = l.byte ≡ byte_of l.text l.i
