use Rattle.std.proofs.Common.{◌≡◌, ◌≤◌, ◌++◌, ◌-◌, false, List, length}
use Rattle.js_lexer.specs.Tokens.{byte_of, Cut, Fails}
use Rattle.js_lexer.specs.declared.Token.{Token}
use Rattle.js_lexer.specs.declared.LexStop.{LexStop}
use Rattle.js_lexer.proofs.script.cut.Given as goal

-- What the rest of the text is cut into, after the tokens so far, the whole is cut into; and so for its fault.
abbrev pub invariant-loop-place : goal.invariant-loop-place
invariant-loop-place l = record {
  within : l.place ≤ length l.text;
  byte : l.byte ≡ byte_of l.text l.place;
  cuts : (us : List Token) → Cut l.text l.after l.place us → Cut l.text false l.first (l.tokens.items ++ us);
  fails : (f : LexStop) → Fails l.text l.broken l.place f → Fails l.text l.broken l.first f;
}

abbrev pub decreases-loop-place : goal.decreases-loop-place
decreases-loop-place l = length l.initial.text - l.place
