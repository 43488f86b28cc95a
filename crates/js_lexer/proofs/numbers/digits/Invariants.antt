use Rattle.std.proofs.Common.{◌≤◌, ◌-◌, length}
use Rattle.js_lexer.specs.Pieces.{AreDigits, value}
use Rattle.js_lexer.proofs.NumberLemmas.{Counted}
use Rattle.js_lexer.proofs.numbers.digits.Given as goal

abbrev pub invariant-loop-digit : goal.invariant-loop-digit
invariant-loop-digit l = record {
  after : l.place ≤ l.after;
  within : l.after ≤ length l.text;
  each : AreDigits l.base l.text l.place l.after;
  counted : Counted l.value (value l.base l.text l.place (l.after - l.place));
}

abbrev pub decreases-loop-digit : goal.decreases-loop-digit
decreases-loop-digit l = length l.initial.text - l.after
