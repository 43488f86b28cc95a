use Rattle.std.proofs.Common.{◌≤◌, ◌+◌, ◌-◌, length}
use Rattle.js_lexer.specs.Pieces.{Body}
use Rattle.js_lexer.proofs.texts.quoted.Given as goal

abbrev pub invariant-parts : goal.invariant-parts
invariant-parts l = record {
  body : Body l.text l.quote (l.place + 1) l.units l.here;
  after : l.place + 1 ≤ l.here;
  within : l.here ≤ length l.text;
}

abbrev pub decreases-parts : goal.decreases-parts
decreases-parts l = length l.initial.text - l.here
