use Rattle.std.proofs.Common.{◌≤◌, ◌-◌, length}
use Rattle.js_lexer.specs.Pieces.{Spells}
use Rattle.js_lexer.proofs.marks.mark.Given as goal

abbrev pub invariant-loop-longer : goal.invariant-loop-longer
invariant-loop-longer l = record {
  spells : Spells l.text l.place l.mark l.after;
  within : l.after ≤ length l.text;
}

abbrev pub decreases-loop-longer : goal.decreases-loop-longer
decreases-loop-longer l = length l.initial.text - l.after
