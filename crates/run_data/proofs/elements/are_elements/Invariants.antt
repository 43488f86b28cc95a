use Rattle.std.proofs.Common.{◌≡◌, ◌≤◌, drop}
use Rattle.run_data.specs.Elements.{counted}
use Rattle.run_data.proofs.elements.are_elements.Given as goal

abbrev pub invariant-loop-place : goal.invariant-loop-place
invariant-loop-place l = record {
  few : l.found ≤ l.place;
  left : counted l.many l.found (drop l.place l.keys) ≡ counted l.many 0 l.keys;
}
