use Rattle.std.proofs.Common.{◌≡◌, drop, map}
use Rattle.record_bytes.specs.Reading.{are_distinct}
use Rattle.record_bytes.proofs.trees.are_distinct.Given as goal

abbrev pub invariant-loop-i : goal.invariant-loop-i
invariant-loop-i l = are_distinct (map (λ f. f.0) (drop l.i l.fields)) ≡ are_distinct (map (λ f. f.0) l.fields)
