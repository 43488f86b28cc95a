use Rattle.std.proofs.Common.{◌≡◌, ◌≤◌, ◌++◌, length}
use Rattle.indexmap.specs.IndexMap.{spare}
use Rattle.object_props.proofs.many.move_into.Given as goal

-- what is left follows what is there, and finds its room
abbrev pub invariant-loop-key : goal.invariant-loop-key
invariant-loop-key g l =
    (l.map.entries ++ l.key-iterator.rest.items ≡ l.fn.map.entries ++ l.fn.pairs.items) × (length l.key-iterator.rest.items ≤ spare l.map)
