use Rattle.std.proofs.Common.{map, drop, ◌≤◌}
use Rattle.turk_base.specs.BuiltIns as spec
use Rattle.value_cells.specs.Seen.{val_in, count}
use Rattle.value_cells.specs.Does.{Onward}
use Rattle.builtin_calls.proofs.arrays.push.Given as goal

abbrev pub invariant-loop-value : goal.invariant-loop-value
invariant-loop-value g l =
    let s = g.H.Heap.seen l.fn.heap in
    let t = g.H.Heap.seen l.heap in
    record {
      same : Onward (λ nu. spec.push (nu l.this) (map (val_in nu) l.values)) (λ nu. spec.push (nu l.this) (map (val_in nu) (drop l.value-index l.values))) s t;
      more : count s ≤ count t;
    }
