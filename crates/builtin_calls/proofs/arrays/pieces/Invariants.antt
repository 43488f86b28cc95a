use Rattle.std.proofs.Common.{map, drop, ◌≤◌, ◌∷◌, ◌^◌}
use Rattle.turk_base.specs.Values as model
use Rattle.turk_base.specs.BuiltIns as spec
use Rattle.value_cells.specs.Seen.{val_in, count}
use Rattle.builtin_calls.specs.Gives.{Leads}
use Rattle.builtin_calls.proofs.arrays.pieces.Given as goal

abbrev pub invariant-loop-value : goal.invariant-loop-value
invariant-loop-value g l =
    let s = g.H.Heap.seen l.fn.heap in
    let t = g.H.Heap.seen l.heap in
    record {
      same : Leads (λ nu. spec.pieces (nu l.out) (model.Object (nu l.this) ∷ map (val_in nu) l.values) 0) (λ nu. spec.pieces (nu l.out) (map (val_in nu) (drop l.value-index l.values)) l.next) s t;
      more : count s ≤ count t;
      small : l.next ≤ 2 ^ 53;
    }
