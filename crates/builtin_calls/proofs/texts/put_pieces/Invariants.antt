use Rattle.std.proofs.Common.{drop, ◌≤◌}
use Rattle.turk_base.specs.BuiltIns as spec
use Rattle.value_cells.specs.Seen.{count}
use Rattle.value_cells.specs.Does.{Onward}
use Rattle.builtin_calls.proofs.texts.put_pieces.Given as goal

abbrev pub invariant-loop-i : goal.invariant-loop-i
invariant-loop-i g l =
    let s = g.H.Heap.seen l.fn.heap in
    let t = g.H.Heap.seen l.heap in
    record {
      same : Onward (λ nu. spec.put_pieces (nu l.cell) 0 l.pieces) (λ nu. spec.put_pieces (nu l.cell) l.i (drop l.i l.pieces)) s t;
      more : count s ≤ count t;
    }
