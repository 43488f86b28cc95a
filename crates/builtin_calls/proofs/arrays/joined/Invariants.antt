use Rattle.std.proofs.Common.{◌-◌, ◌≤◌, []}
use Rattle.turk_base.specs.BuiltIns as spec
use Rattle.value_cells.specs.Seen.{count}
use Rattle.builtin_calls.specs.Gives.{Leads}
use Rattle.builtin_calls.proofs.arrays.joined.Given as goal

abbrev pub invariant-loop-i : goal.invariant-loop-i
invariant-loop-i g l =
    let s = g.H.Heap.seen l.fn.heap in
    let t = g.H.Heap.seen l.heap in
    record {
      same : Leads (λ nu. spec.joined (nu l.this) l.separator l.length 0 []) (λ nu. spec.joined (nu l.this) l.separator (l.length - l.i) l.i l.text) s t;
      more : count s ≤ count t;
    }
