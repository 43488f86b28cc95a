use Rattle.std.proofs.Common.{◌-◌, ◌+◌, ◌≤◌}
use Rattle.turk_base.specs.Prog.{Get, ask}
use Rattle.turk_base.specs.Errors.{index_text}
use Rattle.turk_base.specs.BuiltIns as spec
use Rattle.value_cells.specs.Seen.{count}
use Rattle.builtin_calls.specs.Gives.{Leads}
use Rattle.builtin_calls.proofs.arrays.copy_items.Given as goal

abbrev pub invariant-loop-i : goal.invariant-loop-i
invariant-loop-i g l =
    let s = g.H.Heap.seen l.fn.heap in
    let t = g.H.Heap.seen l.heap in
    record {
      same : Leads (λ nu. spec.count_up l.number 0 (λ i go. ask (Get (nu l.from) (index_text (l.low + i))) (λ v. spec.put_found (nu l.to) (l.at + i) v go)))
          (λ nu. spec.count_up (l.number - l.i) l.i (λ i go. ask (Get (nu l.from) (index_text (l.low + i))) (λ v. spec.put_found (nu l.to) (l.at + i) v go))) s t;
      more : count s ≤ count t;
    }
