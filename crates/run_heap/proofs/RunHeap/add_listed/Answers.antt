use Rattle.std.proofs.Common.{rules, ◌≡◌, length}
use Rattle.run_heap.proofs.Listed.{adds_next}
use Rattle.run_heap.proofs.RunHeap.add_listed.Goals as goal

pub loop-place-preserved : goal.loop-place-preserved
loop-place-preserved c =
    let long : c.len-place-end.result ≡ length c.in_ok-keys.keys.items = search rules in
    adds_next c.kind-kind.result.now c.args.had.now.items c.loop-place.had.items c.in_ok-keys.keys.items c.loop-place.place c.len-place-end.result c.index.result.now c.list_key.new.had.items c.loop-place-test.true long c.index.ensures
    c.loop-place.invariant c.in_ok-list_key.ensures
