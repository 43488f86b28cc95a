use Rattle.plain_heap.proofs.Alone.{begins_plain, begins_start}
use Rattle.plain_heap.proofs.PlainHeap.new.Goals as goal

pub invariant_of-result : goal.invariant_of-result
invariant_of-result c = begins_plain c.args.fuel c.in_ok-new.field-0 c.in_ok-new.ensures

pub returns : goal.returns
returns c = begins_start c.args.fuel c.in_ok-new.field-0 c.in_ok-new.ensures
