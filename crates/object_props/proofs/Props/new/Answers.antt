use Rattle.object_props.proofs.Places.{IsDistinct-nil}
use Rattle.object_props.proofs.Props.new.Goals as goal

pub invariant_of-result : goal.invariant_of-result
invariant_of-result g c = rw c.new.ensures.items (IsDistinct-nil g.K.PartialEq.eq)
