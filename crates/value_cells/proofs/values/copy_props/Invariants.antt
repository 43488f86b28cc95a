use Rattle.std.proofs.Common.{◌≡◌, take}
use Rattle.value_cells.proofs.values.copy_props.Given as goal

abbrev pub invariant-loop-place : goal.invariant-loop-place
invariant-loop-place l = l.copy ≡ take l.place l.props
