use Rattle.std.proofs.Common.{◌≡◌, take}
use Rattle.scope_names.proofs.parts.copy_all.Given as goal

abbrev pub invariant-loop-item : goal.invariant-loop-item
invariant-loop-item l = l.made ≡ take l.item-index l.given
