use Rattle.std.proofs.Common.{◌≡◌, ◌≤◌, length, take}
use Rattle.eval_ops.proofs.Notes.{gone_in}
use Rattle.eval_ops.proofs.branches.any_absent.Given as goal

abbrev pub decreases-loop-place : goal.decreases-loop-place
decreases-loop-place l = l.place

abbrev pub invariant-loop-place : goal.invariant-loop-place
invariant-loop-place l = record {
  within : l.place ≤ length l.gone;
  same : gone_in l.scope l.gone ≡ gone_in l.scope (take l.place l.gone);
}
