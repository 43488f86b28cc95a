use Rattle.std.proofs.Common.{◌≡◌, ◌<◌, ℕ, false, Some, slice_get}
use Rattle.js_tree.specs.Calls.{has}
use Rattle.js_tree.specs.Binds.{FrameNames}
use Rattle.scope_names.specs.Shown.{shown}
use Rattle.scope_names.proofs.scopes.nearest.Given as goal

abbrev pub invariant-loop-out : goal.invariant-loop-out
invariant-loop-out l = (k : ℕ) (f : FrameNames) → k < l.out → slice_get (shown l.frames) k ≡ Some f → has f.names l.name ≡ false
