use Rattle.std.proofs.Common.{◌≡◌, take}
use Rattle.std.specs.Prelude.{map}
use Rattle.serde_json.specs.View.{view}
use Rattle.reply_text.specs.Leaves.{leaf_data}
use Rattle.reply_text.specs.LeafData.{leaves_of}
use Rattle.reply_text.proofs.leaves.leaves_at.Given as goal

abbrev pub invariant-loop-value : goal.invariant-loop-value
invariant-loop-value l = map view (take l.value-index l.values) ≡ map leaf_data (leaves_of l.found.items)
