use Rattle.std.proofs.Common.{◌≡◌, subst}
use Rattle.std.specs.Prelude.{MatchOption}
use Rattle.serde_json.specs.View.{view}
use Rattle.reply_text.specs.Leaves.{leaf_data}
use Rattle.reply_text.specs.LeafData.{leaf_of, IsNoLeaf}
use Rattle.reply_text.proofs.LeafCalls.{none_at}
use Rattle.reply_text.proofs.leaves.leaves_at.Goals as goal

pub returns-in_default : goal.returns-in_default
returns-in_default c =
    let bare = subst (λ o. MatchOption o (IsNoLeaf (view c.value-item.result)) (λ l. view c.value-item.result ≡ leaf_data (leaf_of l))) c.in_default.is c.in_ok-leaf.ensures in
    none_at c.args.values.now c.loop-value.value-index c.value-item.result c.value-item.is c.loop-value-test.true bare
