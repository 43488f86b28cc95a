use Rattle.js_tree.specs.Statements.{block_row}
use Rattle.tree_rows.proofs.below.Below.block.Goals as goal

pub returns-clause-ran : goal.returns-clause-ran
unfolding block_row
returns-clause-ran g c = c.list.ensures.ran
