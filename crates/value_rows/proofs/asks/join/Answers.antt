use Rattle.js_tree.specs.ScriptCalls.{join_row}
use Rattle.run_host.proofs.Fits.{valued}
use Rattle.value_rows.proofs.asks.join.Goals as goal

pub returns-clause-ran : goal.returns-clause-ran
unfolding join_row
returns-clause-ran g c = valued _ c.join.result c.join.ensures.did
